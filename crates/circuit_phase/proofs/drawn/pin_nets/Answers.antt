use Rattle.std.proofs.Common.{◌≡◌, ◌<◌, ◌∙◌, ◌++◌, List, [], ◌∷◌, Bool, false, get_or, length, refl, ap, arith}
use Rattle.std.specs.Prelude.{if◌then◌else◌}
use Rattle.flat_layout.specs.Circuits.{both, true_places}
use Rattle.circuit_phase.proofs.Marked.{both_long, places_more, places_end}
use Rattle.circuit_phase.proofs.drawn.pin_nets.Goals as goal

pub loop-net-init : goal.loop-net-init
loop-net-init c = rw c.new-nets.ensures.items refl

pub loop-net-preserved : goal.loop-net-preserved
loop-net-preserved c =
    let long : length (both c.args.pins.now.pin.items c.args.drawn.now) ≡ length c.args.drawn.now = both_long c.args.pins.now.pin.items c.args.drawn.now c.requires.count in
    let lt : c.loop-net.net < length (both c.args.pins.now.pin.items c.args.drawn.now) = omega (arith, long) in
    places_more (both c.args.pins.now.pin.items c.args.drawn.now) c.loop-net.net c.loop-net.nets.items c.push_if.new.nets.items (true_places 0 (both c.args.pins.now.pin.items c.args.drawn.now)) lt
    (c.in_ok-push_if.ensures ∙ ap (λ (b : Bool). c.loop-net.nets.items ++ (if b then c.loop-net.net ∷ [] else [])) (c.is_both.ensures ∙ ap (λ (l : List Bool). get_or (both l c.args.drawn.now) c.loop-net.net false) c.deref.ensures.value)) c.loop-net.invariant

pub returns : goal.returns
returns c =
    let long : length (both c.args.pins.now.pin.items c.args.drawn.now) ≡ length c.args.drawn.now = both_long c.args.pins.now.pin.items c.args.drawn.now c.requires.count in
    let end : c.loop-net.net ≡ length (both c.args.pins.now.pin.items c.args.drawn.now) = omega (arith, long) in
    places_end (both c.args.pins.now.pin.items c.args.drawn.now) c.loop-net.net c.loop-net.nets.items (true_places 0 (both c.args.pins.now.pin.items c.args.drawn.now)) end c.loop-net.invariant
