use Rattle.std.proofs.Common.{◌≡◌, ◌<◌, length, refl, arith}
use Rattle.flat_layout.specs.Circuits.{true_places}
use Rattle.circuit_phase.proofs.Marked.{places_more, places_end}
use Rattle.circuit_phase.proofs.drawn.drawn_nets.Goals as goal

pub loop-net-init : goal.loop-net-init
loop-net-init c = rw c.new-nets.ensures.items refl

pub loop-net-preserved : goal.loop-net-preserved
loop-net-preserved c =
    let long : length c.args.drawn.now ≡ length c.args.drawn.now = refl in
    let lt : c.loop-net.net < length c.args.drawn.now = omega (arith, long) in
    places_more c.args.drawn.now c.loop-net.net c.loop-net.nets.items c.push_if.new.nets.items (true_places 0 c.args.drawn.now) lt c.in_ok-push_if.ensures c.loop-net.invariant

pub returns : goal.returns
returns c =
    let long : length c.args.drawn.now ≡ length c.args.drawn.now = refl in
    let end : c.loop-net.net ≡ length c.args.drawn.now = omega (arith, long) in
    places_end c.args.drawn.now c.loop-net.net c.loop-net.nets.items (true_places 0 c.args.drawn.now) end c.loop-net.invariant
