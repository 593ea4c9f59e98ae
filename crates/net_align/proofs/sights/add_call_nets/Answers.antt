use Rattle.std.proofs.Common.{◌≡◌, ◌<◌, ◌++◌, [], ℕ, Bool, true, false, cond, List, Option, take, map, length, refl, sym, ap, ap₂, ◌∙◌, rules, append-nil, append_assoc}
use Rattle.std.specs.Prelude.{flat_map, is_some}
use Rattle.std.proofs.lemmas.Option.{slice_get_read}
use Rattle.call_order.specs.Order.{lists}
use Rattle.plain_netlist.specs.Netlist.{CallRow as PlainCall}
use Rattle.net_model.specs.Rows.{plain_call}
use Rattle.net_align.specs.Sights.{call_nets, net_of, is_kept, pins_of}
use Rattle.net_align.proofs.Rows.{map_more}
use Rattle.net_align.proofs.Seeing.{flat_more, lists_at}
use Rattle.net_align.proofs.sights.add_call_nets.Goals.{then-is_some+in_ok-add_pins, else-is_some}
use Rattle.net_align.proofs.sights.add_call_nets.Goals as goal

pub loop-call-preserved : goal.loop-call-preserved
loop-call-preserved c =
    let calls = c.args.calls.now in
    let numbers = c.args.numbers.now in
    let held = c.args.held.now in
    let i = c.loop-call.call-index in
    let r = c.call-item.result in
    let nets = c.loop-call.nets.items in
    let old = c.args.nets.now.items in
    let f = call_nets numbers (lists held) in
    let below : i < length calls = search rules in
    let low : r.circuit < length held = c.requires i r (slice_get_read calls (length calls) i r refl below c.call-item.is) in
    let tells : c.is_some.result ≡ is_kept numbers r.circuit = c.is_some.ensures ∙ ap (λ (o : Option ℕ). is_some o) c.entry.ensures in
    let step : c.if-is_some.nets.items ≡ nets ++ f (plain_call r)
    = elim c.if-is_some.branch [
      | then-is_some+in_ok-add_pins w ↦
          let on : is_kept numbers r.circuit ≡ true = sym tells ∙ w.if-is_some.true in
          let at : w.deref.result.now ≡ r.nets.items = w.deref.ensures.value in
          let pins : w.deref-then-is_some.result.now ≡ pins_of (lists held) r.circuit = w.deref-then-is_some.ensures.value ∙ sym (lists_at held r.circuit w.index-held-call.result low w.index-held-call.is) in
          ap (λ (v : _). v.items) w.nets-is
          ∙ (w.in_ok-add_pins.ensures
          ∙ (ap₂ (λ (a p : List ℕ). nets ++ map (net_of a) p) at pins
          ∙ ap (λ (b : Bool). nets ++ cond b (map (net_of r.nets.items) (pins_of (lists held) r.circuit)) []) (sym on)))
      | else-is_some w ↦
          let off : is_kept numbers r.circuit ≡ false = sym tells ∙ w.if-is_some.false in
          ap (λ (v : _). v.items) w.nets-is ∙ (sym (append-nil nets) ∙ ap (λ (b : Bool). nets ++ cond b (map (net_of r.nets.items) (pins_of (lists held) r.circuit)) []) (sym off))
    ] in
    step
    ∙ (ap (λ (t : List ℕ). t ++ f (plain_call r)) c.loop-call.invariant
    ∙ (append_assoc old (flat_map f (map plain_call (take i calls))) (f (plain_call r))
    ∙ (ap (λ (t : List ℕ). old ++ t) (sym (flat_more f (map plain_call (take i calls)) (plain_call r)))
    ∙ ap (λ (t : List PlainCall). old ++ flat_map f t) (sym (map_more plain_call calls i r below c.call-item.is)))))
