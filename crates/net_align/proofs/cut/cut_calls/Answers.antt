use Rattle.std.proofs.Common.{◌≡◌, ◌<◌, ◌++◌, ℕ, List, Some, None, take, map, length, refl, sym, ap, ap₂, ◌∙◌, rules, append-nil}
use Rattle.std.specs.Prelude.{slice_index_or, flat_map}
use Rattle.std.proofs.lemmas.Option.{slice_get_read}
use Rattle.call_order.specs.Order.{lists}
use Rattle.plain_netlist.specs.Netlist.{CallRow as PlainCall}
use Rattle.net_model.specs.Rows.{plain_call}
use Rattle.net_model.specs.declared.netlist.CallRow.{CallRow}
use Rattle.net_align.specs.Sights.{short_call, net_of, new_of, pins_of}
use Rattle.net_align.proofs.Rows.{map_more}
use Rattle.net_align.proofs.Seeing.{flat_more, lists_at}
use Rattle.net_align.proofs.Shortened.{short_kept, short_gone, call_added}
use Rattle.net_align.proofs.cut.cut_calls.Goals.{in-Some+in_ok-nets_at+in_ok-push, in_default}
use Rattle.net_align.proofs.cut.cut_calls.Goals as goal

pub loop-call-preserved : goal.loop-call-preserved
loop-call-preserved c =
    let calls = c.args.calls.now in
    let numbers = c.args.numbers.now in
    let held = c.args.held.now in
    let i = c.loop-call.call-index in
    let r = c.call-item.result in
    let rows = map plain_call c.loop-call.rows.items in
    let to = new_of c.args.nets.now.places.items in
    let f = short_call numbers (lists held) to in
    let below : i < length calls = search rules in
    let low : r.circuit < length held = c.requires i r (slice_get_read calls (length calls) i r refl below c.call-item.is) in
    let step : map plain_call c.match-entry.rows.items ≡ rows ++ f (plain_call r)
    = elim c.match-entry.branch [
      | in-Some+in_ok-nets_at+in_ok-push w ↦
          let number = w.in-Some.number in
          let kept : slice_index_or numbers r.circuit None ≡ Some number = sym c.entry.ensures ∙ w.in-Some.is in
          let at : w.deref.result.now ≡ r.nets.items = w.deref.ensures.value in
          let pins : w.deref-in-Some.result.now ≡ pins_of (lists held) r.circuit = w.deref-in-Some.ensures.value ∙ sym (lists_at held r.circuit w.index-held-call.result low w.index-held-call.is) in
          let nets : w.in_ok-nets_at.field-0.items ≡ map to (map (net_of r.nets.items) (pins_of (lists held) r.circuit)) = w.in_ok-nets_at.ensures ∙ ap₂ (λ (a p : List ℕ). map to (map (net_of a) p)) at pins in
          let new : CallRow = record { circuit = number; nets = w.in_ok-nets_at.field-0 } in
          call_added c.loop-call.rows.items c.match-entry.rows.items new (f (plain_call r))
          (ap (λ (v : _). v.items) w.rows-is ∙ w.in_ok-push.ensures.items)
          (short_kept numbers (lists held) to r new kept refl nets)
      | in_default w ↦
          let gone : slice_index_or numbers r.circuit None ≡ None = search rules in
          ap (λ (v : _). map plain_call v.items) w.rows-is ∙ (sym (append-nil rows) ∙ ap (λ (t : List PlainCall). rows ++ t) (sym (short_gone numbers (lists held) to r gone)))
    ] in
    step
    ∙ (ap (λ (t : List PlainCall). t ++ f (plain_call r)) c.loop-call.invariant
    ∙ (sym (flat_more f (map plain_call (take i calls)) (plain_call r))
    ∙ ap (λ (t : List PlainCall). flat_map f t) (sym (map_more plain_call calls i r below c.call-item.is))))
