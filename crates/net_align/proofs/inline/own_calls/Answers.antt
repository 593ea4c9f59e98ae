use Rattle.std.proofs.Common.{◌≡◌, ◌<◌, true, false, cond, [], ◌∷◌, ◌++◌, map, length, refl, ap, ◌∙◌, rules}
use Rattle.net_model.specs.Rows.{plain_call}
use Rattle.net_align.specs.Laid.{goes_of}
use Rattle.net_align.proofs.Laying.{own_step, stays_step, goes_step}
use Rattle.net_align.proofs.inline.own_calls.Goals.{then-not-goes-call+in_ok-to_vec+in_ok-push, else-not-goes-call}
use Rattle.net_align.proofs.inline.own_calls.Goals as goal

pub loop-call-preserved : goal.loop-call-preserved
loop-call-preserved c =
    let goes = goes_of c.args.goes.now in
    let row = c.call-item.result in
    let own = map plain_call c.loop-call.own.items in
    let below : c.loop-call.call-index < length c.args.calls.now = search rules in
    let step : map plain_call c.if-not-goes-call.own.items ≡ own ++ cond (goes row.circuit) [] (plain_call row ∷ [])
    = elim c.if-not-goes-call.branch [
      | then-not-goes-call+in_ok-to_vec+in_ok-push w ↦
          let stays : goes row.circuit ≡ false = search rules in
          let copy : w.in_ok-to_vec.field-0.items ≡ row.nets.items = search rules in
          stays_step c.loop-call.own.items c.if-not-goes-call.own.items row (record { circuit = row.circuit; nets = w.in_ok-to_vec.field-0 }) (goes row.circuit) stays
          (ap (λ (v : _). v.items) w.own-is ∙ w.in_ok-push.ensures.items) refl copy
      | else-not-goes-call w ↦
          let gone : goes row.circuit ≡ true = search rules in
          goes_step c.loop-call.own.items c.if-not-goes-call.own.items row (goes row.circuit) gone (let e = w.own-is in cc)
    ] in
    own_step goes c.args.calls.now c.loop-call.call-index row own (map plain_call c.if-not-goes-call.own.items) below c.call-item.is c.loop-call.invariant step
