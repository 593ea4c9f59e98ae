use Rattle.std.proofs.Common.{◌<◌, sym, subst, arith, length}
use Rattle.std.proofs.lemmas.List.{length-map}
use Rattle.call_order.specs.Order.{lists}
use Rattle.call_order.specs.Walk.{State, seen, IsWalk, HasMet}
use Rattle.call_order.proofs.Calls.{is_begun}
use Rattle.call_order.proofs.walk.Walk.visit.Goals as goal

pub steps-init : goal.steps-init
steps-init c =
    let calls = lists c.args.self.now.calls.now in
    let s = seen c.args.self.now in
    let long = length-map c.args.self.now.calls.now (λ row. row.items) in
    let there : c.args.k < length calls = omega arith in
    let begun = is_begun calls s c.args.k c.requires.walk c.requires.still there in
    let same = c.in_ok-begin.ensures.done in (
      subst (λ (t : State). IsWalk calls t) (sym same) begun.0,
      subst (λ (t : State). HasMet s t c.args.k) (sym same) begun.1,
      c.in_ok-begin.ensures.same,
    )
