use Rattle.std.proofs.Common.{◌∙◌, get_or, subst, sym}
use Rattle.std.proofs.lemmas.Bool.{false≢true}
use Rattle.geo_base.specs.Laws.{IsMotionAfter}
use Rattle.geo_base.specs.Near.{IsNearMotion}
use Rattle.geo_base.specs.declared.motion.Motion.{Motion}
use Rattle.view_joined.proofs.Small.{call_small, near_motion, shift_at}
use Rattle.view_joined.specs.Spots.{call_motion, still}
use Rattle.view_joined.proofs.spots.call_at.Goals as goal

pub then-both-requires-clause-near : goal.then-both-requires-clause-near
then-both-requires-clause-near c =
    subst IsNearMotion (sym c.call_motion-own.ensures) (near_motion _ (call_small c.args.drawings.now c.circuit_at.result c.args.call.number c.requires.drawings))

pub then-both-requires-clause-near_outer : goal.then-both-requires-clause-near_outer
then-both-requires-clause-near_outer c =
    subst IsNearMotion (sym c.motion_at-outer.ensures) (near_motion _ (shift_at c.args.motions.now c.args.call.spot c.requires.motions))

pub returns-clause-far : goal.returns-clause-far
returns-clause-far c s =
    let ds = c.args.drawings.now in
    let k = c.args.call.number in
    let i = c.args.call.spot in
    let both = c.then-both.result in
    let by_own = subst (λ (m : Motion). IsMotionAfter m c.motion_at-outer.result both) c.call_motion-own.ensures c.then-both.ensures.after in
    let by_outer = subst (λ (m : Motion). IsMotionAfter (call_motion ds c.circuit_at.result k) m both) c.motion_at-outer.ensures by_own in
    let moved = subst (λ n. IsMotionAfter (call_motion ds n k) (get_or c.args.motions.now i still) both) c.circuit_at.ensures by_outer in
    (both, moved, λ small. false≢true (sym c.if-is_small_shift.false ∙ c.is_small_shift.ensures.1 small))
