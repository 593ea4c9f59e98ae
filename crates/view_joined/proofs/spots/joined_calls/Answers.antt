use Rattle.std.proofs.Common.{◌≡◌, ◌-◌, inl, List, [], ◌∷◌, drop, get_or, length, map, subst, sym, take, arith}
use Rattle.base_laws.proofs.Lists.{none_left}
use Rattle.std.proofs.lemmas.Result.{err_from_is_err_and}
use Rattle.flat_layout.specs.Layout.{Some_of}
use Rattle.geo_base.specs.declared.motion.Motion.{Motion}
use Rattle.part_origins.specs.Inside.{plain_spot}
use Rattle.part_origins.specs.declared.inside.Part.{Part}
use Rattle.view_joined.proofs.Growing.{first_of}
use Rattle.view_joined.proofs.Motions.{HasCalls, calls_begin, calls_end, calls_more}
use Rattle.view_joined.specs.Spots.{IsFarCallAt}
use Rattle.view_drawing.proofs.Fars.{err_as}
use Rattle.view_joined.proofs.spots.joined_calls.Goals as goal

pub calls-preserved : goal.calls-preserved
calls-preserved c =
    let spots = map plain_spot c.args.spots.now in
    let drawings = c.args.drawings.now in
    let motions = c.args.motions.now in
    let all = c.args.calls.now in
    let rest = c.calls.rest.now in
    let zero : Part = record { spot = 0; number = 0 } in
    let call : Part = get_or rest 0 zero in
    let after = take (length rest - 1) (drop 1 rest) in
    let out = c.calls.out.items in
    let e : rest ≡ call ∷ after = first_of rest zero c.in-len1-up.len_at_least in
    let before = subst (λ (z : List Part). HasCalls spots drawings motions all out z) e c.calls.invariant in
    let next = calls_more spots drawings motions all out call after c.in_ok-motion.motion before c.in_ok-motion.ensures.moved c.in_ok-motion.ensures.small in
    subst (λ (z : List Motion). HasCalls spots drawings motions all z after) (sym c.in_ok-keep.ensures.kept) next

pub returns-clause-motions : goal.returns-clause-motions
returns-clause-motions c =
    let spots = map plain_spot c.args.spots.now in
    let low = c.in_default.len_below in
    let none : c.calls.rest.now ≡ [] = none_left c.calls.rest.now (omega arith) in
    calls_end spots c.args.drawings.now c.args.motions.now c.args.calls.now c.calls.out.items
    (subst (λ (z : List Part). HasCalls spots c.args.drawings.now c.args.motions.now c.args.calls.now c.calls.out.items z) none c.calls.invariant)

pub calls-init : goal.calls-init
calls-init c =
    let spots = map plain_spot c.args.spots.now in
    subst (λ (z : List Motion). HasCalls spots c.args.drawings.now c.args.motions.now c.args.calls.now z c.args.calls.now) (sym c.in_ok-out.ensures.items) (calls_begin spots c.args.drawings.now c.args.motions.now c.args.calls.now)

pub returns-in_err-motion-clause-far : goal.returns-in_err-motion-clause-far
returns-in_err-motion-clause-far c =
    let x = err_from_is_err_and c.from_residual-in_err-motion.result c.from_residual-in_err-motion.ensures.1 in
    let rest = c.calls.rest.now in
    let zero : Part = record { spot = 0; number = 0 } in
    let call : Part = get_or rest 0 zero in
    let after = take (length rest - 1) (drop 1 rest) in
    let e : rest ≡ call ∷ after = first_of rest zero c.in-len1-up.len_at_least in
    rw (x.1, x.2) (λ s. c.calls.invariant.far (subst (λ (z : List Part). Some_of (IsFarCallAt (map plain_spot c.args.spots.now) c.args.drawings.now c.args.motions.now) z) (sym e) (inl (c.in_err-motion.ensures.far (err_as _ _ s)))))
