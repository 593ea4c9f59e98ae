use Rattle.std.proofs.Common.{◌++◌, ◌∷◌, [], ◌∙◌, inl, inr, ap, arith, refl, subst}
use Rattle.geo_base.specs.declared.motion.Motion.{Motion}
use Rattle.cell_graph.specs.declared.cells.Place.{Place}
use Rattle.zone_phase.specs.declared.neighbours.Neighbour.{Neighbour}
use Rattle.zone_phase.specs.Neighbours.{IsRelative, IsSeenAs, alone}
use Rattle.zone_phase.proofs.neighbours.push_neighbour.Goals as goal

pub motion_at-from-requires-clause-row : goal.motion_at-from-requires-clause-row
motion_at-from-requires-clause-row c = let e = c.requires.alone.0 in omega arith

pub motion_at-from-requires-clause-column : goal.motion_at-from-requires-clause-column
motion_at-from-requires-clause-column c = let e = c.requires.alone.1 in omega arith

pub returns-then-is_known : goal.returns-then-is_known
returns-then-is_known c =
    let v = c.args.visit.now in let place = c.args.place.now in let lies = c.relative-lies.result in
    let n : Neighbour = record { place = place; other = alone v.cell v.motion; relative = lies } in
    let seen : IsSeenAs place v n = record { place_is = refl; other = refl; lies = subst (λ (m : Motion). IsRelative v.motion m lies) c.motion_at-from.ensures.exact c.relative-lies.ensures } in
    (n, seen, inr (refl, c.if-is_known.ensures refl))

pub returns : goal.returns
returns c =
    let v = c.args.visit.now in let place = c.args.place.now in let lies = c.relative-lies.result in
    let n : Neighbour = record { place = place; other = alone v.cell v.motion; relative = lies } in
    let seen : IsSeenAs place v n = record { place_is = refl; other = refl; lies = subst (λ (m : Motion). IsRelative v.motion m lies) c.motion_at-from.ensures.exact c.relative-lies.ensures } in
    let same = ap (λ (o : Place). let m : Neighbour = record { place = place; other = o; relative = lies } in c.args.memo.now.list.items ++ m ∷ []) c.alone.ensures in
    (n, seen, inl (c.in_ok-push.ensures.items ∙ same))
