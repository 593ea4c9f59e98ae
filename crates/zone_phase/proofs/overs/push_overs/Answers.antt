use Rattle.std.proofs.Common.{◌≡◌, ◌∙◌, inl, inr, List, true, Some, pos, arith, slice_get, slice_index_or, refl, subst, sym}
use Rattle.std.proofs.Math.Decide.{ℕ_discrete}
use Rattle.std.proofs.lemmas.Option.{slice_get-get_or, slice_get_within}
use Rattle.geo_base.specs.declared.motion.Motion.{Motion}
use Rattle.geo_base.specs.declared.shapes.Rect.{Rect}
use Rattle.rect_sets.specs.Rects.{covers}
use Rattle.geo_base.specs.declared.motion.Turn.TheVariants.{R0}
use Rattle.cell_graph.specs.declared.cells.Place.{Place}
use Rattle.zone_phase.specs.declared.neighbours.Neighbour.{Neighbour}
use Rattle.zone_phase.specs.Neighbours.{IsOverBy}
use Rattle.zone_phase.proofs.Nearing.{some_here}
use Rattle.zone_phase.proofs.Over.{some_index}
use Rattle.zone_phase.proofs.overs.push_overs.Goals as goal

abbrev no_motion : Motion
no_motion = record { turn = R0; dx = pos 0; dy = pos 0 }

abbrev no_place : Place
no_place = record { cell = 0; motion = no_motion; columns = 0; rows = 0; column_step = record { x = pos 0; y = pos 0 }; row_step = record { x = pos 0; y = pos 0 } }

abbrev no_neighbour : Neighbour
no_neighbour = record { place = no_place; other = no_place; relative = no_motion }

one_some : (n m : Neighbour) → Some n ≡ Some m → n ≡ m
one_some n m e = cc

pub push_over-requires-clause-neighbour : goal.push_over-requires-clause-neighbour
push_over-requires-clause-neighbour c = c.requires.neighbours c.loop-neighbour.neighbour-index _ (slice_get-get_or c.args.neighbours.now c.loop-neighbour.neighbour-index no_neighbour c.loop-neighbour-test.true)

pub loop-neighbour-preserved : goal.loop-neighbour-preserved
loop-neighbour-preserved c =
    let d = c.args.design.now in let key = c.args.key in let xs = c.args.neighbours.now in let i = c.loop-neighbour.neighbour-index in
    let n = slice_index_or xs i no_neighbour in
    let at = slice_get-get_or xs i no_neighbour c.loop-neighbour-test.true in
    let had = c.loop-neighbour.invariant in
    let e = c.in_ok-push_over.ensures.exact in let same = c.in_ok-room.ensures.covers in
    record {
      rects = c.in_ok-room.ensures.rects;
      right = λ q f. elim ((e q).0 (sym (same q) ∙ f)) [ inl h ↦ had.right q h | inr o ↦ inr (o.0, some_here (IsOverBy d key q) xs i n at o.1) ];
      old = λ q f. same q ∙ (e q).1 (inl (had.old q f));
      found = λ k m lt there q inner o. elim (ℕ_discrete k i) [
        | yes here ↦
            let one : m ≡ n = one_some m n (sym (subst (λ j. slice_get xs j ≡ Some m) here there) ∙ at) in
            same q ∙ (e q).1 (inr (inner, subst (λ x. IsOverBy d key q x) one o))
        | no not ↦ same q ∙ (e q).1 (inl (had.found k m (omega (arith, lt, not)) there q inner o))
      ];
    }

pub returns-clause-exact : goal.returns-clause-exact
returns-clause-exact c = λ q.
    let d = c.args.design.now in let had = c.loop-neighbour.invariant in let past = c.loop-neighbour-test.false in (
      had.right q,
      λ h. elim h [
        | inl f ↦ had.old q f
        | inr o ↦
            let s = some_index (IsOverBy d c.args.key q) c.args.neighbours.now o.1 in
            let lt = slice_get_within c.args.neighbours.now s.0 s.1 s.2 in
            had.found s.0 s.1 (omega (arith, lt, past)) s.2 q o.0 s.3
      ],
    )

pub returns-then-is_last-clause-exact : goal.returns-then-is_last-clause-exact
returns-then-is_last-clause-exact c = λ q.
    let had = c.loop-neighbour.invariant in (
      had.right q,
      λ h. elim h [ inl f ↦ had.old q f | inr o ↦ subst (λ (rs : List Rect). covers rs q ≡ true) c.deref.ensures.value (c.if-is_last.ensures refl q o.0) ],
    )
