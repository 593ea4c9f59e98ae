use Rattle.std.proofs.Common.{◌≡◌, ℕ, List, true, slice_index_or, arith, subst, length, sym, ◌∙◌, refl}
use Rattle.geo_base.specs.declared.shapes.Rect.{Rect}
use Rattle.rect_sets.specs.Rects.{covers}
use Rattle.std.proofs.lemmas.Option.{slice_get-get_or}
use Rattle.zone_phase.specs.declared.uses.Use.{Use}
use Rattle.zone_phase.proofs.Using.{GrownBy, full_all, uses_more}
use Rattle.zone_phase.proofs.zones.push_uses.Goals as goal

abbrev no_use : Use
no_use = record { job = 0; index = 0 }

pub push_use-requires-clause-found : goal.push_use-requires-clause-found
push_use-requires-clause-found g c = c.requires.uses.each c.loop-found.found-index _ (slice_get-get_or c.args.uses.now c.loop-found.found-index no_use c.loop-found-test.true)

pub push_use-requires-clause-may : goal.push_use-requires-clause-may
push_use-requires-clause-may g c = c.requires.may c.loop-found.found-index _ (slice_get-get_or c.args.uses.now c.loop-found.found-index no_use c.loop-found-test.true)

pub push_use-requires-clause-entry : goal.push_use-requires-clause-entry
push_use-requires-clause-entry g c = c.requires.entries c.loop-found.found-index _ (slice_get-get_or c.args.uses.now c.loop-found.found-index no_use c.loop-found-test.true)

pub loop-found-preserved : goal.loop-found-preserved
loop-found-preserved g c =
    let same = c.in_ok-room.ensures.covers in
    let brings = c.in_ok-push_use.ensures.exact in
    record {
      rects = c.in_ok-room.ensures.rects;
      exact = uses_more c.args.frame.now.design.now (g.R.Reads.value c.args.reads.now) c.args.name c.args.frame.now.cell c.args.frame.now.key c.args.frame.now.grown c.args.uses.now c.loop-found.found-index (slice_index_or c.args.uses.now c.loop-found.found-index no_use)
          c.args.out.now.items c.loop-found.out.items c.thin.new.out.items (slice_get-get_or c.args.uses.now c.loop-found.found-index no_use c.loop-found-test.true) c.loop-found.invariant.exact
          (λ q. (λ h. (brings q).0 (sym (same q) ∙ h), λ s. same q ∙ (brings q).1 s));
    }

pub returns-clause-exact : goal.returns-clause-exact
returns-clause-exact g c =
    let e : c.loop-found.found-index ≡ length c.args.uses.now = (let a = c.loop-found-test.false in let b = c.loop-found.auto.found-index-end in omega arith) in
    subst (λ (n : ℕ). GrownBy c.args.frame.now.design.now (g.R.Reads.value c.args.reads.now) c.args.name c.args.frame.now.cell c.args.frame.now.key c.args.frame.now.grown c.args.uses.now n c.args.out.now.items c.loop-found.out.items) e c.loop-found.invariant.exact

pub returns-then-is_last-clause-exact : goal.returns-then-is_last-clause-exact
returns-then-is_last-clause-exact g c =
    full_all c.args.frame.now.design.now (g.R.Reads.value c.args.reads.now) c.args.name c.args.frame.now.cell c.args.frame.now.key c.args.frame.now.grown c.args.uses.now c.loop-found.found-index c.args.out.now.items c.loop-found.out.items
    c.loop-found.invariant.exact (λ q h. subst (λ (rs : List Rect). covers rs q ≡ true) c.deref.ensures.value (c.if-is_last.ensures refl q h))
