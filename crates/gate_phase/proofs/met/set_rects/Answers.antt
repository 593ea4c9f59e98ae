use Rattle.std.proofs.Common.{◌∙◌, List, ℕ, slice_index_or, sym, subst}
use Rattle.geo_base.specs.declared.shapes.Rect.{Rect}
use Rattle.rect_sets.specs.Rects.{IsCanonical, covers}
use Rattle.rect_sets.proofs.Unique.{listed_get, rect_of}
use Rattle.tile_index.specs.Windows.{ArePositions}
use Rattle.gate_phase.specs.Indexes.{AreMetOf}
use Rattle.gate_phase.proofs.met.set_rects.Goals as goal

pub rects_at-requires : goal.rects_at-requires
rects_at-requires c =
    let same = c.rects.ensures.list ∙ c.set.ensures in
    subst (λ (l : List ℕ). ArePositions c.rects.result.now c.args.window.now l) (sym c.deref.ensures.value) (subst (λ (l : List Rect). ArePositions l c.args.window.now c.in_ok-near.near.items) (sym same) c.in_ok-near.ensures)

pub returns-clause-rects : goal.returns-clause-rects
returns-clause-rects c = λ k r lt.
    let good : IsCanonical c.rects.result.now = subst IsCanonical (sym c.rects.ensures.list) c.rects.ensures.canonical in
    rect_of (covers c.rects.result.now) (slice_index_or c.in_ok-found.found.items k r) ((good.each _).0 (c.in_ok-found.ensures.listed _ (listed_get c.in_ok-found.found.items k r lt)))

pub returns-clause-met : goal.returns-clause-met
returns-clause-met c =
    subst (λ (l : List Rect). AreMetOf l c.args.window.now c.in_ok-found.found.items) (c.rects.ensures.list ∙ c.set.ensures) c.in_ok-found.ensures
