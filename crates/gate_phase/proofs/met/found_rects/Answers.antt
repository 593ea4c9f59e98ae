use Rattle.std.proofs.Common.{List, ℕ, sym, subst}
use Rattle.geo_base.specs.declared.shapes.Rect.{Rect}
use Rattle.tile_index.specs.Windows.{ArePositions}
use Rattle.gate_phase.proofs.met.found_rects.Goals as goal

pub rects_at-requires : goal.rects_at-requires
rects_at-requires c =
    subst (λ (l : List ℕ). ArePositions c.args.rects.now c.args.window.now l) (sym c.deref.ensures.value) (subst (λ (l : List Rect). ArePositions l c.args.window.now c.in_ok-near.near.items) c.requires c.in_ok-near.ensures)
