use Rattle.std.proofs.Common.{◌≡◌, ℕ, ◌<◌, true, slice_index_or}
use Rattle.std.specs.List.{All}
use Rattle.geo_base.specs.Rects.{has, IsRect}
use Rattle.geo_base.specs.declared.shapes.Square.{Square}
use Rattle.rect_sets.specs.Rects.{covers}
use Rattle.cell_context.proofs.Gathering.{no_visit}
use Rattle.zone_phase.specs.Pulls.{IsPulled}
use Rattle.zone_phase.proofs.pulls.push_pulled.Given as goal

abbrev pub invariant-loop-visit : goal.invariant-loop-visit
invariant-loop-visit l = record {
  rects : All IsRect l.out.items;
  right : (q : Square) → covers l.out.items q ≡ true → IsPulled l.place l.hull l.rect l.fn.out.items q;
  old : (q : Square) → covers l.fn.out.items q ≡ true → covers l.out.items q ≡ true;
  found : (k : ℕ) → k < l.visit-index → (q : Square) → has (slice_index_or l.visit-items k no_visit).window q ≡ true → covers l.out.items q ≡ true;
}
