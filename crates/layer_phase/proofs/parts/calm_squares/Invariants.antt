use Rattle.std.proofs.Common.{◌≡◌, ◌↔◌, true, take}
use Rattle.std.specs.List.{All}
use Rattle.geo_base.specs.Rects.{IsRect}
use Rattle.geo_base.specs.declared.shapes.Square.{Square}
use Rattle.rect_sets.specs.Rects.{covers}
use Rattle.layer_phase.specs.Keeps.{IsKeptBy}
use Rattle.layer_phase.proofs.parts.calm_squares.Given as goal

abbrev pub invariant-loop-rect : goal.invariant-loop-rect
invariant-loop-rect l = record {
  rects : All IsRect l.out.items;
  exact : (q : Square) → (covers l.out.items q ≡ true) ↔ ((covers (take l.rect-index l.rect-items) q ≡ true) × IsKeptBy l.reach l.work.design.now l.work.zones.now l.work.cell l.name q);
}
