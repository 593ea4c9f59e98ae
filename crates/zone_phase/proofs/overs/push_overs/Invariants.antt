use Rattle.std.proofs.Common.{◌≡◌, ◌⊎◌, ℕ, ◌<◌, true, Some, slice_get}
use Rattle.std.specs.List.{All}
use Rattle.geo_base.specs.Rects.{has, IsRect}
use Rattle.geo_base.specs.declared.shapes.Square.{Square}
use Rattle.rect_sets.specs.Rects.{covers}
use Rattle.flat_layout.specs.Layout.{Some_of}
use Rattle.zone_phase.specs.declared.neighbours.Neighbour.{Neighbour}
use Rattle.zone_phase.specs.Neighbours.{IsOverBy}
use Rattle.zone_phase.proofs.overs.push_overs.Given as goal

abbrev pub invariant-loop-neighbour : goal.invariant-loop-neighbour
invariant-loop-neighbour l = record {
  rects : All IsRect l.out.items;
  right : (q : Square) → covers l.out.items q ≡ true → (covers l.fn.out.items q ≡ true) ⊎ ((has l.grown q ≡ true) × Some_of (IsOverBy l.design l.key q) l.neighbours);
  old : (q : Square) → covers l.fn.out.items q ≡ true → covers l.out.items q ≡ true;
  found : (k : ℕ) (n : Neighbour) → k < l.neighbour-index → slice_get l.neighbours k ≡ Some n → (q : Square) → has l.grown q ≡ true → IsOverBy l.design l.key q n → covers l.out.items q ≡ true;
}
