-- Disturbed squares of a cell from those of its parents.
use Rattle.std.specs.Prelude.{◌≡◌, ◌⊎◌, ◌↔◌, ℕ, true, List, [], ◌∷◌, Some}
use Rattle.geo_base.specs.Motions.{moved_square}
use Rattle.geo_base.specs.declared.layer.LayerKey.{LayerKey}
use Rattle.geo_base.specs.declared.shapes.Rect.{Rect}
use Rattle.geo_base.specs.declared.shapes.Square.{Square}
use Rattle.rect_sets.specs.Rects.{covers}
use Rattle.flat_layout.specs.Layout.{IsReached}
use Rattle.cell_graph.specs.declared.cells.Place.{Place}
use Rattle.cell_graph.specs.Linked.{Linked, IsSound, IsStep, plain, motion_at, hull_of, cell_at}
use Rattle.cell_context.specs.Over.{IsOver}
use Rattle.deep_laws.specs.Zones.{IsFromSibling}
use Rattle.deep_tables.specs.Frames.{IsFramedZone, IsInGrown}

-- a placed cell's grown hull comes to lie in the grown hull of the cell that places it
abbrev pub GrownLaw : Type 0
GrownLaw = (n : ℕ) (d : Linked) (cell i row column : ℕ) (p : Place) (q : Square) → IsSound d
    → IsStep d cell i row column p
    → IsInGrown n (hull_of (cell_at d p.cell)) q
    → IsInGrown n (hull_of (cell_at d cell)) (moved_square (motion_at p row column) q)

-- a reference of a reached parent brings q onto the parent's disturbed squares, or onto shapes
-- beside it
pub record IsBrought (d : Linked) (zones : ℕ
    → List Rect) (cell : ℕ) (key : LayerKey) (q : Square) : Type 0 where
  pub parent : ℕ
  pub index : ℕ
  pub row : ℕ
  pub column : ℕ
  pub from : Place
  pub reached : IsReached (plain d) parent
  pub step : IsStep d parent index row column from
  pub here : from.cell ≡ cell
  pub why : (covers (zones parent) (moved_square (motion_at from row column) q) ≡ true)
      ⊎ (IsOver d parent (Some index) key (moved_square (motion_at from row column) q)
      ⊎ IsFromSibling d from row column key q)

-- where each reached parent has its disturbed squares, the cell has those that its parents'
-- references bring into its grown hull
abbrev pub ZoneStepLaw : Type 0
ZoneStepLaw = (n : ℕ) (d : Linked) (zones : ℕ
    → List Rect) (cell : ℕ) (key : LayerKey) (zone : List Rect) → IsSound d
    → ((parent i row column : ℕ) (p : Place) → IsReached (plain d) parent
    → IsStep d parent i row column p → p.cell ≡ cell
    → IsFramedZone n d (key ∷ []) parent (zones parent))
    → ((q : Square) → (covers zone q ≡ true) ↔ (IsBrought d zones cell key q
    × IsInGrown n (hull_of (cell_at d cell)) q))
    → IsFramedZone n d (key ∷ []) cell zone
