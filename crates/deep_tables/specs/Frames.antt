-- Disturbed squares in grown hulls, by the hulls that a design has.
use Rattle.std.specs.Prelude.{◌≡◌, ◌↔◌, ℕ, true, false, List}
use Rattle.geo_base.specs.declared.layer.LayerKey.{LayerKey}
use Rattle.geo_base.specs.declared.shapes.Rect.{Rect}
use Rattle.geo_base.specs.declared.shapes.Square.{Square}
use Rattle.rect_sets.specs.Rects.{covers, IsCanonical}
use Rattle.flat_layout.specs.Hull.{IsHullOf}
use Rattle.flat_layout.specs.Layout.{IsDisturbed, IsReached}
use Rattle.flat_layout.specs.Layers.{IsShut}
use Rattle.flat_layout.specs.Values.{IsZone, IsOpenZone}
pub use Rattle.cell_graph.specs.Grown.{IsInGrown}
pub use Rattle.geo_base.specs.Rects.{grown}
use Rattle.cell_graph.specs.Linked.{Linked, plain, hull_of, cell_at}

-- the hulls of a design are those of its reached cells
abbrev pub HasHulls : Linked → Type 0
HasHulls d = (cell : ℕ) → IsReached (plain d) cell → IsHullOf (plain d) cell
    (hull_of (cell_at d cell))

-- exactly the cell's disturbed squares for some layers, within the hull that the design has, grown
abbrev pub IsFramedZone : ℕ → Linked → List LayerKey → ℕ → List Rect → Type 0
IsFramedZone n d keys cell zone = (q : Square) → (covers zone q ≡ true)
    ↔ (IsDisturbed (plain d) keys cell q × IsInGrown n (hull_of (cell_at d cell)) q)

-- for a cell with its own hull these are its disturbed squares
abbrev pub FrameLaw : Type 0
FrameLaw = (d : Linked) (keys : List LayerKey) (n cell : ℕ) (zone : List Rect)
    → IsHullOf (plain d) cell (hull_of (cell_at d cell)) → IsCanonical zone
    → IsZone (plain d) keys n cell zone ↔ IsFramedZone n d keys cell zone

-- in that hull, squares that aren't shut for some layers: outside of them all is
pub record IsFramedOpen (n : ℕ) (d : Linked) (keys : List LayerKey) (cell : ℕ) (zone : List Rect) :
    Type 0 where
  pub inside : (q : Square) → covers zone q ≡ true
      → IsInGrown n (hull_of (cell_at d cell)) q × (IsShut (plain d) keys cell q → ⊥)
  pub shut : (q : Square) → IsInGrown n (hull_of (cell_at d cell)) q → covers zone q ≡ false
      → IsShut (plain d) keys cell q

abbrev pub OpenFrameLaw : Type 0
OpenFrameLaw = (d : Linked) (keys : List LayerKey) (n cell : ℕ) (zone : List Rect)
    → IsHullOf (plain d) cell (hull_of (cell_at d cell)) → IsCanonical zone
    → IsOpenZone (plain d) keys n cell zone ↔ IsFramedOpen n d keys cell zone
