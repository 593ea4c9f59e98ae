-- The parts of which a cell's layer is made.
use Rattle.std.specs.Prelude.{◌≡◌, ◌⊎◌, ◌↔◌, ℕ, ◌+◌, ◌≤◌, true, false, ◌&&◌, not, List}
use Rattle.geo_base.specs.declared.layer.LayerKey.{LayerKey}
use Rattle.geo_base.specs.declared.shapes.Rect.{Rect}
use Rattle.geo_base.specs.declared.shapes.Square.{Square}
use Rattle.geo_base.specs.Motions.{moved_square}
use Rattle.rect_sets.specs.Rects.{covers, IsCanonical}
use Rattle.flat_layout.specs.Layers.{Formula, Input, inputs, reach, InFlat, IsCalmAt}
use Rattle.flat_layout.specs.Layout.{IsReached, IsPlaced, Place}
use Rattle.flat_layout.specs.Values.{IsLocalLayer}
use Rattle.cell_graph.specs.Linked.{Linked, IsSound, hull_of, cell_at, own_of, plain}
use Rattle.deep_laws.specs.Layers.{IsDerived, IsNearOwn, IsFromOpen}
use Rattle.deep_tables.specs.Frames.{IsFramedOpen, IsInGrown}

-- a square of a placed cell's hull, grown by a name's reach, near which all is shut there comes to
-- q
pub record IsFromCalmHull (d : Linked) (name : Formula) (cell : ℕ) (q : Square) : Type 0 where
  pub number : ℕ
  pub place : Place
  pub square : Square
  pub placed : IsPlaced (plain d) cell number place
  pub held : IsInGrown (reach name) (hull_of (cell_at d place.cell)) square
  pub calm : IsCalmAt (plain d) (inputs name) (reach name) place.cell square
  pub image : moved_square place.motion square ≡ q

-- squares that are looked at, the flat ones of these, those of the cell's grown hull near which not
-- all is shut, and those of the others that placed cells keep
pub record AreParts (d : Linked) (name : Formula) (cell : ℕ) (places flat zone calm : List Rect) :
    Type 0 where
  pub own : (q : Square) → IsNearOwn (plain d) cell name q → covers places q ≡ true
  pub stirred : (q : Square) → IsFromOpen (plain d) cell name q → (covers places q ≡ true)
      ⊎ (covers zone q ≡ true)
  pub flats : (q : Square) → (covers flat q ≡ true) ↔ ((covers places q ≡ true)
      × InFlat (plain d) cell name q)
  pub zones : (q : Square) → IsInGrown (reach name) (hull_of (cell_at d cell)) q
      → (covers zone q ≡ false) ↔ IsCalmAt (plain d) (inputs name) (reach name) cell q
  pub calms : (q : Square) → covers flat q ≡ true → covers zone q ≡ false
      → (covers calm q ≡ true) ↔ IsFromCalmHull d name cell q

-- what the placed cells leave is told, in their hulls grown by n
abbrev pub HaveZones : ℕ → Linked → Formula → ℕ → Type 0
HaveZones n d name cell = (k : ℕ) (p : Place) → IsPlaced (plain d) cell k p → (zone : List Rect)
    × IsFramedOpen n d (inputs name) p.cell zone × IsCanonical zone

-- flat squares among those looked at, without those near which not all is shut and those that
-- placed cells keep: the cell's layer. What placed cells leave counts twice as far as the name
-- reaches
abbrev pub LayerLaw : Type 0
LayerLaw = (n : ℕ) (d : Linked) (name : Formula) (cell : ℕ) (places flat zone calm local : List
    Rect) → IsDerived name → reach name + reach name ≤ n → IsSound d → IsReached (plain d) cell
    → HaveZones n d name cell → AreParts d name cell places flat zone calm → IsCanonical local
    → ((q : Square)
    → covers local q ≡ ((covers flat q && not (covers zone q)) && not (covers calm q)))
    → IsLocalLayer (plain d) name cell local

-- of an input layer a cell holds its own squares
abbrev pub InputLayerLaw : Type 0
InputLayerLaw = (d : Linked) (cell : ℕ) (key : LayerKey) → IsSound d
    → IsCanonical (own_of (cell_at d cell) key)
    → IsLocalLayer (plain d) (Input key) cell (own_of (cell_at d cell) key)
