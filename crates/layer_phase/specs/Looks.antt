-- Rectangles that are looked at.
use Rattle.std.specs.Prelude.{◌≡◌, ◌⊎◌, ℕ, ◌<◌, ◌^◌, Bool, true, false, List, [], Option, Some}
use Rattle.std.specs.Prelude.{get_or, length, slice_get}
use Rattle.std.specs.List.{All}
use Rattle.geo_base.specs.Near.{IsNearRect}
use Rattle.geo_base.specs.Motions.{moved_square}
use Rattle.geo_base.specs.Rects.{has}
use Rattle.geo_base.specs.declared.layer.LayerKey.{LayerKey}
use Rattle.geo_base.specs.declared.shapes.Rect.{Rect}
use Rattle.geo_base.specs.declared.shapes.Square.{Square}
use Rattle.rect_sets.specs.Rects.{covers}
use Rattle.cell_context.specs.Placed.{Grows}
use Rattle.cell_graph.specs.declared.cells.Place.{Place}
use Rattle.cell_graph.specs.Grown.{IsInGrown}
use Rattle.cell_graph.specs.Linked.{Linked, IsRectWithin, cell_at, motion_at}
use Rattle.cell_graph.specs.Linked.{own_of, places_at, plain}
use Rattle.flat_layout.specs.Layout.{InFlatInput}
use Rattle.flat_layout.specs.Plane.{AreWithin}
use Rattle.rule_text.specs.declared.rules.LayerForm.TheVariants as form
use Rattle.rule_text.specs.declared.rules.LayerRule.{LayerRule}
use Rattle.deep_laws.specs.Layers.{IsDerived}
use Rattle.flat_layout.specs.Layers.{Formula, reach}
use Rattle.rule_layers.specs.Formulas.{formulas}
use Rattle.rule_layers.specs.Reads.{IsRead}
use Rattle.deep_tables.specs.declared.zones.CellZones.{CellZones}
use Rattle.sized_layers.specs.Sizes.{IsSetWithin}
use Rattle.layer_phase.specs.Keeps.{HasEntry, IsZoneAt}
use Rattle.layer_phase.specs.declared.exposed.Exposed.{Exposed}

-- all lie within plus or minus 2^39
abbrev pub AreNear : List Rect → Type 0
AreNear rects = All (IsRectWithin (2 ^ 39)) rects

-- the hull, grown by n, holds what they cover
abbrev pub AreHeld : ℕ → Option Rect → List Rect → Type 0
AreHeld n hull rects = (q : Square) → covers rects q ≡ true → IsInGrown n hull q

-- the name of this number is this input layer
abbrev pub IsInput : List LayerRule → ℕ → LayerKey → Type 0
IsInput names name key = (rule : LayerRule) × (slice_get names name ≡ Some rule)
    × (rule.form ≡ form.Input key)

-- a square of a cell within n of which it leaves a square for an input layer of the names, and has
-- a flat one on one
pub record IsExposed (n : ℕ) (d : Linked) (z : List (Option CellZones)) (names : List LayerRule)
    (cell : ℕ) (s : Square) : Type 0 where
  pub name : ℕ
  pub key : LayerKey
  pub named : IsInput names name key
  pub zone : List Rect
  pub entry : IsZoneAt z cell name zone
  pub near : Square
  pub disturbed : covers zone near ≡ true
  pub within : AreWithin n near s
  pub other : ℕ
  pub flat_key : LayerKey
  pub flat_named : IsInput names other flat_key
  pub shape : Square
  pub flat : InFlatInput (plain d) cell flat_key shape
  pub close : AreWithin n shape s

-- a cell's exposed squares are covered
abbrev pub AreExposed : ℕ → Linked → List (Option CellZones) → List LayerRule → ℕ → List Rect
    → Type 0
AreExposed n d z names cell rects = (s : Square) → IsExposed n d z names cell s
    → covers rects s ≡ true

-- sets with the exposed squares of their cells, all near
abbrev pub AreExposedLists : ℕ → Linked → List (Option CellZones) → List LayerRule → List Exposed
    → Type 0
AreExposedLists n d z names lists = (k : ℕ) (e : Exposed) → slice_get lists k ≡ Some e
    → AreExposed n d z names e.cell e.set × All IsNearRect e.set

-- the set at the position is of the cell
abbrev pub IsListAt : List Exposed → ℕ → ℕ → Type 0
IsListAt lists cell position = (e : Exposed) × (slice_get lists position ≡ Some e)
    × (e.cell ≡ cell)

-- the squares that the cell leaves for one of the first input layers are covered
abbrev pub HaveDisturbed : List (Option CellZones) → List LayerRule → ℕ → ℕ → List Rect → Type 0
HaveDisturbed z names bound cell rects = (name : ℕ) (key : LayerKey) → name < bound
    → IsInput names name key
    → (zone : List Rect) → IsZoneAt z cell name zone → Grows zone rects

-- the same of all input layers in a rectangle
abbrev pub HoldDisturbed : List (Option CellZones) → List LayerRule → ℕ → Rect → List Rect → Type 0
HoldDisturbed z names cell w rects = (name : ℕ) (key : LayerKey) → IsInput names name key
    → (zone : List Rect) → IsZoneAt z cell name zone
    → (s : Square) → covers zone s ≡ true → has w s ≡ true → covers rects s ≡ true

-- of some squares those that are flat on one of the first input layers are covered
abbrev pub HaveFlat : Linked → List LayerRule → ℕ → ℕ → List Rect → List Rect → Type 0
HaveFlat d names bound cell places rects = (name : ℕ) (key : LayerKey) → name < bound
    → IsInput names name key
    → (s : Square) → covers places s ≡ true → InFlatInput (plain d) cell key s
    → covers rects s ≡ true

-- an array's images of the placed cell's exposed squares are covered, where they lie in the window
abbrev pub BringsExposed : ℕ → Linked → List (Option CellZones) → List LayerRule → Place → Rect
    → List Rect → Type 0
BringsExposed n d z names p window out = (row column : ℕ) (s : Square) → row < p.rows
    → column < p.columns → IsExposed n d z names p.cell s
    → has window (moved_square (motion_at p row column) s) ≡ true
    → covers out (moved_square (motion_at p row column) s) ≡ true

-- a cell has entries for all names
abbrev pub HasAll : List (Option CellZones) → ℕ → ℕ → Type 0
HasAll z cell names = (name : ℕ) → name < names → HasEntry z cell name

-- and so have all cells that the cell places
abbrev pub HaveAll : Linked → List (Option CellZones) → ℕ → ℕ → Type 0
HaveAll d z cell names = (i : ℕ) (p : Place) → slice_get (places_at (cell_at d cell)) i ≡ Some p
    → HasAll z p.cell names

-- the cell's own squares on the first input layers
abbrev pub BringsOwn : Linked → ℕ → List LayerRule → ℕ → List Rect → Type 0
BringsOwn d cell names bound out = (name : ℕ) (key : LayerKey) → name < bound
    → IsInput names name key
    → Grows (own_of (cell_at d cell) key) out

-- all squares within n of the cell's own on input layers are among those looked at
abbrev pub HoldsOwn : ℕ → Linked → List LayerRule → ℕ → List Rect → Type 0
HoldsOwn n d names cell looks = (name : ℕ) (key : LayerKey) → IsInput names name key
    → (s q : Square) → covers (own_of (cell_at d cell) key) s ≡ true → AreWithin n s q
    → covers looks q ≡ true

-- the cell has entries for the marked names
abbrev pub HaveMarked : List (Option CellZones) → ℕ → List Bool → Type 0
HaveMarked z cell marks = (name : ℕ) → name < length marks → get_or marks name false ≡ true
    → HasEntry z cell name

-- squares that the cell leaves for each of the first names that is marked
abbrev pub AreStirredFor : List (Option CellZones) → ℕ → List Bool → ℕ → List Rect → Type 0
AreStirredFor z cell marks bound set = (name : ℕ) → name < bound → get_or marks name false ≡ true
    → (zone : List Rect) → IsZoneAt z cell name zone → Grows set zone

-- squares within plus or minus 2^37, with all those within n of the cell's own on input layers, and
-- with all images of what is exposed in placed cells, but of such as the cell leaves for all marked
-- names
pub record AreLooks (n : ℕ) (d : Linked) (z : List (Option CellZones)) (names : List LayerRule)
    (marks : List Bool) (cell : ℕ) (looks : List Rect) : Type 0 where
  pub within : IsSetWithin (2 ^ 37) looks
  pub own : HoldsOwn n d names cell looks
  pub stirred : List Rect
  pub for_all : AreStirredFor z cell marks (length marks) stirred
  pub below : (i : ℕ) (p : Place) → slice_get (places_at (cell_at d cell)) i ≡ Some p
      → (row column : ℕ) (s : Square) → row < p.rows → column < p.columns
      → IsExposed n d z names p.cell s
      → (covers looks (moved_square (motion_at p row column) s) ≡ true)
      ⊎ (covers stirred (moved_square (motion_at p row column) s) ≡ true)

-- squares that have to be looked at for a derived name that reaches n squares far: the input layers
-- count that it is seen to be made of, and names that it isn't made of may be left out; what the
-- cell leaves for all marked names, of which it is one, need not be there
pub record AreReadLooks (n : ℕ) (d : Linked) (z : List (Option CellZones)) (names : List LayerRule)
    (name cell : ℕ) (looks : List Rect) : Type 0 where
  pub seen : List LayerRule
  pub tree : (x : Formula) → IsDerived x → reach x ≡ n → slice_get (formulas names) name ≡ Some x
      → slice_get (formulas seen) name ≡ Some x
  pub inputs : (k : ℕ) (key : LayerKey) → IsInput seen k key
      → IsInput names k key × IsRead names [] [] k
  pub marks : List Bool
  pub marked : (x : Formula) → IsDerived x → reach x ≡ n → slice_get (formulas names) name ≡ Some x
      → (name < length marks) × (get_or marks name false ≡ true)
  pub all : AreLooks n d z seen marks cell looks
