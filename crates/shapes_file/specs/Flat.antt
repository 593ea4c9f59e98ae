-- What a written text means: expanded through all its references, it covers exactly the squares
-- that the rules' names have pointwise over the flat layout.
use Rattle.std.specs.Prelude.{◌≡◌, ◌≢◌, ◌↔◌, ℕ, true, List, [], ◌∷◌, map, length, get_or, slice_get}
use Rattle.std.specs.Prelude.{Some}
use Rattle.std.specs.List.{All}
use Rattle.cell_graph.specs.Linked.{plain, cell_at}
use Rattle.flat_layout.specs.Arrays.{Reference, places_of}
use Rattle.flat_layout.specs.Layers.{Formula, Empty, InFlat, IsLocal}
use Rattle.flat_layout.specs.Layout.{Design, Place, IsOwn, IsPlaced, InFlatInput}
use Rattle.flat_layout.specs.Layout as flat
use Rattle.gds_elements.specs.Faults.{Accepts}
use Rattle.gds_elements.specs.Meaning.{Cell, Library, Ref}
use Rattle.gds_layout.specs.Shapes.{shapes_cover}
use Rattle.gds_layout.specs.declared.layout.Layout.{Layout}
use Rattle.geo_base.specs.declared.layer.LayerKey.{LayerKey}
use Rattle.geo_base.specs.declared.shapes.Square.{Square}
use Rattle.layout_shapes.specs.Writable.{FitsStream, placing}
use Rattle.layout_shapes.specs.Written.{AreReached, name_of}
use Rattle.rule_layers.specs.Formulas.{formulas}
use Rattle.rule_text.specs.Rules.{Rules}
use Rattle.rule_text.specs.Sound.{Each, IsSound}
use Rattle.shapes_file.specs.File.{IsShapesFile}

-- ---- the hierarchy that a library is

-- the structure of this number has this name
pub record IsNamed (cells : List Cell) (name : List ℕ) (i : ℕ) : Type 0 where
  pub cell : Cell
  pub there : slice_get cells i ≡ Some cell
  pub named : cell.name ≡ name

-- no two structures have one name
abbrev pub HasNoRepeat : List Cell → Type 0
HasNoRepeat cells = (name : List ℕ) (i j : ℕ) → IsNamed cells name i → IsNamed cells name j → i ≡ j

-- references in order, each as the array of placements of the structure that it names
abbrev pub AreArrays : List Cell → List Ref → List Reference → Type 0
AreArrays cells [] [] = Unit {0}
AreArrays cells (r ∷ refs) (a ∷ arrays) =
    ((i : ℕ) × IsNamed cells r.cell i × (a ≡ placing i r)) × AreArrays cells refs arrays
AreArrays cells _ _ = ⊥

-- the placements of the references in order: by reference, then row, then column
abbrev pub ArePlacesOf : List Cell → List Ref → List Place → Type 0
ArePlacesOf cells refs places =
    (arrays : List Reference) × AreArrays cells refs arrays × (places ≡ places_of arrays)

-- a library's structures as the cells of a layout, seen from the structure of this name: each with
-- its name, with the placements of its references, and with the squares that its shapes cover
pub record IsHierarchyOf (w : Library) (name : List ℕ) (d : Design) : Type 0 where
  pub once : HasNoRepeat w.cells
  pub count : length d.cells ≡ length w.cells
  pub names : (i : ℕ) (c : Cell) (f : flat.Cell) → slice_get w.cells i ≡ Some c
      → slice_get d.cells i ≡ Some f → f.name ≡ c.name
  pub places : (i : ℕ) (c : Cell) (f : flat.Cell) → slice_get w.cells i ≡ Some c
      → slice_get d.cells i ≡ Some f → ArePlacesOf w.cells c.refs f.places
  pub own : (i : ℕ) (c : Cell) (key : LayerKey) (q : Square) → slice_get w.cells i ≡ Some c
      → IsOwn d i key q ↔ (shapes_cover c.shapes key q ≡ true)
  pub top : IsNamed w.cells name d.top

-- the squares seen through all references are one library's, whatever design stands for it
abbrev pub OneHierarchyLaw : Type 0
OneHierarchyLaw = (w : Library) (name : List ℕ) (d e : Design) → IsHierarchyOf w name d
    → IsHierarchyOf w name e → (key : LayerKey) (q : Square) → InFlatInput d d.top key q
    → InFlatInput e e.top key q

-- ---- what is written

-- a placement of a structure is this one of the layout: of the same cell, by the number that it has
-- among those written, and moved in the same way
pub record IsPlacement (cells : List ℕ) (written here : Place) : Type 0 where
  pub cell : slice_get cells written.cell ≡ Some here.cell
  pub motion : written.motion ≡ here.motion

-- a name of the rules as the tree of what it reads
abbrev pub formula_at : Rules → ℕ → Formula
formula_at r k = get_or (formulas r.names) k Empty

-- The text is itself an accepted stream, in the layout's units. Its structures are the cells that
-- the layout's top reaches, in the order of the file, each with its name, with its placements in
-- their order, and with no text. On the layer of each output line a structure has exactly the
-- squares that its cell holds itself of the line's name, so that nothing is flattened into it. Seen
-- from the top through all references, the text has on this layer exactly the squares that the name
-- has over the flat layout, and on all other layers none.
pub record CoversFlat (l : Layout) (r : Rules) (text : List ℕ) : Type 0 where
  pub written : Library
  pub accepted : Accepts text written
  pub units : written.units ≡ l.header.units
  pub cells : List ℕ
  pub reached : AreReached l.design cells
  pub names : map (λ c. c.name) written.cells
      ≡ map (λ k. name_of (cell_at l.design k)) cells
  pub texts : All (λ c. c.texts ≡ []) written.cells
  pub design : Design
  pub hierarchy : IsHierarchyOf written (name_of (cell_at l.design l.design.top)) design
  pub placements : (i k n : ℕ) (p : Place) → slice_get cells i ≡ Some k → IsPlaced design i n p
      ↔ ((x : Place) × IsPlaced (plain l.design) k n x × IsPlacement cells p x)
  pub held : (i k : ℕ) → slice_get cells i ≡ Some k → Each (λ n o. (q : Square)
      → IsOwn design i o.key q ↔ IsLocal (plain l.design) k (formula_at r o.layer) q) r.outputs
  pub lines : Each (λ k o. (q : Square) → InFlatInput design design.top o.key q
      ↔ InFlat (plain l.design) l.design.top (formula_at r o.layer) q) r.outputs
  pub others : (key : LayerKey) → All (λ o. o.key ≢ key) r.outputs → (q : Square)
      → InFlatInput design design.top key q → ⊥

-- so it is of each layout that fits a stream, for each sound rule set
abbrev pub CoversFlatLaw : Type 0
CoversFlatLaw = (l : Layout) (r : Rules) (text : List ℕ) (cells rectangles : ℕ) → FitsStream l
    → IsSound r → IsShapesFile l r text cells rectangles → CoversFlat l r text
