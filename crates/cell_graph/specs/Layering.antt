-- A design with further layers in its cells, in place of all that these had under the same keys.
use Rattle.std.specs.Prelude.{◌≡◌, ℕ, ◌≤◌, ◌^◌, Bool, false, List, ◌++◌, Option, Some, map}
use Rattle.std.specs.Prelude.{length, not, slice_get}
use Rattle.std.specs.List.{filter, list_any}
use Rattle.std.specs.Global.{Vec}
use Rattle.geo_base.specs.Layers.{is_same_key}
use Rattle.geo_base.specs.declared.layer.LayerKey.{LayerKey}
use Rattle.plain_netlist.specs.Lists.{AreApart}
use Rattle.cell_graph.specs.declared.cells.OwnLayer.{OwnLayer}
use Rattle.cell_graph.specs.declared.cells.Place.{Place}
use Rattle.cell_graph.specs.declared.cells.CellPart.{CellPart}
use Rattle.cell_graph.specs.declared.drafts.CellDraft.{CellDraft}
use Rattle.cell_graph.specs.declared.drafts.DraftRef.{DraftRef}
use Rattle.cell_graph.specs.declared.drafts.LinkFault.{LinkFault}
use Rattle.cell_graph.specs.declared.drafts.LinkFault.TheVariants.{CoordinateRange, NoMemory}
use Rattle.cell_graph.specs.Drafts.{IsFirstFar, IsLink}
use Rattle.cell_graph.specs.Parts.{AreInside}
use Rattle.cell_graph.specs.Linked.{Linked, cell_at, layer_keys, own_of}

abbrev pub cell_names : List CellPart → List (List ℕ)
cell_names cells = map (λ c. c.name) cells

-- no more cells than a library may have, and no two of one name
pub record HaveNames (cells : List CellPart) : Type 0 where
  pub few : length cells ≤ 2 ^ 16
  pub apart : AreApart (cell_names cells)

abbrev pub has_key : List LayerKey → LayerKey → Bool
has_key keys key = list_any (λ k. is_same_key k key) keys

-- the layers of other keys
abbrev pub other_layers : List LayerKey → List OwnLayer → List OwnLayer
other_layers keys layers = filter (λ l. not (has_key keys l.key)) layers

-- a list of layers for each cell, each with these keys
pub record AreFurther (cells : List CellPart) (keys : List LayerKey)
    (further : List (Vec OwnLayer)) : Type 0 where
  pub apart : AreApart keys
  pub count : length further ≡ length cells
  pub each : (i : ℕ) (layers : Vec OwnLayer) → slice_get further i ≡ Some layers
      → layer_keys layers.items ≡ keys

-- the cell with further layers: all else is as it was, but for its hull
pub record IsLayeredCell (keys : List LayerKey) (further : List OwnLayer) (c p : CellPart) : Type 0
  where
    pub name : p.name ≡ c.name
    pub layers : p.layers.items ≡ other_layers keys c.layers.items ++ further
    pub texts : p.texts.items ≡ c.texts.items
    pub places : p.places.items ≡ c.places.items

pub record IsLayeredDesign (d : Linked) (keys : List LayerKey)
    (further : List (Vec OwnLayer)) (e : Linked) : Type 0 where
  pub top : e.top ≡ d.top
  pub way : e.way ≡ d.way
  pub count : length e.cells ≡ length d.cells
  pub each : (i : ℕ) (layers : Vec OwnLayer) (c p : CellPart)
      → slice_get further i ≡ Some layers → cell_at d i ≡ Some c → cell_at e i ≡ Some p
      → IsLayeredCell keys layers.items c p

-- a reference by the name of the cell that it places
pub record IsRefOf (names : List (List ℕ)) (p : Place) (r : DraftRef) : Type 0 where
  pub named : slice_get names p.cell ≡ Some r.cell
  pub motion : r.motion ≡ p.motion
  pub columns : r.columns ≡ p.columns
  pub rows : r.rows ≡ p.rows
  pub column_step : r.column_step ≡ p.column_step
  pub row_step : r.row_step ≡ p.row_step

abbrev pub ArePlacesInside : List CellPart → ℕ → Type 0
ArePlacesInside cells n =
    (i : ℕ) (c : CellPart) → slice_get cells i ≡ Some c → AreInside c.places.items n

-- references, of the first n placements
pub record AreRefsTo (names : List (List ℕ)) (places : List Place) (n : ℕ)
    (refs : List DraftRef) : Type 0 where
  pub count : length refs ≡ n
  pub each : (k : ℕ) (p : Place) (r : DraftRef) → slice_get places k ≡ Some p
      → slice_get refs k ≡ Some r → IsRefOf names p r

abbrev pub AreRefsOf : List (List ℕ) → List Place → List DraftRef → Type 0
AreRefsOf names places refs = AreRefsTo names places (length places) refs

-- the draft that a layered cell comes from
pub record IsDraftOf (names : List (List ℕ)) (keys : List LayerKey) (further : List OwnLayer)
    (c : CellPart) (draft : CellDraft) : Type 0 where
  pub name : draft.name ≡ c.name
  pub layers : draft.layers.items ≡ other_layers keys c.layers.items ++ further
  pub texts : draft.texts.items ≡ c.texts.items
  pub refs : AreRefsOf names c.places.items draft.refs.items

-- those of the first n cells
pub record AreDraftsTo (names : List (List ℕ)) (cells : List CellPart) (keys : List LayerKey)
    (further : List (Vec OwnLayer)) (n : ℕ) (drafts : List CellDraft) : Type 0 where
  pub count : length drafts ≡ n
  pub each : (i : ℕ) (layers : Vec OwnLayer) (c : CellPart) (draft : CellDraft)
      → slice_get further i ≡ Some layers → slice_get cells i ≡ Some c
      → slice_get drafts i ≡ Some draft → IsDraftOf names keys layers.items c draft

-- and of all
abbrev pub AreDraftsOf : List CellPart → List LayerKey → List (Vec OwnLayer)
    → List CellDraft → Type 0
AreDraftsOf cells keys further drafts =
    AreDraftsTo (cell_names cells) cells keys further (length cells) drafts

-- a hull that then reaches out of range, of the first such cell by height and then file order; or
-- want of memory
abbrev pub IsLayerFault : List CellPart → List LayerKey → List (Vec OwnLayer) → LinkFault
    → Type 0
IsLayerFault cells keys further (CoordinateRange name) =
    (drafts : List CellDraft) × AreDraftsOf cells keys further drafts × IsFirstFar drafts name
IsLayerFault cells keys further fault = fault ≡ NoMemory

-- the cells of a linked design have such names
abbrev pub NamesLaw : Type 0
NamesLaw = (cells : List CellDraft) (top : Option (List ℕ)) (d : Linked) → IsLink cells top d
    → HaveNames d.cells

-- and keep them with further layers
abbrev pub SameNamesLaw : Type 0
SameNamesLaw = (d e : Linked) (keys : List LayerKey) (further : List (Vec OwnLayer))
    → AreFurther d.cells keys further → IsLayeredDesign d keys further e → HaveNames d.cells
    → HaveNames e.cells

-- on other keys each cell's own rectangles stay
abbrev pub OwnKeptLaw : Type 0
OwnKeptLaw = (d e : Linked) (keys : List LayerKey) (further : List (Vec OwnLayer))
    → AreFurther d.cells keys further → IsLayeredDesign d keys further e
    → (cell : ℕ) (key : LayerKey) → has_key keys key ≡ false
    → own_of (cell_at e cell) key ≡ own_of (cell_at d cell) key

-- on these they are the further ones, none where such a layer is empty
abbrev pub OwnFurtherLaw : Type 0
OwnFurtherLaw = (d e : Linked) (keys : List LayerKey) (further : List (Vec OwnLayer))
    → AreFurther d.cells keys further → IsLayeredDesign d keys further e
    → (cell i : ℕ) (layers : Vec OwnLayer) (layer : OwnLayer)
    → slice_get further cell ≡ Some layers → slice_get layers.items i ≡ Some layer
    → own_of (cell_at e cell) layer.key ≡ layer.set
