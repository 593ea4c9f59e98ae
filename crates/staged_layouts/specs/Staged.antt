-- The layout on which a run works: what was read, with a further layer for each selection.
use Rattle.std.specs.Prelude.{◌≡◌, ◌↔◌, ℕ, true, List, ◌∷◌, ◌++◌, Some, length, slice_get}
use Rattle.std.specs.Global.{Vec}
use Rattle.std.specs.List.{All}
use Rattle.geo_base.specs.declared.layer.LayerKey.{LayerKey}
use Rattle.geo_base.specs.declared.shapes.Square.{Square}
use Rattle.plain_netlist.specs.Lists.{IsListed}
use Rattle.rect_sets.specs.Rects.{IsCanonical, covers}
use Rattle.flat_layout.specs.Layers.{Formula, InFlat, inputs}
use Rattle.flat_layout.specs.Layout.{InFlatInput, IsOwn, IsReached, Some_of}
use Rattle.cell_graph.specs.declared.cells.CellPart.{CellPart}
use Rattle.cell_graph.specs.declared.cells.OwnLayer.{OwnLayer}
use Rattle.cell_graph.specs.Layering.{AreFurther, IsLayeredDesign}
use Rattle.cell_graph.specs.Linked.{IsSound, Linked, cell_at, layer_keys, plain}
use Rattle.gds_layout.specs.Once.{IsAlike}
use Rattle.gds_layout.specs.declared.layout.Layout.{Layout}
use Rattle.layout_shapes.specs.Writable.{FitsStream}
use Rattle.select_laws.specs.Selects.{IsSelected}
use Rattle.select_laws.specs.Staged.{AreInTurn, IsKeyOf, IsStaged, Stage}
use Rattle.staged_designs.specs.Depths.{AreFound, AreFree, stage_keys}

-- ---- what it is

-- a cell with a layer for each stage behind its own, each one canonical list of rectangles
pub record IsStagedCell (stages : List Stage) (c p : CellPart) : Type 0 where
  pub name : p.name ≡ c.name
  pub texts : p.texts.items ≡ c.texts.items
  pub places : p.places.items ≡ c.places.items
  pub further : List OwnLayer
  pub layers : p.layers.items ≡ c.layers.items ++ further
  pub keys : layer_keys further ≡ stage_keys stages
  pub canonical : All (λ l. IsCanonical l.set) further

-- The design with the layers of these selections, one after the other: of each cell that the top
-- reaches, the chosen ones of its own regions. Cells that the top doesn't reach have no squares on
-- them. All else is as it was, but for the hulls.
pub record IsStagedDesign (stages : List Stage) (d e : Linked) : Type 0 where
  pub top : e.top ≡ d.top
  pub way : e.way ≡ d.way
  pub sound : IsSound e
  pub count : length e.cells ≡ length d.cells
  pub cells : (i : ℕ) (c p : CellPart) → cell_at d i ≡ Some c → cell_at e i ≡ Some p
      → IsStagedCell stages c p
  pub staged : IsStaged (plain d) stages (plain e)
  pub only : (cell : ℕ) (key : LayerKey) (q : Square) → IsKeyOf stages key
      → IsOwn (plain e) cell key q → IsReached (plain d) cell

-- the layout of this design
pub record IsStagedLayout (stages : List Stage) (l m : Layout) : Type 0 where
  pub header : m.header ≡ l.header
  pub dates : m.cell_dates.items ≡ l.cell_dates.items
  pub design : IsStagedDesign stages l.design m.design

-- selections behind others
abbrev pub StagedOnLaw : Type 0
StagedOnLaw = (ss ts : List Stage) (d m e : Linked) → IsStagedDesign ss d m
    → IsStagedDesign ts m e → IsStagedDesign (ss ++ ts) d e

-- ---- laws

-- alike layouts are alike with the same selections
abbrev pub StagedAlikeLaw : Type 0
StagedAlikeLaw = (stages : List Stage) (l k m n : Layout) → AreInTurn stages → IsAlike l k
    → IsStagedLayout stages l m → IsStagedLayout stages k n → IsAlike m n

-- a layout that fits a stream does so with its selections
abbrev pub StagedFitsLaw : Type 0
StagedFitsLaw = (stages : List Stage) (l m : Layout) → FitsStream l → IsStagedLayout stages l m
    → FitsStream m

-- What the further layers are of the flat layout. At the top each is exactly the selection of what
-- the staged layout itself has there of the names that it reads; and names that read none of them
-- have in each cell the squares that they have there of the layout without.
pub record ShowsSelections (stages : List Stage) (l m : Layout) : Type 0 where
  pub top : m.design.top ≡ l.design.top
  pub each : (i : ℕ) (s : Stage) → slice_get stages i ≡ Some s → (q : Square)
      → InFlatInput (plain m.design) m.design.top s.key q
      ↔ IsSelected (plain m.design) s.select m.design.top q
  pub unread : (name : Formula)
      → ((key : LayerKey) → IsKeyOf stages key → Some_of (λ k. k ≡ key) (inputs name) → ⊥)
      → (cell : ℕ) (q : Square)
      → InFlat (plain m.design) cell name q ↔ InFlat (plain l.design) cell name q

-- so it is of each staged layout
abbrev pub ShowsSelectionsLaw : Type 0
ShowsSelectionsLaw = (stages : List Stage) (l m : Layout) → AreInTurn stages
    → IsStagedLayout stages l m → ShowsSelections stages l m

-- ---- one depth of selections

-- no cell has a layer on the keys
abbrev pub AreUnused : List Stage → Linked → Type 0
AreUnused stages d = (i : ℕ) (c : CellPart) (key : LayerKey) → cell_at d i ≡ Some c
    → IsKeyOf stages key → IsListed key (layer_keys c.layers.items) → ⊥

-- further layers of canonical lists, on keys that no cell has, and without squares in cells that
-- the top doesn't reach
pub record AreFresh (d : Linked) (stages : List Stage) (further : List (Vec OwnLayer)) : Type 0
  where
    pub unused : AreUnused stages d
    pub canonical : (i : ℕ) (layers : Vec OwnLayer) → slice_get further i ≡ Some layers
        → All (λ l. IsCanonical l.set) layers.items
    pub reached : (i : ℕ) (layers : Vec OwnLayer) (l : OwnLayer) (q : Square)
        → slice_get further i ≡ Some layers → IsListed l layers.items → covers l.set q ≡ true
        → IsReached (plain d) i

-- with what the cells hold of selections that don't read one another, a design is the staged one
abbrev pub StagedDepthLaw : Type 0
StagedDepthLaw = (d e : Linked) (s : Stage) (ss : List Stage) (further : List (Vec OwnLayer))
    → AreFurther d.cells (stage_keys (s ∷ ss)) further
    → IsLayeredDesign d (stage_keys (s ∷ ss)) further e → AreFound d (s ∷ ss) further
    → AreFree (s ∷ ss) → AreFresh d (s ∷ ss) further → IsSound e → IsStagedDesign (s ∷ ss) d e
