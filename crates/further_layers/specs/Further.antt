-- Sets of the cells of a design, as further layers of the cells.
use Rattle.std.specs.Prelude.{◌≡◌, ◌↔◌, ℕ, List, [], Some, get_or, length, map, slice_get, true}
use Rattle.std.specs.Global.{Vec}
use Rattle.cell_graph.specs.Layering.{AreFurther}
use Rattle.cell_graph.specs.Linked.{Linked, plain}
use Rattle.cell_graph.specs.declared.cells.OwnLayer.{OwnLayer}
use Rattle.flat_layout.specs.Layout.{IsReached}
use Rattle.geo_base.specs.declared.layer.LayerKey.{LayerKey}
use Rattle.geo_base.specs.declared.shapes.Rect.{Rect}
use Rattle.geo_base.specs.declared.shapes.Square.{Square}
use Rattle.plain_netlist.specs.Lists.{AreApart}
use Rattle.rect_sets.specs.Rects.{IsCanonical, covers}
use Rattle.select_laws.specs.Layered.{IsOwnSelected}
use Rattle.select_laws.specs.Selects.{sight}
use Rattle.select_laws.specs.Staged.{Stage}
use Rattle.select_laws.specs.Whole.{ArePartedRegions}
use Rattle.staged_designs.specs.Depths.{AreFound, stage_keys}

abbrev pub lists_of : List (Vec (List Rect)) → List (List (List Rect))
lists_of sets = map (λ v. v.items) sets

-- the set of a cell in the k-th of some lists of sets; none past the ends
abbrev pub set_at : List (List (List Rect)) → ℕ → ℕ → List Rect
set_at lists k cell = get_or (get_or lists k []) cell []

-- a cell's layers, of the first n lists, under these keys
pub record AreLayersBy (keys : List LayerKey) (lists : List (List (List Rect))) (cell n : ℕ)
    (layers : List OwnLayer) : Type 0 where
  pub count : length layers ≡ n
  pub each : (k : ℕ) (layer : OwnLayer) → slice_get layers k ≡ Some layer
      → (slice_get keys k ≡ Some layer.key) × (layer.set ≡ set_at lists k cell)
      × IsCanonical layer.set

-- those of the first n cells, of all lists
pub record AreCellLayers (keys : List LayerKey) (lists : List (List (List Rect))) (n : ℕ)
    (further : List (Vec OwnLayer)) : Type 0 where
  pub count : length further ≡ n
  pub each : (cell : ℕ) (layers : Vec OwnLayer) → slice_get further cell ≡ Some layers
      → AreLayersBy keys lists cell (length keys) layers.items

-- the k-th list has what each cell holds of the k-th selection, nothing of a cell that the top
-- doesn't reach
pub record AreSelected (d : Linked) (stages : List Stage) (lists : List (List (List Rect))) :
    Type 0 where
  pub each : (k : ℕ) (s : Stage) → slice_get stages k ≡ Some s → (cell : ℕ)
      → IsReached (plain d) cell → (q : Square)
      → (covers (set_at lists k cell) q ≡ true) ↔ IsOwnSelected (plain d) s.select cell q
  pub none : (k cell : ℕ) → (IsReached (plain d) cell → ⊥) → set_at lists k cell ≡ []
  pub parted : (k : ℕ) (s : Stage) → slice_get stages k ≡ Some s
      → ArePartedRegions (plain d) s.select.joint (sight s.select)

-- then the layers are further layers of the design, those of the selections
pub record AreFurtherFound (d : Linked) (stages : List Stage) (further : List (Vec OwnLayer)) :
    Type 0 where
  pub layers : AreFurther d.cells (stage_keys stages) further
  pub found : AreFound d stages further

abbrev pub FurtherLaw : Type 0
FurtherLaw = (d : Linked) (stages : List Stage) (lists : List (List (List Rect)))
    (further : List (Vec OwnLayer)) → AreApart (stage_keys stages) → AreSelected d stages lists
    → AreCellLayers (stage_keys stages) lists (length d.cells) further
    → AreFurtherFound d stages further
