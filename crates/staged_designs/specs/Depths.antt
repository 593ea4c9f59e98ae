-- A design with the layers of selections that don't read one another.
use Rattle.std.specs.Prelude.{◌≡◌, ◌↔◌, ℕ, List, ◌∷◌, Some, map, slice_get, true}
use Rattle.std.specs.Global.{Vec}
use Rattle.flat_layout.specs.Layout.{IsReached}
use Rattle.geo_base.specs.declared.layer.LayerKey.{LayerKey}
use Rattle.geo_base.specs.declared.shapes.Square.{Square}
use Rattle.rect_sets.specs.Rects.{covers}
use Rattle.cell_graph.specs.Layering.{AreFurther, IsLayeredDesign}
use Rattle.cell_graph.specs.Linked.{Linked, plain}
use Rattle.cell_graph.specs.declared.cells.OwnLayer.{OwnLayer}
use Rattle.select_laws.specs.Layered.{IsOwnSelected}
use Rattle.select_laws.specs.Selects.{sight}
use Rattle.select_laws.specs.Staged.{Stage, IsStaged, Reads}
use Rattle.select_laws.specs.Whole.{ArePartedRegions}

abbrev pub stage_keys : List Stage → List LayerKey
stage_keys stages = map (λ s. s.key) stages

-- the further layers have what the cells hold of the selections
pub record AreFound (d : Linked) (stages : List Stage) (further : List (Vec OwnLayer)) :
    Type 0 where
  pub each : (cell i : ℕ) (layers : Vec OwnLayer) (layer : OwnLayer) (s : Stage)
      → IsReached (plain d) cell → slice_get further cell ≡ Some layers
      → slice_get layers.items i ≡ Some layer → slice_get stages i ≡ Some s
      → (q : Square) → (covers layer.set q ≡ true) ↔ IsOwnSelected (plain d) s.select cell q
  pub parted : (i : ℕ) (s : Stage) → slice_get stages i ≡ Some s
      → ArePartedRegions (plain d) s.select.joint (sight s.select)

-- none reads the layer of one of them
abbrev pub AreFree : List Stage → Type 0
AreFree stages = (i j : ℕ) (s t : Stage) → slice_get stages i ≡ Some s → slice_get stages j ≡ Some t
    → Reads s t.key → ⊥

-- then they are the design's stages
abbrev pub DepthLaw : Type 0
DepthLaw = (d e : Linked) (s : Stage) (ss : List Stage) (further : List (Vec OwnLayer))
    → AreFurther d.cells (stage_keys (s ∷ ss)) further
    → IsLayeredDesign d (stage_keys (s ∷ ss)) further e → AreFound d (s ∷ ss) further
    → AreFree (s ∷ ss) → IsStaged (plain d) (s ∷ ss) (plain e)
