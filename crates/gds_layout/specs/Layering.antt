-- Piles of rectangles as layers.
use Rattle.std.specs.Prelude.{◌≡◌, List, [], ◌∷◌}
use Rattle.std.specs.List.{All}
use Rattle.geo_base.specs.Rects.{IsRect}
use Rattle.geo_base.specs.declared.layer.LayerKey.{LayerKey}
use Rattle.geo_base.specs.declared.shapes.Square.{Square}
use Rattle.rect_sets.specs.Rects.{covers, IsCanonical}
use Rattle.cell_graph.specs.declared.cells.OwnLayer.{OwnLayer}
use Rattle.gds_elements.specs.Meaning.{Shape}
use Rattle.gds_layout.specs.declared.piles.Pile.{Pile}
use Rattle.gds_layout.specs.Shapes.{shapes_cover, is_drawn, keys_behind}
use Rattle.gds_layout.specs.Piles.{rects_of, keys_of, AreDifferent, has_pile, piles_cover}

-- the piles cover what the shapes do, and each has one of their layers
pub record AreLaid (shapes : List Shape) (piles : List Pile) : Type 0 where
  pub keys : keys_of piles ≡ keys_behind [] shapes
  pub different : AreDifferent (keys_of piles)
  pub sound : All (λ p. All IsRect (rects_of p)) piles
  pub covers_same : (k : LayerKey) (s : Square) → piles_cover piles k s ≡ shapes_cover shapes k s
  pub has_same : (k : LayerKey) → has_pile piles k ≡ is_drawn shapes k

-- the canonical list of what the pile covers
pub record IsFilled (p : Pile) (l : OwnLayer) : Type 0 where
  pub key_is : l.key ≡ p.key
  pub canonical : IsCanonical l.set
  pub squares : (s : Square) → covers l.set s ≡ covers (rects_of p) s

-- each pile, in order
abbrev pub AreFilled : List Pile → List OwnLayer → Type 0
AreFilled [] [] = Unit {0}
AreFilled (p ∷ piles) (l ∷ layers) = IsFilled p l × AreFilled piles layers
AreFilled _ _ = ⊥
