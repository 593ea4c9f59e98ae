-- Rectangles by layer.
use Rattle.std.specs.Prelude.{◌≡◌, ℕ, Bool, false, ◌&&◌, List, [], ◌∷◌, ◌++◌, map, set, Some}
use Rattle.std.specs.Prelude.{slice_get}
use Rattle.std.specs.List.{All, list_any}
use Rattle.geo_base.specs.Layers.{is_same_key}
use Rattle.geo_base.specs.Rects.{IsRect}
use Rattle.geo_base.specs.declared.layer.LayerKey.{LayerKey}
use Rattle.geo_base.specs.declared.shapes.Rect.{Rect}
use Rattle.geo_base.specs.declared.shapes.Square.{Square}
use Rattle.rect_sets.specs.Rects.{covers}
use Rattle.gds_layout.specs.declared.piles.Laid.{Laid}
use Rattle.gds_layout.specs.declared.piles.Laid.TheVariants.{Nothing, One, Many}
use Rattle.gds_layout.specs.declared.piles.Pile.{Pile}
use Rattle.gds_layout.specs.declared.piles.Piles.{Piles}

-- the rectangles that were laid down
abbrev pub laid_rects : Laid → List Rect
laid_rects Nothing = []
laid_rects (One set) = set
laid_rects (Many rects) = rects.items

abbrev pub rects_of : Pile → List Rect
rects_of p = laid_rects p.laid

abbrev pub keys_of : List Pile → List LayerKey
keys_of piles = map (λ p. p.key) piles

-- no key comes twice
abbrev pub AreDifferent : List LayerKey → Type 0
AreDifferent [] = Unit {0}
AreDifferent (k ∷ ks) = (list_any (is_same_key k) ks ≡ false) × AreDifferent ks

-- whether the pile is on the layer and covers the square
abbrev pub is_on : LayerKey → Square → Pile → Bool
is_on key s p = is_same_key p.key key && covers (rects_of p) s

-- whether one of the piles does
abbrev pub piles_cover : List Pile → LayerKey → Square → Bool
piles_cover piles key s = list_any (is_on key s) piles

-- whether the layer has a pile
abbrev pub has_pile : List Pile → LayerKey → Bool
has_pile piles key = list_any (λ p. is_same_key p.key key) piles

-- rectangles on a layer each, no two on one layer, and their numbers
pub record ArePiles (p : Piles) : Type 0 where
  pub keys_are : keys_of p.list.items ≡ p.keys
  pub different : AreDifferent p.keys
  pub sound : All (λ q. All IsRect (rects_of q)) p.list.items

-- the pile of this number is the layer's
pub record IsPileAt (piles : List Pile) (key : LayerKey) (number : ℕ) : Type 0 where
  pub pile : Pile
  pub there : slice_get piles number ≡ Some pile
  pub key_is : pile.key ≡ key

-- the pile of this number gained rectangles
pub record Gains (number : ℕ) (more : List Rect) (old new : List Pile) : Type 0 where
  pub before : Pile
  pub after : Pile
  pub there : slice_get old number ≡ Some before
  pub is : new ≡ set old number after
  pub key_is : after.key ≡ before.key
  pub rects_are : rects_of after ≡ rects_of before ++ more
