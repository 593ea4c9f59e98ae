-- Disturbed squares of a cell, from the cells that place it.
use Rattle.std.specs.Prelude.{◌≡◌, ◌⊎◌, ℕ, List, [], ◌∷◌}
use Rattle.geo_base.specs.Motions.{moved_square}
use Rattle.geo_base.specs.declared.layer.LayerKey.{LayerKey}
use Rattle.geo_base.specs.declared.shapes.Square.{Square}
use Rattle.flat_layout.specs.Layout.{Place, Design, Some_of, IsOwn, IsPlaced, Takes, IsPrefix}
use Rattle.flat_layout.specs.Layout.{IsDisturbed, IsReached}

-- in the cell, a shape lies over the square that doesn't come through the k-th placement
pub record IsBeside (d : Design) (keys : List LayerKey) (cell k : ℕ) (q : Square) : Type 0 where
  pub path : List ℕ
  pub end : ℕ
  pub square : Square
  pub key : LayerKey
  pub listed : Some_of (λ j. j ≡ key) keys
  pub takes : Takes d cell path end square q
  pub own : IsOwn d end key square
  pub apart : IsPrefix (k ∷ []) path → ⊥

-- some reached parent's placement brings the square onto one that is disturbed there, or onto a
-- shape that lies beside the placement
pub record IsDisturbedAbove (d : Design) (keys : List LayerKey) (cell : ℕ) (q : Square) : Type 0
  where
    pub parent : ℕ
    pub number : ℕ
    pub place : Place
    pub reached : IsReached d parent
    pub placed : IsPlaced d parent number place
    pub here : place.cell ≡ cell
    pub why : IsDisturbed d keys parent (moved_square place.motion q)
        ⊎ IsBeside d keys parent number (moved_square place.motion q)
