-- The rectangles of a circuit's nets, from the pieces of its cell's.
use Rattle.std.specs.Prelude.{◌≡◌, ◌<◌, ℕ, zero, suc, List, [], ◌∷◌, ◌++◌, Option, Some, None}
use Rattle.std.specs.Prelude.{get_or, length, map}
use Rattle.std.specs.Global.{Vec}
use Rattle.view_netlist.specs.declared.drawing.Shape.{Shape}
use Rattle.view_shapes.specs.declared.pieces.Piece.{Piece}

abbrev pub shape_of : Piece → Shape
shape_of p = record { layer = p.conductor; rect = p.rect }

-- a list at its own number, and nothing at others
abbrev pub only_at : ℕ → List Shape → ℕ → List Shape
only_at zero shapes zero = shapes
only_at zero shapes (suc a) = []
only_at (suc k) shapes zero = []
only_at (suc k) shapes (suc a) = only_at k shapes a

-- a piece's rectangle, at its net's number
abbrev pub shape_at : Option ℕ → Piece → ℕ → List Shape
shape_at None p a = []
shape_at (Some k) p a = only_at k (shape_of p ∷ []) a

-- the rectangles of the pieces whose nets have this number
abbrev pub shapes_at : List (Option ℕ) → List Piece → ℕ → List Shape
shapes_at numbers [] a = []
shapes_at numbers (p ∷ ps) a = shape_at (get_or numbers p.net None) p a ++ shapes_at numbers ps a

abbrev pub list_at : List (Vec Shape) → ℕ → List Shape
list_at lists a = get_or (map (λ v. v.items) lists) a []

pub record HasNone (count : ℕ) (lists : List (Vec Shape)) : Type 0 where
  pub long : length lists ≡ count
  pub none : (a : ℕ) → list_at lists a ≡ []

-- one piece more
pub record IsPushed (number : Option ℕ) (p : Piece) (old new : List (Vec Shape)) : Type 0 where
  pub long : length new ≡ length old
  pub each : (a : ℕ) → a < length old → list_at new a ≡ list_at old a ++ shape_at number p a

-- for each number below a count, the rectangles of its pieces
pub record HaveShapes (count : ℕ) (numbers : List (Option ℕ)) (pieces : List Piece)
    (lists : List (Vec Shape)) : Type 0 where
  pub long : length lists ≡ count
  pub each : (a : ℕ) → a < count → list_at lists a ≡ shapes_at numbers pieces a
