-- Pieces of nets: rectangles with their conductors and nets.
use Rattle.std.specs.Prelude.{◌≡◌, ◌⊎◌, ◌↔◌, ℕ, ◌+◌, ◌<◌, Bool, List, [], ◌∷◌, Some, slice_get}
use Rattle.flat_layout.specs.Layout.{Some_of}
use Rattle.flat_layout.specs.Plane.{IsIn}
use Rattle.geo_base.specs.Motions.{moved_square}
use Rattle.geo_base.specs.Near.{IsNearRect}
use Rattle.geo_base.specs.Rects.{IsRect}
use Rattle.geo_base.specs.declared.motion.Motion.{Motion}
use Rattle.geo_base.specs.declared.shapes.Rect.{Rect}
use Rattle.geo_base.specs.declared.shapes.Square.{Square}
use Rattle.net_walk.specs.Held.{IsMarked}
use Rattle.view_words.specs.Numbers.{IsSmallRect}
use Rattle.view_shapes.specs.declared.pieces.Piece.{Piece}

-- a piece of the conductor and the net covers the square
abbrev pub IsOver : List Piece → ℕ → ℕ → Square → Type 0
IsOver pieces c x q = Some_of (λ p. (p.conductor ≡ c) × (p.net ≡ x) × IsIn q p.rect) pieces

-- each has squares
abbrev pub AreProper : List Piece → Type 0
AreProper [] = Unit {0}
AreProper (p ∷ ps) = IsRect p.rect × AreProper ps

-- and is so near that it can be moved
abbrev pub AreNear : List Piece → Type 0
AreNear [] = Unit {0}
AreNear (p ∷ ps) = IsNearRect p.rect × IsRect p.rect × AreNear ps

-- each reaches less than 2^30 from the origin
abbrev pub AreSmall : List Piece → Type 0
AreSmall [] = Unit {0}
AreSmall (p ∷ ps) = IsSmallRect p.rect × AreSmall ps

-- one doesn't
abbrev pub HasFar : List Piece → Type 0
HasFar pieces = Some_of (λ p. IsSmallRect p.rect → ⊥) pieces

-- the nets of the pieces stand in the list
abbrev pub AreListed : ℕ → ℕ → List Piece → Type 0
AreListed long at [] = Unit {0}
AreListed long at (p ∷ ps) = (at + p.net < long) × AreListed long at ps

-- the pieces are those before and some more, which are over these squares
pub record AddsPieces (R : ℕ → ℕ → Square → Type 0) (old new : List Piece) : Type 0 where
  pub over : (c x : ℕ) (q : Square) → IsOver new c x q ↔ (IsOver old c x q ⊎ R c x q)
  pub proper : AreProper old → AreProper new

abbrev pub IsOfRect : ℕ → ℕ → Rect → ℕ → ℕ → Square → Type 0
IsOfRect conductor net rect c x q = (conductor ≡ c) × (net ≡ x) × IsIn q rect

-- of the rectangle at a position of a conductor's list, if its net is wanted; the nets of all stand
-- in a list from a place on
abbrev pub IsOfOwnAt : List Rect → ℕ → List ℕ → ℕ → List Bool → ℕ → ℕ → ℕ → Square → Type 0
IsOfOwnAt own conductor net_of at wanted r c x q = (conductor ≡ c) × (rect : Rect)
    × (slice_get own r ≡ Some rect) × (slice_get net_of (at + r) ≡ Some x) × IsMarked wanted x
    × IsIn q rect

-- of the first n rectangles
abbrev pub IsOfOwn : List Rect → ℕ → List ℕ → ℕ → List Bool → ℕ → ℕ → ℕ → Square → Type 0
IsOfOwn own conductor net_of at wanted n c x q =
    (r : ℕ) × (r < n) × IsOfOwnAt own conductor net_of at wanted r c x q

-- images of pieces, each in the net that stands that far behind a place
abbrev pub IsOfMoved : Motion → List Piece → List ℕ → ℕ → ℕ → ℕ → Square → Type 0
IsOfMoved motion pieces net_of at c x q = (b : ℕ) × (m : Square) × IsOver pieces c b m
    × (slice_get net_of (at + b) ≡ Some x) × (moved_square motion m ≡ q)
