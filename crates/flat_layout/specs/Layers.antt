-- Derived layers over a flat layout, and what of them a cell keeps and holds itself.
use Rattle.std.specs.Prelude.{◌≡◌, ◌⊎◌, ℕ, ◌+◌, ℤ, max, unsigned_abs, List, [], ◌∷◌, ◌++◌}
use Rattle.geo_base.specs.Motions.{moved_square}
use Rattle.geo_base.specs.declared.layer.LayerKey.{LayerKey}
use Rattle.geo_base.specs.declared.layer.Op.{Op}
use Rattle.geo_base.specs.declared.layer.Op.TheVariants.{And, Or, Not, Xor}
use Rattle.geo_base.specs.declared.shapes.Square.{Square}
use Rattle.flat_layout.specs.Layout.{Place, Design, IsOwn, IsPlaced, Takes, InFlatInput}
use Rattle.flat_layout.specs.Layout.{IsDisturbed, Some_of}
use Rattle.flat_layout.specs.Plane.{AreWithin, IsSized}
use Rattle.flat_layout.specs.declared.way.Way.{Way}
use Rattle.flat_layout.specs.declared.way.Way.TheVariants.{Disturbed, Covered}

-- a name of the rules as the tree of what it reads; an empty layer reads nothing; a sized one is
-- another grown by so many squares on all sides, or shrunk
pub data Formula : Type 0 where
  Input : (key : LayerKey) → Formula
  Empty : Formula
  Binary : (op : Op) (a b : Formula) → Formula
  Sized : (by : ℤ) (a : Formula) → Formula

-- the input layers that a name reads
abbrev pub inputs : Formula → List LayerKey
inputs (Input key) = key ∷ []
inputs Empty = []
inputs (Binary op a b) = inputs a ++ inputs b
inputs (Sized by a) = inputs a

-- how far from a square the shapes may lie that decide whether the name has it
abbrev pub reach : Formula → ℕ
reach (Input key) = 0
reach Empty = 0
reach (Binary op a b) = max (reach a) (reach b)
reach (Sized by a) = reach a + unsigned_abs by

-- the Booleans of the rules, on whether a square lies in each of two layers
abbrev pub Combines : Op → Type 0 → Type 0 → Type 0
Combines And A B = A × B
Combines Or A B = A ⊎ B
Combines Not A B = A × (B → ⊥)
Combines Xor A B = (A × (B → ⊥)) ⊎ (B × (A → ⊥))

-- q is a flat square of the cell on a name: pointwise over the flat input layers, and of a sized
-- name in the operand's flat squares grown or shrunk
abbrev pub InFlat : Design → ℕ → Formula → Square → Type 0
InFlat d cell (Input key) q = InFlatInput d cell key q
InFlat d cell Empty q = ⊥
InFlat d cell (Binary op a b) q = Combines op (InFlat d cell a q) (InFlat d cell b q)
InFlat d cell (Sized by a) q = IsSized by (InFlat d cell a) q

-- a square within n of q is disturbed in the cell for some layers
pub record IsStirred (d : Design) (keys : List LayerKey) (n cell : ℕ) (q : Square) : Type 0 where
  pub square : Square
  pub within : AreWithin n square q
  pub disturbed : IsDisturbed d keys cell square

-- nothing from elsewhere lies over the square on these layers, or only where the cell itself has
-- something on the same layer
abbrev pub IsShutBy : Way → Design → List LayerKey → ℕ → Square → Type 0
IsShutBy Disturbed d keys cell q = IsDisturbed d keys cell q → ⊥
IsShutBy Covered d keys cell q = (key : LayerKey) → Some_of (λ k. k ≡ key) keys
    → IsDisturbed d (key ∷ []) cell q → InFlatInput d cell key q

abbrev pub IsShut : Design → List LayerKey → ℕ → Square → Type 0
IsShut d keys cell q = IsShutBy d.way d keys cell q

-- and so all within n of it
abbrev pub IsCalmAt : Design → List LayerKey → ℕ → ℕ → Square → Type 0
IsCalmAt d keys n cell q = (z : Square) → AreWithin n z q → IsShut d keys cell z

-- a flat square within whose reach all is shut for the name's inputs
abbrev pub IsCalmFlat : Design → ℕ → Formula → Square → Type 0
IsCalmFlat d cell name q = InFlat d cell name q × IsCalmAt d (inputs name) (reach name) cell q

-- the most that the shapes of others may make of a name without the cell's
abbrev pub IsLone : Design → ℕ → Formula → Square → Type 0
IsLone d cell (Input key) q = IsDisturbed d (key ∷ []) cell q
IsLone d cell Empty q = ⊥
IsLone d cell (Binary And a b) q = IsLone d cell a q × IsLone d cell b q
IsLone d cell (Binary Or a b) q = IsLone d cell a q ⊎ IsLone d cell b q
IsLone d cell (Binary Not a b) q = IsLone d cell a q
IsLone d cell (Binary Xor a b) q = IsLone d cell a q ⊎ IsLone d cell b q
IsLone d cell (Sized by a) q = IsSized by (IsLone d cell a) q

-- the cell keeps q: of a derived name such a square, of an input layer each flat square
abbrev pub IsKept : Design → ℕ → Formula → Square → Type 0
IsKept d cell (Input key) q = InFlatInput d cell key q
IsKept d cell Empty q = ⊥
IsKept d cell (Binary op a b) q = IsCalmFlat d cell (Binary op a b) q
IsKept d cell (Sized by a) q = IsCalmFlat d cell (Sized by a) q

-- q is the image of a kept square of a placed cell
pub record IsKeptBelow (d : Design) (cell : ℕ) (name : Formula) (q : Square) : Type 0 where
  pub number : ℕ
  pub place : Place
  pub square : Square
  pub placed : IsPlaced d cell number place
  pub kept : IsKept d place.cell name square
  pub image : moved_square place.motion square ≡ q

-- the cell keeps q, and no placed cell does
abbrev pub IsNewlyKept : Design → ℕ → Formula → Square → Type 0
IsNewlyKept d cell name q = IsKept d cell name q × (IsKeptBelow d cell name q → ⊥)

-- the cell itself holds q: of a derived name such a square, of an input layer its own squares
abbrev pub IsLocal : Design → ℕ → Formula → Square → Type 0
IsLocal d cell (Input key) q = IsOwn d cell key q
IsLocal d cell Empty q = ⊥
IsLocal d cell (Binary op a b) q = IsNewlyKept d cell (Binary op a b) q
IsLocal d cell (Sized by a) q = IsNewlyKept d cell (Sized by a) q

-- q is the image of what a cell at or below this one holds itself
pub record IsCovered (d : Design) (cell : ℕ) (name : Formula) (q : Square) : Type 0 where
  pub path : List ℕ
  pub end : ℕ
  pub square : Square
  pub takes : Takes d cell path end square q
  pub here : IsLocal d end name square

-- it is known whether it holds
abbrev pub IsDecided : Type 0 → Type 0
IsDecided A = A ⊎ (A → ⊥)
