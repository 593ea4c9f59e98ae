-- The nets of a cell that hold squares of a conductor, in lists.
use Rattle.std.specs.Prelude.{◌≡◌, ◌⊎◌, ◌↔◌, ℕ, ◌+◌, ◌<◌, Bool, true, false, List, Some, slice_get}
use Rattle.std.specs.Prelude.{get_or, length}
use Rattle.flat_layout.specs.Layout.{Design}
use Rattle.flat_layout.specs.Nets.{Tables, NetHolds}
use Rattle.flat_layout.specs.Regions.{At}
use Rattle.geo_base.specs.declared.shapes.Square.{Square}
use Rattle.net_walk.specs.declared.held.Held.{Held}

-- the cell's net holds a square of the conductor
abbrev pub HasSquare : Design → Tables → ℕ → ℕ → ℕ → Type 0
HasSquare d t cell c x = (q : Square) × NetHolds d t cell x (At c q)

abbrev pub IsOneOf : List ℕ → ℕ → Type 0
IsOneOf xs x = (i : ℕ) × (i < length xs) × (get_or xs i 0 ≡ x)

-- exactly the nets of its cell that hold a square of its conductor
abbrev pub IsHeld : Design → Tables → Held → Type 0
IsHeld d t h = (x : ℕ) → IsOneOf h.nets.items x ↔ HasSquare d t h.cell h.conductor x

abbrev pub AreHeldLists : Design → Tables → List Held → Type 0
AreHeldLists d t lists = (p : ℕ) (h : Held) → slice_get lists p ≡ Some h → IsHeld d t h

-- the list at the position is of the cell and the conductor
abbrev pub IsListAt : List Held → ℕ → ℕ → ℕ → Type 0
IsListAt lists cell c p = (h : Held) × (slice_get lists p ≡ Some h) × (h.cell ≡ cell)
    × (h.conductor ≡ c)

abbrev pub IsMarked : List Bool → ℕ → Type 0
IsMarked marks x = get_or marks x false ≡ true

-- these numbers are marked beside those that were
pub record AddsMarks (R : ℕ → Type 0) (old new : List Bool) : Type 0 where
  pub long : length new ≡ length old
  pub marked : (x : ℕ) → IsMarked new x ↔ (IsMarked old x ⊎ R x)

-- the net of the item
abbrev pub IsNumbered : List ℕ → ℕ → ℕ → Type 0
IsNumbered net_of item x = get_or net_of item 0 ≡ x

-- of one of so many items from a place on
abbrev pub IsNumberedAt : List ℕ → ℕ → ℕ → ℕ → Type 0
IsNumberedAt net_of at count x = (r : ℕ) × (r < count) × IsNumbered net_of (at + r) x

-- of an item that stands as far behind a place as one of the list
abbrev pub IsNumberedBy : List ℕ → List ℕ → ℕ → ℕ → Type 0
IsNumberedBy below net_of at x = (b : ℕ) × IsOneOf below b × IsNumbered net_of (at + b) x
