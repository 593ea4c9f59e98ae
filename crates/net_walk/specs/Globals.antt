-- Links to globals.
use Rattle.std.specs.Prelude.{◌≡◌, ◌⊎◌, ℕ, ◌+◌, ◌<◌, ◌≤◌, List, length}
use Rattle.flat_layout.specs.Layout.{Design, Some_of}
use Rattle.flat_layout.specs.Nets.{Item, Own, Child, Tables, items_of}
use Rattle.flat_layout.specs.Regions.{Wiring}
use Rattle.link_classes.specs.Classes.{IsLinked}
use Rattle.link_classes.specs.declared.classes.Link.{Link}
use Rattle.net_link_laws.specs.Found.{IsGlobalLink, IsOnGlobal, Stands}
use Rattle.net_link_laws.specs.Places.{owned_before, nets_before, places_of}
use Rattle.net_walk.specs.declared.globals.GlobalItems.{GlobalItems}
use Rattle.net_walk.specs.declared.globals.Grounded.{Grounded}

-- some line grounds the conductor by the global
abbrev pub IsGroundedBy : List Grounded → ℕ → ℕ → Type 0
IsGroundedBy lines c g = Some_of (λ l. (l.conductor ≡ c) × (l.global ≡ g)) lines

-- the place of the first global among the items
abbrev pub globals_at : Design → Wiring → Tables → ℕ → ℕ
globals_at d w t cell = owned_before t cell (length w.conductors)
    + nets_before t (places_of d cell) (length (places_of d cell))

-- these are the cell's globals, and all its items have numbers
pub record AreGlobals (d : Design) (w : Wiring) (t : Tables) (g : GlobalItems) : Type 0 where
  pub count : g.count ≡ length w.globals
  pub at : g.at ≡ globals_at d w t g.cell
  pub room : length (items_of d w t g.cell) ≤ 4294967295

-- of the items at two places, the one is a global and the other is on it
abbrev pub IsGlobalPair : Design → Wiring → Tables → ℕ → ℕ → ℕ → Type 0
IsGlobalPair d w t cell i j = (a : Item) × (b : Item) × Stands d w t cell i a
    × Stands d w t cell j b × (IsGlobalLink d w t cell a b ⊎ IsGlobalLink d w t cell b a)

-- each new link is one to a global, and these are there
pub record AddsToGlobals (d : Design) (w : Wiring) (t : Tables) (cell : ℕ) (P : Item → ℕ → Type 0)
    (old new : List Link) : Type 0 where
  pub kept : (i j : ℕ) → IsLinked old i j → IsLinked new i j
  pub each : (i j : ℕ) → IsLinked new i j → IsLinked old i j ⊎ IsGlobalPair d w t cell i j
  pub found : (i g : ℕ) (a : Item) → P a g → g < length w.globals → Stands d w t cell i a
      → IsOnGlobal d w t cell a g → IsLinked new i (globals_at d w t cell + g)

-- a rectangle of the conductor of a line, and the global of the line
abbrev pub IsByLine : Grounded → Item → ℕ → Type 0
IsByLine l (Own c r) g = (l.conductor ≡ c) × (l.global ≡ g)
IsByLine l a g = ⊥

-- of one of the lines
abbrev pub IsByLines : List Grounded → Item → ℕ → Type 0
IsByLines lines a g = Some_of (λ l. IsByLine l a g) lines

-- of the first rectangles
abbrev pub IsByFirst : Grounded → ℕ → Item → ℕ → Type 0
IsByFirst l n (Own c r) g = (l.conductor ≡ c) × (l.global ≡ g) × (r < n)
IsByFirst l n a g = ⊥

-- a net of the placement
abbrev pub IsOfPlacement : ℕ → Item → ℕ → Type 0
IsOfPlacement k (Child l x) g = k ≡ l
IsOfPlacement k a g = ⊥

-- of one of the first globals
abbrev pub IsOfFirst : ℕ → ℕ → Item → ℕ → Type 0
IsOfFirst k n (Child l x) g = (k ≡ l) × (g < n)
IsOfFirst k n a g = ⊥

-- of one of the first placements
abbrev pub IsOfPlacements : ℕ → Item → ℕ → Type 0
IsOfPlacements n (Child l x) g = l < n
IsOfPlacements n a g = ⊥

-- of any item
abbrev pub IsAny : Item → ℕ → Type 0
IsAny a g = Unit {0}
