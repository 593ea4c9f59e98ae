-- The links between a cell's items that are looked for: squares that touch, and items that are
-- joined to a global.
use Rattle.std.specs.Prelude.{length, ◌≡◌, ◌⊎◌, ℕ, ◌<◌, List, Some, slice_get}
use Rattle.flat_layout.specs.Layout.{Design, Place, IsPlaced}
use Rattle.flat_layout.specs.Nets.{Item, Own, Child, Global, Tables, IsOf, ItemHolds, IsItem}
use Rattle.flat_layout.specs.Nets.{IsItemLink, items_of}
use Rattle.flat_layout.specs.Plane.{IsNear}
use Rattle.flat_layout.specs.Regions.{Wiring, At, IsJoined, IsGrounded}
use Rattle.geo_base.specs.declared.shapes.Square.{Square}
use Rattle.link_classes.specs.Classes.{IsLinked}
use Rattle.link_classes.specs.declared.classes.Link.{Link}
use Rattle.plain_netlist.specs.Chains.{Reaches}
use Rattle.touching_pieces.specs.Pairs.{AreOne}

-- squares of the two touch
pub record IsSquareLink (d : Design) (w : Wiring) (t : Tables) (cell : ℕ)
    (a b : Item) : Type 0 where
  pub from : IsItem d w t cell a
  pub to : IsItem d w t cell b
  pub one : ℕ
  pub other : ℕ
  pub p : Square
  pub q : Square
  pub held : ItemHolds d t cell a (At one p)
  pub others : ItemHolds d t cell b (At other q)
  pub joined : IsJoined w one other
  pub near : IsNear p q

-- a rectangle of a conductor that a line joins to the global, or the one net of a placed cell that
-- is its global's
abbrev pub IsOnGlobal : Design → Wiring → Tables → ℕ → Item → ℕ → Type 0
IsOnGlobal d w t cell (Own c r) g = IsGrounded w c g
IsOnGlobal d w t cell (Child k x) g =
    (p : Place) × IsPlaced d cell k p × (i : ℕ) × IsOf (t.nets p.cell) x i (Global g)
IsOnGlobal d w t cell (Global h) g = ⊥

pub record IsGlobalLink (d : Design) (w : Wiring) (t : Tables) (cell : ℕ)
    (a b : Item) : Type 0 where
  pub from : IsItem d w t cell a
  pub global : ℕ
  pub known : global < length w.globals
  pub is : b ≡ Global global
  pub on : IsOnGlobal d w t cell a global

-- one of these, in either order
abbrev pub IsFoundLink : Design → Wiring → Tables → ℕ → Item → Item → Type 0
IsFoundLink d w t cell a b =
    IsSquareLink d w t cell a b ⊎ (IsGlobalLink d w t cell a b ⊎ IsGlobalLink d w t cell b a)

-- links between the places of items in their list: each joins items that chains of links join, and
-- each found link is joined by them
pub record AreItemLinks (d : Design) (w : Wiring) (t : Tables) (cell : ℕ)
    (links : List Link) : Type 0 where
  pub each : (i j : ℕ) → IsLinked links i j → (a : Item) × (b : Item)
      × (slice_get (items_of d w t cell) i ≡ Some a) × (slice_get (items_of d w t cell) j ≡ Some b)
      × Reaches (IsItemLink d w t cell) a b
  pub found : (i j : ℕ) (a b : Item) → slice_get (items_of d w t cell) i ≡ Some a
      → slice_get (items_of d w t cell) j ≡ Some b → IsFoundLink d w t cell a b → AreOne links i j

-- the item stands at a place of the list
abbrev pub Stands : Design → Wiring → Tables → ℕ → ℕ → Item → Type 0
Stands d w t cell i a = slice_get (items_of d w t cell) i ≡ Some a

-- each link is one of a found link; and chains of links join what found links join between
-- rectangles, between a rectangle and a placed cell's net, between nets of different placements, and
-- to globals
pub record AreAllFound (d : Design) (w : Wiring) (t : Tables) (cell : ℕ)
    (links : List Link) : Type 0 where
  pub each : (i j : ℕ) → IsLinked links i j → (a : Item) × (b : Item) × Stands d w t cell i a
      × Stands d w t cell j b × IsFoundLink d w t cell a b
  pub own : (i j c r e s : ℕ) → Stands d w t cell i (Own c r) → Stands d w t cell j (Own e s)
      → IsSquareLink d w t cell (Own c r) (Own e s) → AreOne links i j
  pub beside : (i j c r k x : ℕ) → Stands d w t cell i (Own c r) → Stands d w t cell j (Child k x)
      → IsSquareLink d w t cell (Own c r) (Child k x) → AreOne links i j
  pub children : (i j k x l y : ℕ) → (k ≡ l → ⊥) → Stands d w t cell i (Child k x)
      → Stands d w t cell j (Child l y) → IsSquareLink d w t cell (Child k x) (Child l y)
      → AreOne links i j
  pub globals : (i j : ℕ) (a b : Item) → Stands d w t cell i a → Stands d w t cell j b
      → IsGlobalLink d w t cell a b → AreOne links i j
