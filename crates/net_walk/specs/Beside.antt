-- Links of a rectangle of a cell and a placement.
use Rattle.std.specs.Prelude.{◌≡◌, ◌⊎◌, ◌↔◌, ℕ, ◌+◌, ◌<◌, ◌≤◌, List, [], ◌∷◌, Some, slice_get}
use Rattle.std.specs.Prelude.{length}
use Rattle.flat_layout.specs.Layout.{Design, Place}
use Rattle.flat_layout.specs.Nets.{Item, Own, Child, Tables, IsItem, AreRightBelow, items_of}
use Rattle.flat_layout.specs.Plane.{IsIn}
use Rattle.flat_layout.specs.Regions.{Wiring, IsJoined}
use Rattle.geo_base.specs.declared.shapes.Rect.{Rect}
use Rattle.geo_base.specs.declared.shapes.Square.{Square}
use Rattle.link_classes.specs.Classes.{IsLinked}
use Rattle.link_classes.specs.declared.classes.Link.{Link}
use Rattle.net_link_laws.specs.Found.{IsSquareLink}
use Rattle.net_link_laws.specs.Places.{owned_before, places_of}
use Rattle.geo_base.specs.Rects.{grown}
use Rattle.net_walk.specs.Pairs.{first_of}
use Rattle.net_walk.specs.Seen.{AreLinksOver, IsJoinedSeen}
use Rattle.touching_pieces.specs.Pairs.{AreJoined, AreOne}
use Rattle.touching_pieces.specs.declared.conductors.Joined.{Joined}
use Rattle.touching_pieces.specs.declared.pieces.Piece.{Piece}

-- of the rectangle, or of the placement in the window round it and a conductor joined to its own
abbrev pub IsBesideSeen : Design → Tables → List Joined → Rect → ℕ → ℕ → ℕ → Place → ℕ → ℕ → ℕ
    → Square → Type 0
IsBesideSeen d t joins rect conductor item n p at c i q =
    ((conductor ≡ c) × (item ≡ i) × IsIn q rect)
    ⊎ IsJoinedSeen d t joins conductor p (grown 1 rect) at n c i q

-- each link is one by squares between items, and chains of links join what such links of the two
-- join
pub record AreBesideLinks (d : Design) (w : Wiring) (t : Tables) (cell c r k : ℕ)
    (links : List Link) : Type 0 where
  pub each : (i j : ℕ) → IsLinked links i j → (a : Item) × (b : Item)
      × (slice_get (items_of d w t cell) i ≡ Some a) × (slice_get (items_of d w t cell) j ≡ Some b)
      × IsSquareLink d w t cell a b
  pub found : (x : ℕ) → IsSquareLink d w t cell (Own c r) (Child k x)
      → AreOne links (owned_before t cell c + r) (first_of d w t cell k + x)

abbrev pub BesidePairLaw : Type 0
BesidePairLaw = (d : Design) (w : Wiring) (t : Tables) (cell c r k : ℕ) (p : Place) (rect : Rect)
    (joins : List Joined) (links : List Link) → AreRightBelow d w t cell
    → IsItem d w t cell (Own c r) → slice_get (t.own cell c) r ≡ Some rect
    → slice_get (places_of d cell) k ≡ Some p → ((a e : ℕ) → AreJoined joins a e ↔ IsJoined w a e)
    → AreLinksOver joins (IsBesideSeen d t joins rect c (owned_before t cell c + r)
    (length w.conductors) p (first_of d w t cell k)) links → AreBesideLinks d w t cell c r k links

-- squares of the items at two places touch
abbrev pub IsSquarePair : Design → Wiring → Tables → ℕ → ℕ → ℕ → Type 0
IsSquarePair d w t cell i j = (a : Item) × (b : Item) × (slice_get (items_of d w t cell) i ≡ Some a)
    × (slice_get (items_of d w t cell) j ≡ Some b) × IsSquareLink d w t cell a b

-- each new link is one by squares, and chains join what those of a rectangle and a placement join:
-- of a piece and a placement
pub record AddsPieceBeside (d : Design) (w : Wiring) (t : Tables) (cell : ℕ) (o : Piece) (k : ℕ)
    (old new : List Link) : Type 0 where
  pub kept : (i j : ℕ) → IsLinked old i j → IsLinked new i j
  pub each : (i j : ℕ) → IsLinked new i j → IsLinked old i j ⊎ IsSquarePair d w t cell i j
  pub found : (c r x : ℕ) → o.conductor ≡ c → o.item ≡ owned_before t cell c + r
      → IsSquareLink d w t cell (Own c r) (Child k x)
      → AreOne new (owned_before t cell c + r) (first_of d w t cell k + x)

-- of some pairs, in which rectangles stand as their items, and placements by their numbers from a
-- place on
pub record AddsPairsBeside (d : Design) (w : Wiring) (t : Tables) (cell from : ℕ)
    (pairs old new : List Link) : Type 0 where
  pub kept : (i j : ℕ) → IsLinked old i j → IsLinked new i j
  pub each : (i j : ℕ) → IsLinked new i j → IsLinked old i j ⊎ IsSquarePair d w t cell i j
  pub found : (c r k x : ℕ) → IsLinked pairs (owned_before t cell c + r) (from + k)
      → IsSquareLink d w t cell (Own c r) (Child k x)
      → AreOne new (owned_before t cell c + r) (first_of d w t cell k + x)

-- and of all
pub record AddsBeside (d : Design) (w : Wiring) (t : Tables) (cell : ℕ)
    (old new : List Link) : Type 0 where
  pub kept : (i j : ℕ) → IsLinked old i j → IsLinked new i j
  pub each : (i j : ℕ) → IsLinked new i j → IsLinked old i j ⊎ IsSquarePair d w t cell i j
  pub found : (c r k x : ℕ) → IsSquareLink d w t cell (Own c r) (Child k x)
      → AreOne new (owned_before t cell c + r) (first_of d w t cell k + x)

-- a pair has an item of the first ones, and a placement, counted from there on
abbrev pub IsPairBeside : ℕ → ℕ → Link → Type 0
IsPairBeside from places l = ((l.one < from) × (from ≤ l.other) × (l.other < from + places))
    ⊎ ((l.other < from) × (from ≤ l.one) × (l.one < from + places))

-- and so has each
abbrev pub ArePairsBeside : ℕ → ℕ → List Link → Type 0
ArePairsBeside from places [] = Unit {0}
ArePairsBeside from places (l ∷ ls) = IsPairBeside from places l × ArePairsBeside from places ls
