-- Links of a rectangle that covers all squares of a placement's nets.
use Rattle.std.specs.Prelude.{◌≡◌, ◌↔◌, ℕ, ◌+◌, ◌<◌, List, Some, slice_get, length}
use Rattle.flat_layout.specs.Layout.{Design, Place}
use Rattle.flat_layout.specs.Nets.{Tables, AreRightBelow}
use Rattle.flat_layout.specs.Regions.{Wiring, IsJoined}
use Rattle.link_classes.specs.declared.classes.Link.{Link}
use Rattle.net_link_laws.specs.Places.{places_of}
use Rattle.net_link_laws.specs.Windows.{IsHullOf}
use Rattle.net_walk.specs.Beside.{AddsPieceBeside}
use Rattle.net_walk.specs.Held.{HasSquare, IsOneOf}
use Rattle.net_walk.specs.Owned.{IsOwnPiece}
use Rattle.net_walk.specs.Pairs.{first_of}
use Rattle.net_walk.specs.Seen.{JoinsTwo}
use Rattle.touching_pieces.specs.Pairs.{AddsLinks, AreJoined}
use Rattle.touching_pieces.specs.declared.conductors.Joined.{Joined}
use Rattle.touching_pieces.specs.declared.pieces.Piece.{Piece}

-- from the item to one that stands as far behind a place as a number of the list
abbrev pub IsListLink : ℕ → List ℕ → ℕ → ℕ → ℕ → Type 0
IsListLink item nets at i j = (item ≡ i) × (x : ℕ) × IsOneOf nets x × (at + x ≡ j)

-- or as a net of the cell with a square of the conductor
abbrev pub IsHeldLink : Design → Tables → ℕ → ℕ → ℕ → ℕ → ℕ → ℕ → Type 0
IsHeldLink d t item cell c at i j = (item ≡ i) × (x : ℕ) × HasSquare d t cell c x × (at + x ≡ j)

-- of a conductor among the first n, where two others are one
abbrev pub IsWhereLink : Design → Tables → ℕ → ℕ → ℕ → ℕ → ℕ → ℕ → ℕ → ℕ → ℕ → Type 0
IsWhereLink d t item one conductor other cell at n i j =
    (one ≡ conductor) × (other < n) × IsHeldLink d t item cell other at i j

-- of the one that the line joins to this one
abbrev pub IsLineLink : Design → Tables → Joined → ℕ → ℕ → ℕ → ℕ → ℕ → ℕ → ℕ → Type 0
IsLineLink d t line item c cell at n i j =
    (e : ℕ) × (e < n) × JoinsTwo line c e × IsHeldLink d t item cell e at i j

-- of one of the first n conductors that are joined to this one
abbrev pub IsWholeLink : Design → Tables → List Joined → ℕ → ℕ → ℕ → ℕ → ℕ → ℕ → ℕ → Type 0
IsWholeLink d t joins item c cell at n i j =
    (e : ℕ) × (e < n) × AreJoined joins c e × IsHeldLink d t item cell e at i j

-- where a piece covers all that a placement's nets hold, such links are all between the two
abbrev pub WholeLaw : Type 0
WholeLaw = (d : Design) (w : Wiring) (t : Tables) (cell k : ℕ) (o : Piece) (p : Place)
    (joins : List Joined) (old new : List Link) → AreRightBelow d w t cell
    → IsOwnPiece t cell (length w.conductors) o → slice_get (places_of d cell) k ≡ Some p
    → ((a e : ℕ) → AreJoined joins a e ↔ IsJoined w a e) → IsHullOf d t p o.rect
    → AddsLinks (IsWholeLink d t joins o.item o.conductor p.cell (first_of d w t cell k)
    (length w.conductors)) old new → AddsPieceBeside d w t cell o k old new
