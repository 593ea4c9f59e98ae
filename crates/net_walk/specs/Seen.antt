-- Pieces of a placed cell's nets as a cell sees them: moved, and with the places of items.
use Rattle.std.specs.Prelude.{◌≡◌, ◌⊎◌, ◌↔◌, ℕ, ◌+◌, ◌<◌, List, [], ◌∷◌}
use Rattle.flat_layout.specs.Layout.{Design, Place, Some_of}
use Rattle.flat_layout.specs.Nets.{Tables, NetHolds}
use Rattle.flat_layout.specs.Plane.{IsIn, IsNear}
use Rattle.flat_layout.specs.Regions.{At}
use Rattle.geo_base.specs.Motions.{moved_square}
use Rattle.geo_base.specs.declared.motion.Motion.{Motion}
use Rattle.geo_base.specs.declared.shapes.Rect.{Rect}
use Rattle.geo_base.specs.declared.shapes.Square.{Square}
use Rattle.net_link_laws.specs.Collected.{IsOver}
use Rattle.net_link_laws.specs.declared.piece.NetPiece.{NetPiece}
use Rattle.geo_base.specs.Rects.{IsRect}
use Rattle.link_classes.specs.Classes.{IsLinked}
use Rattle.link_classes.specs.declared.classes.Link.{Link}
use Rattle.touching_pieces.specs.Pairs.{AreJoined, AreOne}
use Rattle.touching_pieces.specs.declared.conductors.Joined.{Joined}
use Rattle.touching_pieces.specs.declared.pieces.Piece.{Piece}

-- a piece of the conductor and the item covers the square
abbrev pub IsPieceOver : List Piece → ℕ → ℕ → Square → Type 0
IsPieceOver ps c i q = Some_of (λ p. (p.conductor ≡ c) × (p.item ≡ i) × IsIn q p.rect) ps

-- none of the pieces is empty
abbrev pub HaveSquares : List Piece → Type 0
HaveSquares [] = Unit {0}
HaveSquares (p ∷ ps) = IsRect p.rect × HaveSquares ps

-- the pieces are those before and some more, over these squares
pub record AddsSeen (R : ℕ → ℕ → Square → Type 0) (old new : List Piece) : Type 0 where
  pub over : (c i : ℕ) (q : Square) → IsPieceOver new c i q ↔ (IsPieceOver old c i q ⊎ R c i q)
  pub filled : HaveSquares old → HaveSquares new

-- squares of joined conductors, over items i and j, are near
pub record AreNearOver (joins : List Joined) (R : ℕ → ℕ → Square → Type 0) (i j : ℕ) : Type 0 where
  pub c : ℕ
  pub e : ℕ
  pub p : Square
  pub q : Square
  pub joined : AreJoined joins c e
  pub over : R c i p
  pub over_too : R e j q
  pub near : IsNear p q

-- each link is of two such items, and chains of links join each two
pub record AreLinksOver (joins : List Joined) (R : ℕ → ℕ → Square → Type 0)
    (links : List Link) : Type 0 where
  pub each : (i j : ℕ) → IsLinked links i j → AreNearOver joins R i j
  pub found : (i j : ℕ) → AreNearOver joins R i j → AreOne links i j

-- images of pieces of a conductor, each of the item that stands that far behind a place
abbrev pub IsSeenOf : Motion → List NetPiece → ℕ → ℕ → ℕ → ℕ → Square → Type 0
IsSeenOf motion pieces conductor at c i q = (conductor ≡ c) × (x : ℕ) × (m : Square)
    × IsOver pieces x m × (at + x ≡ i) × (moved_square motion m ≡ q)

-- what the nets of a placed cell hold of the first conductors in the window, as the placement
-- brings it there
pub record IsSeen (d : Design) (t : Tables) (p : Place) (window : Rect) (at conductors c i : ℕ)
    (q : Square) : Type 0 where
  pub known : c < conductors
  pub net : ℕ
  pub square : Square
  pub holds : NetHolds d t p.cell net (At c square)
  pub item : at + net ≡ i
  pub image : moved_square p.motion square ≡ q
  pub within : IsIn q window

-- the line joins the two, in either order
abbrev pub JoinsTwo : Joined → ℕ → ℕ → Type 0
JoinsTwo l c e = ((l.first ≡ c) × (l.second ≡ e)) ⊎ ((l.first ≡ e) × (l.second ≡ c))

-- of a conductor that is joined to this one
abbrev pub IsJoinedSeen : Design → Tables → List Joined → ℕ → Place → Rect → ℕ → ℕ → ℕ → ℕ → Square
    → Type 0
IsJoinedSeen d t joins conductor p window at n c i q =
    AreJoined joins conductor c × IsSeen d t p window at n c i q

-- of a conductor, where two others are one
abbrev pub IsSeenWhere : Design → Tables → ℕ → ℕ → ℕ → Place → Rect → ℕ → ℕ → ℕ → ℕ → Square
    → Type 0
IsSeenWhere d t one conductor other p window at n c i q =
    (one ≡ conductor) × (other ≡ c) × IsSeen d t p window at n c i q

-- of the conductor that the line joins to this one
abbrev pub IsLineSeen : Design → Tables → Joined → ℕ → Place → Rect → ℕ → ℕ → ℕ → ℕ → Square
    → Type 0
IsLineSeen d t line conductor p window at n c i q =
    JoinsTwo line conductor c × IsSeen d t p window at n c i q

-- the items have room in 32 bits
abbrev pub HaveItems : ℕ → List NetPiece → Type 0
HaveItems at [] = Unit {0}
HaveItems at (p ∷ ps) = (at + p.net < 4294967296) × HaveItems at ps

-- of one conductor
abbrev pub IsSeenAt : Design → Tables → Place → Rect → ℕ → ℕ → ℕ → ℕ → Square → Type 0
IsSeenAt d t p window at conductor c i q =
    (conductor ≡ c) × IsSeen d t p window at (conductor + 1) c i q

-- of two placed cells
abbrev pub IsSeenOfTwo : Design → Tables → Rect → ℕ → Place → ℕ → Place → ℕ → ℕ → ℕ → Square
    → Type 0
IsSeenOfTwo d t window n one at other other_at c i q =
    IsSeen d t one window at n c i q ⊎ IsSeen d t other window other_at n c i q
