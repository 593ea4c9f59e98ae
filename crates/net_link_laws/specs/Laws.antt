-- Links found in windows give the nets of a cell.
use Rattle.std.specs.Prelude.{◌≡◌, ◌⊎◌, ◌↔◌, ℕ, ◌<◌, List, length}
use Rattle.flat_layout.specs.Layout.{Design, Place, IsPlaced}
use Rattle.flat_layout.specs.Nets.{Item, Own, Child, CellNets, Tables, NetHolds, IsItem, IsItemLink}
use Rattle.flat_layout.specs.Nets.{AreNets, IsUnder, AreRightBelow, items_of}
use Rattle.flat_layout.specs.Regions.{Wiring, At, IsJoined}
use Rattle.geo_base.specs.declared.motion.Motion.{Motion}
use Rattle.geo_base.specs.declared.shapes.Rect.{Rect}
use Rattle.geo_base.specs.declared.shapes.Square.{Square}
use Rattle.link_classes.specs.Classes.{AreClasses}
use Rattle.link_classes.specs.declared.classes.Link.{Link}
use Rattle.net_link_laws.specs.declared.piece.NetPiece.{NetPiece}
use Rattle.net_link_laws.specs.Collected.{IsInNet, AreCollected, IsCollectedBelow, IsOver}
use Rattle.net_link_laws.specs.Collected.{IsOverOwn, IsOverChild}
use Rattle.net_link_laws.specs.Found.{IsFoundLink, IsSquareLink, AreItemLinks, AreAllFound}
use Rattle.net_link_laws.specs.Windows.{AreSeen, IsOwnAt, IsEnoughFor, IsHullOf}
use Rattle.geo_base.specs.Rects.{grown, common}
use Rattle.net_link_laws.specs.Windows.{AreInContact, AreMovedAlike, AreOwnInTouch}
use Rattle.net_link_laws.specs.Windows.{IsOwnBesideChild, AreChildrenInTouch}
use Rattle.plain_netlist.specs.Chains.{Reaches}

-- what is over the rectangles of the cell itself and over the images of what was collected below is
-- what the cell's nets hold in the window
abbrev pub CollectLaw : Type 0
CollectLaw = (d : Design) (t : Tables) (cell c : ℕ) (window : Rect) (below : ℕ → List NetPiece)
    (pieces : List NetPiece) → IsCollectedBelow d t cell c window below
    → ((x : ℕ) (q : Square) → IsOver pieces x q
    ↔ (IsOverOwn t cell c window x q ⊎ IsOverChild d t cell window below x q))
    → AreCollected d t cell c window pieces

-- the nets of each cell below one, itself among them, are right
abbrev pub AreNetsUnder : Design → Wiring → Tables → ℕ → Type 0
AreNetsUnder d w t cell = (e : ℕ) → IsUnder d cell e → AreNets d w t e (t.nets e)

-- an item is in one net
abbrev pub OneNetLaw : Type 0
OneNetLaw = (d : Design) (w : Wiring) (t : Tables) (cell : ℕ) (v : CellNets) (item : Item) (x y : ℕ)
    → AreNets d w t cell v → IsInNet v item x → IsInNet v item y → x ≡ y

-- nets hold squares of conductors alone
abbrev pub ConductorLaw : Type 0
ConductorLaw = (d : Design) (w : Wiring) (t : Tables) (cell x c : ℕ) (q : Square)
    → AreNetsUnder d w t cell → NetHolds d t cell x (At c q) → c < length w.conductors

-- chains of found links join the items that chains of links join
abbrev pub FoundLaw : Type 0
FoundLaw = (d : Design) (w : Wiring) (t : Tables) (cell : ℕ) → AreRightBelow d w t cell
    → (a b : Item) → Reaches (IsFoundLink d w t cell) a b ↔ Reaches (IsItemLink d w t cell) a b

-- so the classes of the links that were found, between the places of items, are the nets of the
-- cell
abbrev pub ClassLaw : Type 0
ClassLaw = (d : Design) (w : Wiring) (t : Tables) (cell : ℕ) (links : List Link) (class_of : List ℕ)
    (count : ℕ) → AreRightBelow d w t cell → AreItemLinks d w t cell links
    → AreClasses (length (items_of d w t cell)) links class_of count
    → AreNets d w t cell (record { items = items_of d w t cell; net_of = class_of; count = count })

-- these kinds are all; two nets of one placement touch only where they are one
abbrev pub AllLaw : Type 0
AllLaw = (d : Design) (w : Wiring) (t : Tables) (cell : ℕ) (links : List Link)
    → AreRightBelow d w t cell → AreAllFound d w t cell links → AreItemLinks d w t cell links

-- two rectangles of the cell: no window but themselves
abbrev pub OwnLaw : Type 0
OwnLaw = (d : Design) (w : Wiring) (t : Tables) (cell c r e s : ℕ) → IsItem d w t cell (Own c r)
    → IsItem d w t cell (Own e s) → IsSquareLink d w t cell (Own c r) (Own e s)
    ↔ AreOwnInTouch w t cell c r e s

-- a rectangle and a placed cell's net: the rectangle and one square more on each side is window
-- enough
abbrev pub BesideLaw : Type 0
BesideLaw = (d : Design) (w : Wiring) (t : Tables) (cell c r k x : ℕ) (p : Place) (rect : Rect)
    (pieces : ℕ → List NetPiece)
    → IsItem d w t cell (Own c r) → IsPlaced d cell k p → IsItem d w t cell (Child k x)
    → IsOwnAt t cell c r rect → AreSeen d t p (grown 1 rect) (IsJoined w c) pieces
    → IsSquareLink d w t cell (Own c r) (Child k x) ↔ IsOwnBesideChild w t cell c r p pieces x

-- two placed cells' nets are linked by squares where they are in contact
abbrev pub ContactLaw : Type 0
ContactLaw = (d : Design) (w : Wiring) (t : Tables) (cell k x l y : ℕ) (p q : Place)
    → IsPlaced d cell k p → IsPlaced d cell l q → IsItem d w t cell (Child k x)
    → IsItem d w t cell (Child l y)
    → IsSquareLink d w t cell (Child k x) (Child l y) ↔ AreInContact d w t p q x y

-- and that depends only on how the one lies beside the other
abbrev pub AlikeLaw : Type 0
AlikeLaw = (d : Design) (w : Wiring) (t : Tables) (o : Motion) (p q r s : Place) (x y : ℕ)
    → AreMovedAlike o p q r s → AreInContact d w t p q x y ↔ AreInContact d w t r s x y

-- it is found in a window that has all squares of each that lie within one square of the other
abbrev pub ChildrenLaw : Type 0
ChildrenLaw = (d : Design) (w : Wiring) (t : Tables) (x y : ℕ) (p q : Place) (window : Rect)
    (pieces others : ℕ → List NetPiece)
    → AreNetsUnder d w t p.cell → AreNetsUnder d w t q.cell → IsEnoughFor d t p q window
    → AreSeen d t p window (λ c. c < length w.conductors) pieces
    → AreSeen d t q window (λ c. c < length w.conductors) others
    → AreInContact d w t p q x y ↔ AreChildrenInTouch w p q pieces others x y

-- the common part of two hulls, each grown 1 by one square, is enough
abbrev pub HullLaw : Type 0
HullLaw = (d : Design) (t : Tables) (p q : Place) (one other : Rect) → IsHullOf d t p one
    → IsHullOf d t q other → IsEnoughFor d t p q (common (grown 1 one) (grown 1 other))
