-- The regions of a set of unit squares, joined at edges or at corners, and what lies round one: its
-- ring, the groups beside it, its boundary edges.
use Rattle.std.specs.Prelude.{◌≡◌, ◌⊎◌, ◌↔◌, ℕ, ◌+◌, ◌<◌, List, [], ◌∷◌, length}
use Rattle.geo_base.specs.declared.shapes.Square.{Square}
use Rattle.plain_netlist.specs.Chains.{Reaches}
use Rattle.plain_netlist.specs.Lists.{IsListed, AreApart}
use Rattle.flat_layout.specs.Plane.{SharesEdge, IsAround, IsSquareBefore}
use Rattle.flat_layout.specs.declared.cause.GateCause.{GateCause}
use Rattle.flat_layout.specs.declared.cause.GateCause.TheVariants.{Groups, OffGate, OffSd}
use Rattle.flat_layout.specs.declared.cause.GateCause.TheVariants.{NoBulk, NoLength}

-- what joins two squares of a set: a common edge alone, or a common corner too
pub data Joint : Type 0 where
  Edges : Joint
  Corners : Joint

abbrev pub IsJoint : Joint → Square → Square → Type 0
IsJoint Edges p q = SharesEdge p q
IsJoint Corners p q = IsAround p q

-- adjacent squares in a set, and the edge or corner where they meet
pub record AreAdjacent (joint : Joint) (set : Square → Type 0) (p q : Square) : Type 0 where
  pub from : set p
  pub to : set q
  pub edge : IsJoint joint p q

-- the region of the set that has s: all that it is joined to in the set
pub record InRegion (joint : Joint) (set : Square → Type 0) (s q : Square) : Type 0 where
  pub from : set s
  pub joined : Reaches (AreAdjacent joint set) s q

-- steps along edges, and the edge-connected part of the set that has s
abbrev pub IsStep : (Square → Type 0) → Square → Square → Type 0
IsStep = AreAdjacent Edges

abbrev pub InPart : (Square → Type 0) → Square → Square → Type 0
InPart = InRegion Edges

-- the least square of a set
pub record IsLeast (set : Square → Type 0) (s : Square) : Type 0 where
  pub has : set s
  pub least : (q : Square) → set q → (s ≡ q) ⊎ IsSquareBefore s q

-- a square of the part or of its ring
pub record IsCloseTo (part : Square → Type 0) (q : Square) : Type 0 where
  pub square : Square
  pub in_part : part square
  pub around : IsAround square q

-- a square of the ring: outside the part, sharing an edge or a corner with one of its squares
pub record InRingOf (part : Square → Type 0) (q : Square) : Type 0 where
  pub close : IsCloseTo part q
  pub outside : part q → ⊥

-- one that lies on a set: on the squares of source and drain
pub record InSideOf (part ends : Square → Type 0) (q : Square) : Type 0 where
  pub ring : InRingOf part q
  pub sd : ends q

-- joined by shared edges inside the ring
abbrev pub InGroupOf : (Square → Type 0) → (Square → Type 0) → Square → Square → Type 0
InGroupOf part ends a b = Reaches (IsStep (InSideOf part ends)) a b

-- a square of the part, and one beside it in its ring
pub record Edge : Type 0 where
  pub inner : Square
  pub outer : Square

-- a boundary edge of the part
pub record IsBorderOf (part : Square → Type 0) (e : Edge) : Type 0 where
  pub inside : part e.inner
  pub outside : part e.outer → ⊥
  pub edge : SharesEdge e.inner e.outer

-- one that counts for twice the width: source or drain lies beyond
pub record IsWideOf (part ends : Square → Type 0) (e : Edge) : Type 0 where
  pub border : IsBorderOf part e
  pub sd : ends e.outer

-- one that counts for twice the length
pub record IsLongOf (part ends : Square → Type 0) (e : Edge) : Type 0 where
  pub border : IsBorderOf part e
  pub other : ends e.outer → ⊥

-- so many have P
pub record Counts {A : Type 0} (P : A → Type 0) (n : ℕ) : Type 0 where
  pub all : List A
  pub apart : AreApart all
  pub each : (a : A) → P a ↔ IsListed a all
  pub count : length all ≡ n

-- one of each class
pub record AreClasses {A : Type 0} (P : A → Type 0) (R : A → A → Type 0) (list : List A) : Type 0
  where
    pub each : (a : A) → IsListed a list → P a
    pub found : (a : A) → P a → (b : A) × IsListed b list × R a b
    pub one : (a b : A) → IsListed a list → IsListed b list → R a b → a ≡ b
    pub apart : AreApart list

-- the groups, by an edge between the part and each
abbrev pub AreGroupsOf : (Square → Type 0) → (Square → Type 0) → List Edge → Type 0
AreGroupsOf part ends list =
    AreClasses (IsWideOf part ends) (λ e f. InGroupOf part ends e.outer f.outer) list

-- the sets by which a part is judged: the squares of the groups beside it, the conductors of the
-- terminals, and whether the ends and the bulk need their own conductor
pub record Sheets : Type 1 where
  pub ends : Square → Type 0
  pub on_ends : Square → Type 0
  pub on_gate : Square → Type 0
  pub on_bulk : Square → Type 0
  pub free : Type 0
  pub loose : Type 0

-- each square of the one set lies in the other
abbrev pub AllOn : (Square → Type 0) → (Square → Type 0) → Type 0
AllOn part sheet = (q : Square) → part q → sheet q

-- some doesn't
abbrev pub SomeOff : (Square → Type 0) → (Square → Type 0) → Type 0
SomeOff part sheet = (q : Square) × part q × (sheet q → ⊥)

-- the squares of the groups beyond two edges
abbrev pub InEnds : (Square → Type 0) → (Square → Type 0) → Edge → Edge → Square → Type 0
InEnds part ends e f q = InGroupOf part ends e.outer q ⊎ InGroupOf part ends f.outer q

-- a good gate: two groups, by an edge of each, its sizes, and its squares on the terminals'
-- conductors
pub record IsGoodPart (g : Sheets) (part : Square → Type 0) (e f : Edge)
    (twice_w twice_l : ℕ) : Type 0 where
  pub groups : AreGroupsOf part g.ends (e ∷ (f ∷ []))
  pub wide : Counts (IsWideOf part g.ends) twice_w
  pub long : Counts (IsLongOf part g.ends) twice_l
  pub some : 0 < twice_l
  pub gate_on : AllOn part g.on_gate
  pub ends_on : AllOn (InEnds part g.ends e f) g.on_ends
  pub bulk_on : g.loose → AllOn part g.on_bulk

-- the first test that a bad gate fails
abbrev pub IsBadPart : Sheets → (Square → Type 0) → GateCause → Type 0
IsBadPart g part (Groups count) =
    (list : List Edge) × AreGroupsOf part g.ends list × (length list ≡ count) × (count ≡ 2 → ⊥)
IsBadPart g part OffGate =
    (e f : Edge) × AreGroupsOf part g.ends (e ∷ (f ∷ [])) × SomeOff part g.on_gate
IsBadPart g part OffSd = (e f : Edge) × AreGroupsOf part g.ends (e ∷ (f ∷ []))
    × AllOn part g.on_gate × SomeOff (InEnds part g.ends e f) g.on_ends
IsBadPart g part NoBulk = (e f : Edge) × AreGroupsOf part g.ends (e ∷ (f ∷ []))
    × AllOn part g.on_gate × AllOn (InEnds part g.ends e f) g.on_ends × g.loose
    × SomeOff part g.on_bulk
IsBadPart g part NoLength = (e f : Edge) × AreGroupsOf part g.ends (e ∷ (f ∷ []))
    × AllOn part g.on_gate × AllOn (InEnds part g.ends e f) g.on_ends
    × (g.loose → AllOn part g.on_bulk) × Counts (IsLongOf part g.ends) 0

-- a device lies beside groups, or it is its part alone
pub data Form : Type 0 where
  Beside : Form
  Alone : Form

-- where the two ends of a device are: beyond an edge of each of two groups; or it has none
pub data Sides : Type 0 where
  TwoGroups : (first second : Edge) → Sides
  Region : Sides

-- a good part without groups: its squares are counted, and twice its boundary edges
pub record IsGoodArea (g : Sheets) (part : Square → Type 0) (squares twice_edges : ℕ) : Type 0 where
  pub area : Counts part squares
  pub some : 0 < squares
  pub edges : ℕ
  pub border : Counts (IsBorderOf part) edges
  pub twice : twice_edges ≡ edges + edges
  pub ends_on : g.free → AllOn part g.on_ends
  pub bulk_on : g.loose → AllOn part g.on_bulk

-- the first test that a bad one fails
abbrev pub IsBadArea : Sheets → (Square → Type 0) → GateCause → Type 0
IsBadArea g part OffSd = g.free × SomeOff part g.on_ends
IsBadArea g part NoBulk = (g.free → AllOn part g.on_ends) × g.loose × SomeOff part g.on_bulk
IsBadArea g part cause = ⊥

-- by the form
abbrev pub IsGoodForm : Form → Sheets → (Square → Type 0) → Sides → ℕ → ℕ → Type 0
IsGoodForm Beside g part (TwoGroups e f) w l = IsGoodPart g part e f w l
IsGoodForm Alone g part Region w l = IsGoodArea g part w l
IsGoodForm form g part sides w l = ⊥

abbrev pub IsBadForm : Form → Sheets → (Square → Type 0) → GateCause → Type 0
IsBadForm Beside g part cause = IsBadPart g part cause
IsBadForm Alone g part cause = IsBadArea g part cause
