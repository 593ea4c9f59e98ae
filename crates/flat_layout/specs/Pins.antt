-- Texts on the nets of a cell, the nets' base names, and which nets are pins.
use Rattle.std.specs.Prelude.{◌≡◌, ◌⊎◌, ◌↔◌, ℕ, ◌<◌, Bool, true, List, [], ◌∷◌, ◌++◌, Some, length}
use Rattle.std.specs.Prelude.{slice_get}
use Rattle.std.specs.Ordering.{is_lt, nat_cmp}
use Rattle.std.specs.Cmp.Lexicographic.{slice_cmp}
use Rattle.geo_base.specs.declared.shapes.Square.{Square}
use Rattle.flat_layout.specs.GateTables.{GateEntry, GoodGate, gate_nets, good_gates}
use Rattle.flat_layout.specs.Layout.{Place, Text, Design, Some_of, HasText, IsPlaced, Leads}
use Rattle.flat_layout.specs.Layout.{IsReached}
use Rattle.flat_layout.specs.Nets.{Item, Child, CellNets, Tables, IsOf, NetHolds}
use Rattle.flat_layout.specs.Plane.{IsCorner}
use Rattle.flat_layout.specs.Regions.{Wiring, Node, At, Ground}
use Rattle.plain_netlist.specs.Lists.{IsListed, AreRising}

-- a text of the cell, on a layer of texts that a line connects to the conductor, stands at a corner
-- of the square
pub record IsTextOn (d : Design) (w : Wiring) (cell conductor : ℕ) (q : Square)
    (text : Text) : Type 0 where
  pub has : HasText d cell text
  pub line : Some_of (λ l. (l.key ≡ text.key) × (l.conductor ≡ conductor)) w.labels
  pub corner : IsCorner text.at q

-- a global, or a square to which a text of the cell attaches
abbrev pub IsMarked : Design → Wiring → ℕ → Node → Type 0
IsMarked d w cell (At c q) = (text : Text) × IsTextOn d w cell c q text
IsMarked d w cell (Ground g) = Unit {0}

-- a net that holds a global or has a text of the cell
pub record IsMarkedNet (d : Design) (w : Wiring) (t : Tables) (cell x : ℕ) : Type 0 where
  pub node : Node
  pub holds : NetHolds d t cell x node
  pub marked : IsMarked d w cell node

-- what names a node: the string of a text that attaches to it, the name of a global
abbrev pub IsNodeTag : Design → Wiring → ℕ → Node → List ℕ → Type 0
IsNodeTag d w cell (At c q) s = (text : Text) × IsTextOn d w cell c q text × (text.string ≡ s)
IsNodeTag d w cell (Ground g) s = slice_get w.globals g ≡ Some s

-- and a net: what names a node that it holds
abbrev pub IsTag : Design → Wiring → Tables → ℕ → ℕ → List ℕ → Type 0
IsTag d w t cell x s = (n : Node) × NetHolds d t cell x n × IsNodeTag d w cell n s

-- byte by byte, and a beginning before what it begins
abbrev pub IsTextBefore : List ℕ → List ℕ → Type 0
IsTextBefore a b = is_lt (slice_cmp nat_cmp a b) ≡ true

-- joined by commas
abbrev pub with_commas : List (List ℕ) → List ℕ
with_commas [] = []
with_commas (s ∷ []) = s
with_commas (s ∷ r ∷ rest) = s ++ 44 ∷ with_commas (r ∷ rest)

-- the base name of a net: the set of its tags, in byte order, joined by commas; empty where it has
-- none
pub record IsBase (d : Design) (w : Wiring) (t : Tables) (cell x : ℕ) (base : List ℕ) : Type 0 where
  pub tags : List (List ℕ)
  pub each : (s : List ℕ) → IsListed s tags ↔ IsTag d w t cell x s
  pub rising : AreRising IsTextBefore tags
  pub joined : base ≡ with_commas tags

-- of each net of a cell, whether it is a pin, and its base name
pub record CellPins : Type 0 where
  pub pins : List Bool
  pub names : List (List ℕ)

abbrev pub IsPinNet : (ℕ → CellPins) → ℕ → ℕ → Type 0
IsPinNet pins cell x = slice_get (pins cell).pins x ≡ Some true

abbrev pub IsNetOf : CellNets → Item → ℕ → Type 0
IsNetOf v item x = (i : ℕ) × IsOf v x i item

-- a good gate of the cell has a terminal on the net
abbrev pub HasGate : (ℕ → List GateEntry) → ℕ → ℕ → Type 0
HasGate gates cell x = (i : ℕ) × (gate : GoodGate)
    × (slice_get (good_gates (gates cell)) i ≡ Some gate) × IsListed x (gate_nets gate.row)

-- what makes a placed cell's net a pin: its net in the parent has another item, a gate's terminal,
-- or is a pin
abbrev pub IsUsed : Tables → (ℕ → List GateEntry) → (ℕ → CellPins) → ℕ → Item → ℕ → Type 0
IsUsed t gates pins cell item x = ((other : Item) × (other ≡ item → ⊥)
    × IsNetOf (t.nets cell) other x) ⊎ (HasGate gates cell x ⊎ IsPinNet pins cell x)

-- some reached cell's placement has the net in use
pub record IsUsedAbove (d : Design) (t : Tables) (gates : ℕ → List GateEntry) (pins : ℕ → CellPins)
    (cell b : ℕ) : Type 0 where
  pub parent : ℕ
  pub number : ℕ
  pub place : Place
  pub net : ℕ
  pub reached : IsReached d parent
  pub placed : IsPlaced d parent number place
  pub here : place.cell ≡ cell
  pub is_of : IsNetOf (t.nets parent) (Child number b) net
  pub used : IsUsed t gates pins parent (Child number b) net

-- over right nets and gates and the pins of the cells above, the pins of a cell, and the base names
-- of its nets
pub record ArePins (d : Design) (w : Wiring) (t : Tables) (gates : ℕ → List GateEntry)
    (pins : ℕ → CellPins) (cell : ℕ) (v : CellPins) : Type 0 where
  pub count : length v.pins ≡ (t.nets cell).count
  pub each : (b : ℕ) → b < (t.nets cell).count → (slice_get v.pins b ≡ Some true)
      ↔ (IsMarkedNet d w t cell b ⊎ IsUsedAbove d t gates pins cell b)
  pub named : length v.names ≡ (t.nets cell).count
  pub names : (b : ℕ) (base : List ℕ) → slice_get v.names b ≡ Some base → IsBase d w t cell b base

-- a reached cell above this one
abbrev pub IsAbove : Design → ℕ → ℕ → Type 0
IsAbove d e cell = IsReached d e × ((k : ℕ) × (path : List ℕ) × Leads d e (k ∷ path) cell)

-- the pins of a cell, without a word of other cells' pins: they are right over all that are right
-- above
abbrev pub ArePinsOf : Design → Wiring → Tables → (ℕ → List GateEntry) → ℕ → CellPins → Type 0
ArePinsOf d w t gates cell v = (pins : ℕ → CellPins)
    → ((e : ℕ) → IsAbove d e cell → ArePins d w t gates pins e (pins e))
    → ArePins d w t gates pins cell v
