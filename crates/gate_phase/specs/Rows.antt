-- The row of a good gate of a cell's own, from the nets of its terminals' nodes.
use Rattle.std.specs.Prelude.{◌≡◌, ◌⊎◌, ◌↔◌, ◌<◌, ◌+◌, ◌++◌, ℕ, List, [], ◌∷◌, Option, Some}
use Rattle.std.specs.Prelude.{None, length}
use Rattle.std.specs.Prelude.{slice_get}
use Rattle.geo_base.specs.declared.shapes.Square.{Square}
use Rattle.flat_layout.specs.Gates.{InGate, IsGateBelow, IsLeast, IsListedGate, IsSettled, Rule}
use Rattle.flat_layout.specs.Gates.{form_of, geometry, sheets}
use Rattle.flat_layout.specs.GateTables.{AreGates, GateEntry, GateRow, IsGateBefore, IsGateEntry}
use Rattle.flat_layout.specs.GateTables.{IsGateRow, Verdict, counted_device}
use Rattle.flat_layout.specs.GateTables as verdict
use Rattle.flat_layout.specs.Layout.{Design}
use Rattle.flat_layout.specs.Nets.{NetHolds, Tables}
use Rattle.flat_layout.specs.Regions.{At, Ground, Node, Wiring}
use Rattle.plain_netlist.specs.Devices.{IsRowOver, Row}
use Rattle.plain_netlist.specs.Lists.{AreRising, IsListed}
use Rattle.gate_shapes.specs.Shapes.{IsShapeBy}
use Rattle.gate_shapes.specs.declared.shape.GateForm.{GateForm}
use Rattle.gate_shapes.specs.declared.shape.GateShape.{GateShape}
use Rattle.gate_shapes.specs.declared.shape.GateShape.TheVariants.{Bad, Good}
use Rattle.gate_phase.specs.Own.{AreOwnGates, IsOwnGate}
use Rattle.gate_phase.specs.Terminals.{end_nodes, grounds_by, other_nodes}
use Rattle.gate_phase.specs.declared.own.OwnGate.{OwnGate}

-- the gate as a device over the nodes of its terminals, its sizes as they are counted
abbrev pub node_device : Wiring → Rule → Square → GateForm → Row Node
node_device w u least f = record {
  kind = u.kind;
  class = u.class;
  sizes = f.twice_l ∷ f.twice_w ∷ [];
  ends = end_nodes u.kind u.ts f;
  others = other_nodes u.kind u.ts u.tg u.tb (grounds_by w u) least;
}

-- these nets hold the nodes
abbrev pub HoldTerminals : Design → Wiring → Tables → Rule → ℕ → Square → GateForm → GateRow
    → Type 0
HoldTerminals d w t u cell least f row =
    IsRowOver (NetHolds d t cell) (counted_device u row) (node_device w u least f)

-- then they are the row of the gate
abbrev pub RowLaw : Type 0
RowLaw = (d : Design) (w : Wiring) (t : Tables) (u : Rule) (cell : ℕ) (least : Square)
    (f : GateForm) (row : GateRow)
    → IsShapeBy (form_of u.kind) (sheets d w u cell) (InGate d (geometry w u) cell least) (Good f)
    → IsLeast (InGate d (geometry w u) cell least) least
    → HoldTerminals d w t u cell least f row → IsGateRow d w t u cell least row

-- the verdict on a gate of this shape, where it is good over the nets of its terminals
abbrev pub IsVerdictOf : Design → Wiring → Tables → Rule → ℕ → Square → GateShape → Verdict → Type 0
IsVerdictOf d w t u cell least (Good f) v =
    (row : GateRow) × (v ≡ verdict.Good row) × HoldTerminals d w t u cell least f row
IsVerdictOf d w t u cell least (Bad c) v = v ≡ verdict.Bad c

-- a gate of the cell's own, under its rule and its least square, with this verdict, is a right
-- entry of the cell's list
abbrev pub EntryLaw : Type 0
EntryLaw = (d : Design) (w : Wiring) (t : Tables) (rules : List Rule) (n : ℕ) (u : Rule) (cell : ℕ)
    (x : OwnGate) (v : Verdict) → slice_get rules n ≡ Some u → IsOwnGate d w u cell x
    → IsVerdictOf d w t u cell x.least x.shape v
    → IsGateEntry d w t rules cell
    (record { at = record { rule = n; square = x.least }; verdict = v })

-- an entry for each of the own gates, in their order
pub record AreEntriesOf (d : Design) (w : Wiring) (t : Tables) (u : Rule) (n cell : ℕ)
    (own : List OwnGate) (entries : List GateEntry) : Type 0 where
  pub count : length entries ≡ length own
  pub at : (i : ℕ) (x : OwnGate) (e : GateEntry) → slice_get own i ≡ Some x
      → slice_get entries i ≡ Some e → e.at ≡ record { rule = n; square = x.least }
  pub verdicts : (i : ℕ) (x : OwnGate) (e : GateEntry) → slice_get own i ≡ Some x
      → slice_get entries i ≡ Some e → IsVerdictOf d w t u cell x.least x.shape e.verdict

-- the entries of the first n device rules, right as those of all are
pub record AreGatesTo (d : Design) (w : Wiring) (t : Tables) (rules : List Rule) (n cell : ℕ)
    (v : List GateEntry) : Type 0 where
  pub each : (x : GateEntry) → IsListed x v → IsGateEntry d w t rules cell x
  pub first : (x : GateEntry) → IsListed x v → x.at.rule < n
  pub found : (r : ℕ) (u : Rule) (s : Square) → r < n → slice_get rules r ≡ Some u
      → IsListedGate d (geometry w u) cell s
      → (x : GateEntry) × IsListed x v × (x.at.rule ≡ r)
      × InGate d (geometry w u) cell s x.at.square
  pub rising : AreRising (λ x y. IsGateBefore x.at y.at) v
  pub parted : (r : ℕ) (u : Rule) (s : Square) → r < n → slice_get rules r ≡ Some u
      → IsSettled d (geometry w u) cell s
      → IsListedGate d (geometry w u) cell s ⊎ IsGateBelow d (geometry w u) cell s

-- there are none before the first rule; those of the next rule's own gates stand behind; and those
-- of all rules are the cell's list
pub record GateListLaw : Type 0 where
  pub none : (d : Design) (w : Wiring) (t : Tables) (rules : List Rule) (cell : ℕ)
      → AreGatesTo d w t rules 0 cell []
  pub next : (d : Design) (w : Wiring) (t : Tables) (rules : List Rule) (n cell : ℕ) (u : Rule)
      (own : List OwnGate) (v entries : List GateEntry) → AreGatesTo d w t rules n cell v
      → slice_get rules n ≡ Some u → AreOwnGates d w u cell own
      → AreEntriesOf d w t u n cell own entries
      → AreGatesTo d w t rules (n + 1) cell (v ++ entries)
  pub all : (d : Design) (w : Wiring) (t : Tables) (rules : List Rule) (cell : ℕ)
      (v : List GateEntry) → AreGatesTo d w t rules (length rules) cell v
      → AreGates d w t rules cell v

-- those of the first rules are the list of these rules alone
abbrev pub PrefixLaw : Type 0
PrefixLaw = (d : Design) (w : Wiring) (t : Tables) (front behind : List Rule) (cell : ℕ)
    (v : List GateEntry)
    → AreGatesTo d w t (front ++ behind) (length front) cell v ↔ AreGates d w t front cell v

-- the net that holds a node; none where no net of the cell does
abbrev pub IsNetAt : Design → Tables → ℕ → Node → Option ℕ → Type 0
IsNetAt d t cell n None = (x : ℕ) → NetHolds d t cell x n → ⊥
IsNetAt d t cell n (Some x) = NetHolds d t cell x n
