-- The regions of a cell's list for one device rule, from the cell's own.
use Rattle.std.specs.Prelude.{◌≡◌, ℕ, List, [], ◌∷◌, ◌++◌, Some, map, slice_get}
use Rattle.geo_base.specs.declared.shapes.Square.{Square}
use Rattle.flat_layout.specs.Gates.{Rule}
use Rattle.flat_layout.specs.Layout.{Design}
use Rattle.flat_layout.specs.Nets.{Tables}
use Rattle.flat_layout.specs.Regions.{Wiring}
use Rattle.rule_layers.specs.Meaning.{device_rules, wiring_of}
use Rattle.rule_text.specs.Rules.{Rules}
use Rattle.deep_tables.specs.Gates.{HasArea, plain_gate, plain_state}
use Rattle.deep_tables.specs.Nets.{AreRightNets}
use Rattle.deep_tables.specs.declared.gates.Gate.{Gate}
use Rattle.deep_tables.specs.declared.gates.GateState.{GateState}
use Rattle.gate_shapes.specs.declared.shape.GateShape.{GateShape}
use Rattle.gate_shapes.specs.declared.shape.GateShape.TheVariants.{Bad, Good}
use Rattle.gate_phase.specs.Own.{AreOwnGates}
use Rattle.gate_phase.specs.Rows.{AreEntriesOf, AreGatesTo, IsVerdictOf}
use Rattle.gate_phase.specs.Terminals.{AreHeld, IsOfRule, RuleGrounds, grounds_by}
use Rattle.gate_phase.specs.declared.device.Device.{Device}
use Rattle.gate_phase.specs.declared.own.OwnGate.{OwnGate}

-- where the gate is good, nets of the cell hold the nodes of its terminals
abbrev pub IsHeldShape : Design → Wiring → Tables → Device → ℕ → RuleGrounds → Square → GateShape
    → Type 0
IsHeldShape d w t x cell g least (Good f) = AreHeld d w t x cell g least f
IsHeldShape d w t x cell g least (Bad c) = Unit {0}

-- the verdict on a gate of this shape for the rule of the text
abbrev pub IsStateOf : Design → Wiring → Tables → Device → RuleGrounds → ℕ → Square → GateShape
    → GateState → Type 0
IsStateOf d w t x g cell least shape s = (u : Rule) → IsOfRule u x → grounds_by w u ≡ g
    → IsVerdictOf d w t u cell least shape (plain_state s)

-- the gate of a list that a gate of the cell's own is, under the number of its rule
pub record IsGateOf (d : Design) (w : Wiring) (t : Tables) (rule : Device) (at : RuleGrounds)
    (n cell : ℕ) (x : OwnGate) (g : Gate) : Type 0 where
  pub device : g.device ≡ n
  pub area : g.area ≡ x.area
  pub least : g.least ≡ x.least
  pub state : IsStateOf d w t rule at cell x.least x.shape g.state

-- one of each, in their order
abbrev pub AreGatesOf : (OwnGate → Gate → Type 0) → List OwnGate → List Gate → Type 0
AreGatesOf is [] [] = Unit {0}
AreGatesOf is [] (g ∷ gs) = ⊥
AreGatesOf is (x ∷ xs) [] = ⊥
AreGatesOf is (x ∷ xs) (g ∷ gs) = is x g × AreGatesOf is xs gs

-- the regions of the cell's list for one device rule, right as entries over all right nets and by
-- their squares
pub record AreRuleGates (d : Design) (r : Rules) (u : Rule) (n cell : ℕ) (v : List Gate) : Type 0
  where
    pub own : List OwnGate
    pub are_own : AreOwnGates d (wiring_of r) u cell own
    pub entries : (t : Tables) → AreRightNets d (wiring_of r) t
        → AreEntriesOf d (wiring_of r) t u n cell own (map plain_gate v)
    pub areas : (i : ℕ) (g : Gate) → slice_get v i ≡ Some g → HasArea d r cell g

-- the globals of all device rules
abbrev pub rule_grounds : Rules → List RuleGrounds
rule_grounds r = map (grounds_by (wiring_of r)) (device_rules r)

-- behind regions that are right up to the first number these make them right up to the other
pub record GoOn (d : Design) (r : Rules) (cell from to : ℕ) (v : List Gate) : Type 0 where
  pub entries : (t : Tables) (before : List Gate) → AreRightNets d (wiring_of r) t
      → AreGatesTo d (wiring_of r) t (device_rules r) from cell (map plain_gate before)
      → AreGatesTo d (wiring_of r) t (device_rules r) to cell (map plain_gate (before ++ v))
  pub areas : (i : ℕ) (x : Gate) → slice_get v i ≡ Some x → HasArea d r cell x
