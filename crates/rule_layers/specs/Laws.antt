-- Conductors are read as their names; grounds are known globals; the terminals of a sound rule
-- set's devices are conductors; how far names and device rules reach.
use Rattle.std.specs.Prelude.{◌≡◌, ◌<◌, ◌≤◌, ℕ, true, false, List, length, map, slice_get, get_or}
use Rattle.std.specs.Prelude.{Some}
use Rattle.flat_layout.specs.Gates.{Rule, gate_reach}
use Rattle.flat_layout.specs.Layers.{Empty, reach}
use Rattle.flat_layout.specs.Regions.{formula, ground_of}
use Rattle.rule_text.specs.declared.rules.LayerRule.{LayerRule}
use Rattle.rule_text.specs.Reaches.{reaches}
use Rattle.rule_text.specs.Rules.{Rules}
use Rattle.rule_text.specs.Reading.{is_conductor}
use Rattle.rule_text.specs.Sound.{IsSound}
use Rattle.rule_layers.specs.Formulas.{formulas, greatest_reach}
use Rattle.rule_layers.specs.Meaning.{device_rules, wiring_of}

-- what a name reads as a conductor
pub record IsReadAs (r : Rules) (k : ℕ) : Type 0 where
  pub conductor : is_conductor k r ≡ true
      → formula (wiring_of r) k ≡ get_or (formulas r.names) k Empty
  pub none : is_conductor k r ≡ false → formula (wiring_of r) k ≡ Empty

abbrev pub ConductorLaw : Type 0
ConductorLaw = (r : Rules) (k : ℕ) → IsReadAs r k

-- a conductor's global is one of the globals
abbrev pub KnownGlobalLaw : Type 0
KnownGlobalLaw = (r : Rules) (c g : ℕ) → ground_of c (wiring_of r).grounds ≡ Some g
    → g < length (wiring_of r).globals

-- the terminals of a device are conductors
pub record AreTerminalsConductors (r : Rules) (u : Rule) : Type 0 where
  pub ts : is_conductor u.ts r ≡ true
  pub tg : is_conductor u.tg r ≡ true
  pub tb : is_conductor u.tb r ≡ true

abbrev pub TerminalConductorLaw : Type 0
TerminalConductorLaw = (r : Rules) (n : ℕ) (u : Rule) → IsSound r
    → slice_get (device_rules r) n ≡ Some u → AreTerminalsConductors r u

-- a name reaches as far as its tree
abbrev pub ReachLaw : Type 0
ReachLaw = (names : List LayerRule) → reaches names ≡ map reach (formulas names)

abbrev pub ReachInLaw : Type 0
ReachInLaw = (names : List LayerRule) (k : ℕ) → reach (get_or (formulas names) k Empty)
    ≤ greatest_reach names

-- no name of a sound rule set reaches further than 10,000
abbrev pub NearLaw : Type 0
NearLaw = (r : Rules) → IsSound r → greatest_reach r.names ≤ 10000

-- and no device rule further than a name
abbrev pub GateReachLaw : Type 0
GateReachLaw = (r : Rules) (n : ℕ) (u : Rule) → slice_get (device_rules r) n ≡ Some u
    → gate_reach (wiring_of r) u ≤ greatest_reach r.names
