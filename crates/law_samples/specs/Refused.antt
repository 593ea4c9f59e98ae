-- Wrong variants of the samples' tables: none of them is right. And nets that are right by
-- themselves.
use Rattle.std.specs.Prelude.{◌≡◌, ℕ, List, [], ◌∷◌, ◌++◌}
use Rattle.flat_layout.specs.Expanded.{AreTablesRight, CircuitTables}
use Rattle.flat_layout.specs.Nets.{AreListed, IsNetsOf, Tables}
use Rattle.law_samples.specs.Sample.{child_rect, nets_of, sample_design, sample_level}
use Rattle.law_samples.specs.Sample.{sample_tables, sample_wiring}
use Rattle.law_samples.specs.Transistors.{child_circuit, entry, gate_circuits, gate_design}
use Rattle.law_samples.specs.Transistors.{gate_netlist, gate_on, gate_rules, gate_tables}
use Rattle.law_samples.specs.Transistors.{gate_wiring, parent_circuit}
use Rattle.plain_netlist.specs.Netlist.{Circuit, Netlist}

-- the child's nets, over all right tables
abbrev pub ChildNetsLaw : Type 0
ChildNetsLaw = IsNetsOf sample_design sample_wiring 0 (nets_of 0)

-- a second copy of a rectangle
abbrev pub copied_tables : Tables
copied_tables = record { own = λ cell c. child_rect ∷ (child_rect ∷ []); nets = nets_of }

abbrev pub SecondCopyLaw : Type 0
SecondCopyLaw = AreListed sample_design sample_wiring sample_tables 0 0
    × (AreListed sample_design sample_wiring copied_tables 0 0 → ⊥)

-- these tables and circuits are right for the design with transistors
abbrev pub AreGateTablesRight : CircuitTables → Netlist → Type 0
AreGateTablesRight g nl =
    AreTablesRight gate_design gate_wiring gate_tables g nl gate_rules 1000 sample_level

-- the two circuits, with another one for the parent's
abbrev pub with_parent : Circuit → Netlist
with_parent c = record { circuits = child_circuit ∷ (c ∷ []) }

-- a call with a net too many
abbrev pub long_call : Circuit
long_call = record {
  name = parent_circuit.name;
  nets = parent_circuit.nets;
  pins = parent_circuit.pins;
  devices = parent_circuit.devices;
  calls = (record { circuit = 0; nets = 0 ∷ (1 ∷ (2 ∷ [])) }) ∷ [];
}

abbrev pub LongCallLaw : Type 0
LongCallLaw = AreGateTablesRight gate_circuits (with_parent long_call) → ⊥

-- another name
abbrev pub named : List ℕ → Circuit
named name = record {
  name = name;
  nets = parent_circuit.nets;
  pins = parent_circuit.pins;
  devices = parent_circuit.devices;
  calls = parent_circuit.calls;
}

abbrev pub OtherNameLaw : Type 0
OtherNameLaw = (name : List ℕ) → (name ≡ parent_circuit.name → ⊥)
    → AreGateTablesRight gate_circuits (with_parent (named name)) → ⊥

-- a further circuit behind
abbrev pub FurtherCircuitLaw : Type 0
FurtherCircuitLaw = (x : Circuit)
    → AreGateTablesRight gate_circuits (record { circuits = gate_netlist.circuits ++ x ∷ [] }) → ⊥

-- source and drain of the child's gate exchanged, whatever the other tables are
abbrev pub ExchangedLaw : Type 0
ExchangedLaw = (g : CircuitTables) (nl : Netlist) → g.gates 0 ≡ entry (gate_on 1 2 0 3) ∷ []
    → AreGateTablesRight g nl → ⊥
