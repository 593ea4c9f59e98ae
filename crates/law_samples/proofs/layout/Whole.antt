-- All that the phases fill in for the design with transistors is right.
use Rattle.flat_layout.specs.Expanded.{AreTablesRight}
use Rattle.law_samples.proofs.layout.Columns.{levels}
use Rattle.law_samples.proofs.layout.Listed.{gates}
use Rattle.law_samples.proofs.layout.Planned.{cells, circuits, drawn, pinned}
use Rattle.law_samples.proofs.layout.Wires.{wired}
use Rattle.law_samples.specs.Sample.{sample_level}
use Rattle.law_samples.specs.Transistors.{gate_design, gate_wiring, gate_tables, gate_rules, gate_circuits, gate_netlist}

pub right : AreTablesRight gate_design gate_wiring gate_tables gate_circuits gate_netlist gate_rules 1000 sample_level
right = record { levels = levels; tables = wired; gates = gates; pins = pinned; drawn = drawn; cells = cells; circuits = circuits }
