use Rattle.std.proofs.Common.{refl}
use Rattle.flat_laws.proofs.Expand.{expanded}
use Rattle.flat_laws.proofs.Flat.{flat_netlist}
use Rattle.flat_laws.proofs.OneNet.{regions}
use Rattle.law_samples.proofs.layout.Whole.{right}
use Rattle.law_samples.specs.Sample.{sample_level}
use Rattle.law_samples.specs.Transistors.{gate_design, gate_wiring, gate_tables, gate_circuits, gate_netlist, gate_rules}
use Rattle.law_samples.proofs.layout.sample_transistors.Goals as goal

pub returns : goal.returns
returns c = record {
  right = right;
  regions = regions gate_design gate_wiring gate_tables sample_level right.tables;
  expanded = expanded gate_design gate_wiring gate_tables gate_circuits gate_netlist gate_rules 1000 sample_level right 1 refl;
  netlist = flat_netlist gate_design gate_wiring gate_tables gate_circuits gate_netlist gate_rules 1000 sample_level right 1 refl;
}
