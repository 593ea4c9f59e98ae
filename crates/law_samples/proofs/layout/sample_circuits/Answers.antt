use Rattle.std.proofs.Common.{refl}
use Rattle.flat_laws.proofs.Flat.{flat_netlist}
use Rattle.law_samples.proofs.layout.Drawn.{all_right}
use Rattle.law_samples.specs.Sample.{sample_design, sample_wiring, sample_tables, small_circuits, sample_netlist, sample_rules, sample_level}
use Rattle.law_samples.proofs.layout.sample_circuits.Goals as goal

pub returns : goal.returns
returns c = record { right = all_right; netlist = flat_netlist sample_design sample_wiring sample_tables small_circuits sample_netlist sample_rules 1000 sample_level all_right 0 refl }
