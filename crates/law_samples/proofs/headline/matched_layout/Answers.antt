use Rattle.law_samples.specs.Latch.{untold}
use Rattle.std.proofs.Common.{[], refl}
use Rattle.law_samples.proofs.layout.Whole.{right}
use Rattle.law_samples.specs.Sample.{sample_level}
use Rattle.law_samples.specs.Transistors.{child_circuit, gate_circuits, gate_design, gate_netlist, gate_rules, gate_tables, gate_wiring, parent_circuit}
use Rattle.headline_laws.proofs.Whole.{matched_layout}
use Rattle.law_samples.proofs.headline.Answering.{answered}
use Rattle.law_samples.proofs.headline.Devices.{two_devices}
use Rattle.law_samples.proofs.headline.Partnered.{sample_pair}
use Rattle.law_samples.specs.Matched.{answers, as_it_is, pairings, part, schematic, whole}
use Rattle.law_samples.proofs.headline.matched_layout.Goals as goal

pub returns : goal.returns
returns c = record {
  matched = (
    right,
    refl,
    (
      sample_pair,
      answered,
      (λ k x h. refl),
      matched_layout gate_design gate_wiring gate_tables gate_circuits gate_netlist gate_rules 1000 sample_level right 1 refl schematic 1 [] gate_netlist schematic (as_it_is child_circuit parent_circuit) (as_it_is part whole) sample_pair untold answers pairings answered (λ k x h. refl),
    ),
  );
  devices = two_devices;
}
