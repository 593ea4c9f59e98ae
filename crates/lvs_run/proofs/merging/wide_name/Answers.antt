use Rattle.std.proofs.Common.{subst, arith}
use Rattle.std.proofs.lemmas.List.{length-map}
use Rattle.device_merge.specs.Merged.{IsMergeFault}
use Rattle.device_merge.specs.declared.fault.MergeFault.{MergeFault}
use Rattle.merge_laws.specs.Grouped.{is_too_wide}
use Rattle.net_model.specs.Rows.{plain_circuit, plain_netlist}
use Rattle.lvs_run.proofs.Widths.{first_within}
use Rattle.lvs_run.proofs.merging.wide_name.Goals as goal

pub circuit_name-requires : goal.circuit_name-requires
circuit_name-requires c =
    let nl = plain_netlist c.args.netlist.now in
    let fault = subst (λ (f : MergeFault). IsMergeFault nl f) c.in-TooWide.is c.requires in
    let low = first_within is_too_wide nl.circuits c.in-TooWide.k fault in
    let same = length-map c.args.netlist.now.circuits.items plain_circuit in omega (arith, low, same)
