use Rattle.std.proofs.Common.{rules, ◌≡◌, ◌++◌, List, map, ap, subst, sym}
use Rattle.std.specs.List.{list_any}
use Rattle.net_model.specs.Rows.{plain_circuit}
use Rattle.net_model.specs.declared.netlist.Circuit.{Circuit as Held}
use Rattle.device_merge.specs.Merged.{is_shorter}
use Rattle.device_merge.proofs.Few.{AreNarrowCircuits, narrow_circuits}
use Rattle.device_merge.proofs.merged.merge_again.Goals as goal

pub circuits-init : goal.circuits-init
circuits-init c =
    let whole = c.as_slice-rest.ensures.value in
    ((search rules), subst (λ (cs : List Held). AreNarrowCircuits (map plain_circuit cs)) (sym whole) (narrow_circuits (map plain_circuit c.args.n.now.circuits.items) c.requires), ap (λ (cs : List Held). list_any is_shorter (map plain_circuit cs)) whole)
