use Rattle.std.proofs.Common.{◌≡◌, List, ap, sym, subst}
use Rattle.plain_netlist.specs.Netlist.{Circuit, Netlist}
use Rattle.plain_netlist.specs.Normal.{IsNormalNetlist}
use Rattle.merge_laws.specs.Grouped.{merged_netlist}
use Rattle.net_model.specs.Rows.{plain_netlist}
use Rattle.device_merge.specs.Merged.{AreAllUnlike, AreMergedAlike, IsNarrow}
use Rattle.device_merge.proofs.Few.{narrow_merged}
use Rattle.device_merge.proofs.merged.merge.Goals as goal

pub returns-clause-normal : goal.returns-clause-normal
returns-clause-normal c =
    let nl = plain_netlist c.args.n.now in
    let made : plain_netlist (record { circuits = c.in_ok-circuits.circuits }) ≡ merged_netlist nl = ap (λ (cs : List Circuit). record { circuits = cs }) c.in_ok-circuits.ensures.merged in
    subst (λ (m : Netlist). IsNormalNetlist m) (sym made) (c.merging.ensures.normal nl c.requires.normal)

pub returns-clause-unlike : goal.returns-clause-unlike
returns-clause-unlike c =
    let nl = plain_netlist c.args.n.now in
    let made : plain_netlist (record { circuits = c.in_ok-circuits.circuits }) ≡ merged_netlist nl = ap (λ (cs : List Circuit). record { circuits = cs }) c.in_ok-circuits.ensures.merged in
    subst (λ (m : Netlist). AreAllUnlike m) (sym made) (λ t d h. c.merging.ensures.unlike nl t d h)

pub returns-clause-same : goal.returns-clause-same
returns-clause-same c =
    let nl = plain_netlist c.args.n.now in
    let made : plain_netlist (record { circuits = c.in_ok-circuits.circuits }) ≡ merged_netlist nl = ap (λ (cs : List Circuit). record { circuits = cs }) c.in_ok-circuits.ensures.merged in
    subst (λ (m : Netlist). AreMergedAlike nl m) (sym made) (c.merged_expansions.ensures nl)

pub returns-clause-widths : goal.returns-clause-widths
returns-clause-widths c =
    let nl = plain_netlist c.args.n.now in
    let made : plain_netlist (record { circuits = c.in_ok-circuits.circuits }) ≡ merged_netlist nl = ap (λ (cs : List Circuit). record { circuits = cs }) c.in_ok-circuits.ensures.merged in
    subst (λ (m : Netlist). IsNarrow m) (sym made) (narrow_merged nl c.in_ok-circuits.ensures.narrow)
