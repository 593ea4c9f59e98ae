use Rattle.std.proofs.Common.{IfErr, Result, subst}
use Rattle.lvs_run.specs.Inputs.{stopped}
use Rattle.lvs_run.specs.Merging.{NotNarrow}
use Rattle.lvs_run.specs.declared.input.Stop.{Stop}
use Rattle.lvs_run.specs.declared.merging.Merged.{Merged}
use Rattle.net_model.specs.Rows.{plain_netlist}
use Rattle.rule_text.specs.Seen.{rules_seen}
use Rattle.view_run.proofs.Combined.{narrow_merged, narrow_not, not_compared}
use Rattle.view_run.proofs.merging.as_compared.Goals as goal

pub returns-in-Err-clause-refused : goal.returns-in-Err-clause-refused
returns-in-Err-clause-refused c =
    let nl = plain_netlist c.args.layout in
    let other = plain_netlist c.args.schematic in
    let stop = c.in-Err.stop in
    let h = subst (λ (v : Result Merged Stop). IfErr v (λ why. NotNarrow nl other (stopped why))) c.in-Err.is c.merge_both.ensures.refused in
    not_compared (rules_seen c.args.rules.now) nl other (stopped stop) _ c.if-not-rules.false h c.run_stop.ensures

pub returns-then-not-rules-clause-narrow : goal.returns-then-not-rules-clause-narrow
returns-then-not-rules-clause-narrow c = narrow_not (rules_seen c.args.rules.now) (plain_netlist c.args.layout) (plain_netlist c.args.schematic) c.if-not-rules.true

pub returns-clause-narrow : goal.returns-clause-narrow
returns-clause-narrow c =
    narrow_merged (rules_seen c.args.rules.now) (plain_netlist c.in-Ok.merged.layout) (plain_netlist c.in-Ok.merged.schematic)
    (rw c.in-Ok.is at c.merge_both.ensures.layout_widths) (rw c.in-Ok.is at c.merge_both.ensures.schematic_widths)
