use Rattle.std.proofs.Common.{sym, subst}
use Rattle.std.proofs.lemmas.Result.{err_from_is_err_and}
use Rattle.net_align.specs.Compared.{AreCalleesFirst, IsAlignable}
use Rattle.net_model.specs.Rows.{plain_netlist}
use Rattle.plain_netlist.specs.Netlist.{Netlist}
use Rattle.rule_text.specs.Seen.{rules_seen}
use Rattle.lvs_run.proofs.Widths.{not_merged_of}
use Rattle.lvs_run.proofs.making.report_found.Goals as goal

pub report_on-requires-clause-netlist : goal.report_on-requires-clause-netlist
report_on-requires-clause-netlist g c κs within =
    let file = c.requires.found in
    let cells = file.of_cells in
    let can = c.extracted_alignable.ensures _ _ _ _ _ _ _ _ cells.right file.sound in can.0

pub report_on-requires-clause-order : goal.report_on-requires-clause-order
report_on-requires-clause-order g c κs within =
    let file = c.requires.found in
    let cells = file.of_cells in
    let can = c.extracted_alignable.ensures _ _ _ _ _ _ _ _ cells.right file.sound in can.1

pub returns-then-not-rules-clause-comparable : goal.returns-then-not-rules-clause-comparable
returns-then-not-rules-clause-comparable g c =
    let file = c.requires.found in
    let cells = file.of_cells in
    let can = c.extracted_alignable.ensures _ _ _ _ _ _ _ _ cells.right file.sound in
    record { rules = c.requires.rules; layout = can.0; order = can.1; schematic = c.requires.schematic }

pub merge_both-requires-clause-layout : goal.merge_both-requires-clause-layout
merge_both-requires-clause-layout g c =
    let file = c.requires.found in
    let cells = file.of_cells in
    let can = c.extracted_alignable.ensures _ _ _ _ _ _ _ _ cells.right file.sound in can.0

pub returns-in_err-both-clause-refused : goal.returns-in_err-both-clause-refused
returns-in_err-both-clause-refused g c =
    let e = err_from_is_err_and c.from_residual-in_err-both.result c.from_residual-in_err-both.ensures.1 in
    let found = c.args.found.now in
    rw (e.1, e.2) (not_merged_of c.args.layout.now (rules_seen c.args.rules.now) (plain_netlist c.args.schematic.now) (plain_netlist found.netlist) found.top found.bad.items found.text.items c.requires.found c.if-not-rules.false _ c.in_err-both.ensures.refused)

pub report_on-requires-2-clause-netlist : goal.report_on-requires-2-clause-netlist
report_on-requires-2-clause-netlist g c κs within =
    let file = c.requires.found in
    let cells = file.of_cells in
    let can = c.extracted_alignable.ensures _ _ _ _ _ _ _ _ cells.right file.sound in
    subst (λ (n : Netlist). IsAlignable n) (sym c.in_ok-both.ensures.layout) (c.combined_alignable.ensures.alignable (plain_netlist c.args.found.now.netlist) can.0)

pub report_on-requires-2-clause-order : goal.report_on-requires-2-clause-order
report_on-requires-2-clause-order g c κs within =
    let file = c.requires.found in
    let cells = file.of_cells in
    let can = c.extracted_alignable.ensures _ _ _ _ _ _ _ _ cells.right file.sound in
    subst (λ (n : Netlist). AreCalleesFirst n) (sym c.in_ok-both.ensures.layout) (c.combined_alignable.ensures.order (plain_netlist c.args.found.now.netlist) can.1)

pub returns-clause-comparable : goal.returns-clause-comparable
returns-clause-comparable g c =
    let file = c.requires.found in
    let cells = file.of_cells in
    let can = c.extracted_alignable.ensures _ _ _ _ _ _ _ _ cells.right file.sound in
    record { rules = c.requires.rules; layout = can.0; order = can.1; schematic = c.requires.schematic }
