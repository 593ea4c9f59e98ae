use Rattle.std.proofs.Common.{subst}
use Rattle.std.proofs.lemmas.Result.{err_from_is_err_and}
use Rattle.net_model.specs.Rows.{plain_netlist}
use Rattle.netlist_file.specs.File.{AreFiles}
use Rattle.netlist_file.specs.declared.file.Files.{Files}
use Rattle.rule_text.specs.Seen.{rules_seen}
use Rattle.lvs_run.specs.Inputs.{stopped}
use Rattle.lvs_run.proofs.Widths.{narrow_file, run_far, run_merged, stops_far}
use Rattle.lvs_run.proofs.making.report_output.Goals as goal

pub returns-in_err-output-in-Whole-clause-refused : goal.returns-in_err-output-in-Whole-clause-refused
returns-in_err-output-in-Whole-clause-refused g c =
    let l = c.args.layout.now in
    let r = rules_seen c.args.rules.now in
    let e = err_from_is_err_and c.from_residual.result c.from_residual.ensures.1 in
    let files = subst (λ (f : Files). AreFiles l r f) c.in-Whole.is c.requires.files in
    rw (e.1, e.2) (run_merged l r (plain_netlist c.args.schematic.now) _ (narrow_file l r _ _ _ files.shapes) c.in_err-output-in-Whole.ensures.refused)

pub returns-in-Wide-clause-refused : goal.returns-in-Wide-clause-refused
returns-in-Wide-clause-refused g c =
    let l = c.args.layout.now in
    let r = rules_seen c.args.rules.now in
    let a = stopped c.wide_stop.result in
    let wide = subst (λ (f : Files). AreFiles l r f) c.in-Wide.is c.requires.files in
    run_far l r (plain_netlist c.args.schematic.now) a (stops_far l r c.in-Wide.cell a c.sound.ensures wide c.wide_stop.ensures)
