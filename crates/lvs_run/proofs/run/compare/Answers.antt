use Rattle.std.proofs.Common.{string_bytes}
use Rattle.std.proofs.lemmas.Result.{err_from_is_err_and}
use Rattle.net_model.specs.Rows.{plain_netlist}
use Rattle.rule_text.specs.Seen.{rules_seen}
use Rattle.lvs_run.proofs.Widths.{refuses_more, refuses_wide}
use Rattle.lvs_run.proofs.run.compare.Goals as goal

pub report_output-requires-clause-schematic : goal.report_output-requires-clause-schematic
report_output-requires-clause-schematic g c κs within =
    let found = c.in_ok-both.ensures.found in
    c.read_alignable.ensures _ found.bytes (plain_netlist c.in_ok-both.both.0) found.is c.in_ok-both.ensures.sound c.in_ok-both.ensures.normal

pub returns-in_err-both-clause-refused : goal.returns-in_err-both-clause-refused
returns-in_err-both-clause-refused g c =
    let e = err_from_is_err_and c.from_residual.result c.from_residual.ensures.1 in
    rw (e.1, e.2) (refuses_more c.args.layout.now (rules_seen c.args.rules.now) _ _ _ _ c.in_err-both.ensures.refused)

pub returns-in_err-output-clause-refused : goal.returns-in_err-output-clause-refused
returns-in_err-output-clause-refused g c =
    let e = err_from_is_err_and c.from_residual-in_err-output.result c.from_residual-in_err-output.ensures.1 in
    rw (e.1, e.2) (refuses_wide c.args.layout.now (rules_seen c.args.rules.now) _ _ _ (plain_netlist c.in_ok-both.both.0) _ c.in_ok-both.ensures.found c.in_err-output.ensures.refused)

pub returns-clause-made : goal.returns-clause-made
returns-clause-made g c = record {
  netlist = plain_netlist c.in_ok-both.both.0;
  read = c.in_ok-both.ensures.found;
  output = c.in_ok-output.ensures.made (string_bytes c.args.schematic.now);
}
