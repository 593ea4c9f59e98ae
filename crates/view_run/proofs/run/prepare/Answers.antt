use Rattle.std.proofs.Common.{sym, string_bytes, ◌∙◌}
use Rattle.std.proofs.lemmas.Result.{err_from_is_err_and}
use Rattle.net_model.specs.Rows.{plain_netlist}
use Rattle.rule_text.specs.Seen.{rules_seen}
use Rattle.lvs_run.proofs.Stopping.{quiet_on}
use Rattle.view_run.specs.Stated.{asked_of}
use Rattle.view_run.proofs.Preparing.{is_ready, is_some_map, layout_stop, made_stop, rules_stop, schematic_stop}
use Rattle.view_run.proofs.run.prepare.Goals as goal

pub returns-in-Err-clause-stops : goal.returns-in-Err-clause-stops
returns-in-Err-clause-stops g c = rules_stop (asked_of c.args.task.now) _ _ _ _ c.requires.apart c.run_stop.ensures c.in-Err.ensures.refused

pub returns-in-Err-layout_of-clause-stops : goal.returns-in-Err-layout_of-clause-stops
returns-in-Err-layout_of-clause-stops g c =
    layout_stop (asked_of c.args.task.now) _ _ (rules_seen c.in-Ok.rules) c.requires.apart c.in-Ok.ensures.found _ _ _ c.run_stop-in-Err-layout_of.ensures c.in-Err-layout_of.ensures.refused

pub returns-in-Err-schematic_of-clause-quiet : goal.returns-in-Err-schematic_of-clause-quiet
returns-in-Err-schematic_of-clause-quiet g c = quiet_on _ _ _ (quiet_on _ _ _ c.in-Ok.ensures.quiet c.in-Ok-layout_of.ensures.quiet) c.in-Err-schematic_of.ensures.quiet

pub returns-in-Err-schematic_of-clause-stops : goal.returns-in-Err-schematic_of-clause-stops
returns-in-Err-schematic_of-clause-stops g c =
    schematic_stop (asked_of c.args.task.now) _ _ (rules_seen c.in-Ok.rules) c.requires.apart c.in-Ok.ensures.found _ c.in-Ok-layout_of.layout c.in-Ok-layout_of.ensures.found _ _ _ c.run_stop-in-Err-schematic_of.ensures
    c.in-Err-schematic_of.ensures.refused

pub make_view-requires-clause-schematic : goal.make_view-requires-clause-schematic
make_view-requires-clause-schematic g c κs within =
    let found = c.in-Ok-schematic_of.ensures.found in
    c.read_alignable.ensures _ found.bytes (plain_netlist c.in-Ok-schematic_of.schematic) found.is c.in-Ok-schematic_of.ensures.sound c.in-Ok-schematic_of.ensures.normal

pub returns-in_err-made-clause-quiet : goal.returns-in_err-made-clause-quiet
returns-in_err-made-clause-quiet g c = quiet_on _ _ _ (quiet_on _ _ _ c.in-Ok.ensures.quiet c.in-Ok-layout_of.ensures.quiet) c.in-Ok-schematic_of.ensures.quiet

pub returns-in_err-made-clause-stops : goal.returns-in_err-made-clause-stops
returns-in_err-made-clause-stops g c =
    let e = err_from_is_err_and c.from_residual.result c.from_residual.ensures.1 in
    rw (e.1, e.2) (made_stop (asked_of c.args.task.now) _ _ (rules_seen c.in-Ok.rules) c.requires.apart c.in-Ok.ensures.found _ c.in-Ok-layout_of.layout c.in-Ok-layout_of.ensures.found _
    (plain_netlist c.in-Ok-schematic_of.schematic) c.in-Ok-schematic_of.ensures.found _ c.in_err-made.ensures.refused)

pub returns-in_err-output-clause-quiet : goal.returns-in_err-output-clause-quiet
returns-in_err-output-clause-quiet g c = quiet_on _ _ _ (quiet_on _ _ _ c.in-Ok.ensures.quiet c.in-Ok-layout_of.ensures.quiet) c.in-Ok-schematic_of.ensures.quiet

pub returns-clause-quiet : goal.returns-clause-quiet
returns-clause-quiet g c = quiet_on _ _ _ (quiet_on _ _ _ c.in-Ok.ensures.quiet c.in-Ok-layout_of.ensures.quiet) c.in-Ok-schematic_of.ensures.quiet

pub returns-clause-ready : goal.returns-clause-ready
returns-clause-ready g c =
    let told = is_some_map string_bytes c.args.task.now.page ∙ sym c.is_some-paged.ensures in
    is_ready (asked_of c.args.task.now) _ _ (rules_seen c.in-Ok.rules) c.requires.apart c.in-Ok.ensures.found _ c.in-Ok-layout_of.layout c.in-Ok-layout_of.ensures.found _
    (plain_netlist c.in-Ok-schematic_of.schematic) c.in-Ok-schematic_of.ensures.found c.in_ok-made.made.verdict _ _ _ c.in_ok-made.made.text.items c.in_ok-made.made.line.items _ _ told
    c.in_ok-made.ensures.made c.in_ok-output.ensures.files c.in_ok-output.ensures.line c.in_ok-output.ensures.verdict
