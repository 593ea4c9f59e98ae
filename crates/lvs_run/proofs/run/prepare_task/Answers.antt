use Rattle.std.proofs.Common.{ap, subst, sym, string_bytes, ◌∙◌}
use Rattle.std.proofs.lemmas.Result.{err_from_is_err_and}
use Rattle.std.specs.Option.{option_map}
use Rattle.rule_text.specs.Seen.{rules_seen}
use Rattle.lvs_outside.specs.Files.{AreApart}
use Rattle.lvs_run.specs.declared.words.Outputs.{Outputs as Code}
use Rattle.lvs_run.specs.Words.{Outputs, blank_files, outputs_of, paths_of, schematic_path}
use Rattle.lvs_run.specs.Inputs.{IsOutput}
use Rattle.lvs_run.proofs.Ready.{beside_as, reads_files, reads_none, ready_alone, ready_beside, run_fits}
use Rattle.lvs_run.proofs.Stopping.{alone_stop, same_stop, rules_stop, layout_stop, quiet_on, schematic_stop}
use Rattle.lvs_run.proofs.run.prepare_task.Goals as goal

pub returns-in-Some-clause-stops : goal.returns-in-Some-clause-stops
returns-in-Some-clause-stops g c = same_stop (paths_of c.args.task) _ (string_bytes c.in-Some.path) (ap (λ o. option_map string_bytes o) c.in-Some.is)

pub returns-in_err-rule_set-clause-stops : goal.returns-in_err-rule_set-clause-stops
returns-in_err-rule_set-clause-stops g c =
    let p = paths_of c.args.task in
    let e = err_from_is_err_and c.from_residual.result c.from_residual.ensures.1 in
    rw (e.1, e.2) (rules_stop p _ _ _ (ap (λ o. option_map string_bytes o) c.in-None.is) (reads_files c.args.task.outputs) c.in_err-rule_set.ensures.refused)

pub returns-in_err-design-clause-stops : goal.returns-in_err-design-clause-stops
returns-in_err-design-clause-stops g c =
    let p = paths_of c.args.task in
    let e = err_from_is_err_and c.from_residual-in_err-design.result c.from_residual-in_err-design.ensures.1 in
    rw (e.1, e.2) (layout_stop p _ _ _ (rules_seen c.in_ok-rule_set.rule_set) _ (ap (λ o. option_map string_bytes o) c.in-None.is) (reads_files c.args.task.outputs) c.in_ok-rule_set.ensures.quiet c.in_ok-rule_set.ensures.found c.in_err-design.ensures.refused)

pub returns-in_err-output-in-Layout-clause-stops : goal.returns-in_err-output-in-Layout-clause-stops
returns-in_err-output-in-Layout-clause-stops g c =
    let p = paths_of c.args.task in
    let rules = c.in_ok-rule_set.ensures.found in
    let layout = c.in_ok-design.ensures.found in
    let e = err_from_is_err_and c.from_residual-in_err-output-in-Layout.result c.from_residual-in_err-output-in-Layout.ensures.1 in
    let alone = ap (λ (o : Code). schematic_path (outputs_of o)) c.in-Layout.is ∙ reads_none c.in-Layout.outputs in
    rw (e.1, e.2) (alone_stop p _ _ _ (rules_seen c.in_ok-rule_set.rule_set) c.in_ok-design.design (ap (λ o. option_map string_bytes o) c.in-None.is) (reads_files c.args.task.outputs) alone c.in_ok-rule_set.ensures.quiet rules layout _ c.in_err-output-in-Layout.ensures.refused)

pub output_of-requires-clause-layout : goal.output_of-requires-clause-layout
output_of-requires-clause-layout g c κs within =
    let found = c.in_ok-design.ensures.found in
    let fits = run_fits c.writable.ensures c.run_layouts.ensures.fits found.bytes _ (rules_seen c.in_ok-rule_set.rule_set) c.in_ok-design.design found.is in fits.room

pub output_of-requires-clause-apart : goal.output_of-requires-clause-apart
output_of-requires-clause-apart g c κs within =
    let apart = ap (λ o. option_map string_bytes o) c.in-None.is in
    subst (λ (o : Code). AreApart (blank_files (outputs_of o))) c.in-Layout.is (c.requires.apart apart)

pub compare-requires-clause-layout : goal.compare-requires-clause-layout
compare-requires-clause-layout g c κs within =
    let found = c.in_ok-design.ensures.found in
    let fits = run_fits c.writable.ensures c.run_layouts.ensures.fits found.bytes _ (rules_seen c.in_ok-rule_set.rule_set) c.in_ok-design.design found.is in fits.room

pub compare-requires-clause-apart : goal.compare-requires-clause-apart
compare-requires-clause-apart g c κs within =
    let apart = ap (λ o. option_map string_bytes o) c.in-None.is in
    let h = subst (λ (o : Code). AreApart (blank_files (outputs_of o))) c.in-Report.is (c.requires.apart apart) in
    λ path. h

pub returns-in-Layout-clause-ready : goal.returns-in-Layout-clause-ready
returns-in-Layout-clause-ready g c =
    let p = paths_of c.args.task in
    let apart = ap (λ o. option_map string_bytes o) c.in-None.is in
    let l = c.in_ok-design.design in
    let r = rules_seen c.in_ok-rule_set.rule_set in
    let same = ap (λ (o : Code). outputs_of o) c.in-Layout.is in
    let made = subst (λ (o : Outputs). IsOutput o l r c.in_ok-output-in-Layout.output) (sym same) c.in_ok-output-in-Layout.ensures.made in
    let first = c.in_ok-rule_set.ensures in
    let then = c.in_ok-design.ensures in
    ready_alone p _ _ _ r l c.in_ok-output-in-Layout.output apart (reads_files c.args.task.outputs) first.quiet first.found first.sound then.found (run_fits c.writable.ensures c.run_layouts.ensures.fits) c.covers_flat.ensures c.flat_netlist.ensures made

pub returns-clause-ready : goal.returns-clause-ready
returns-clause-ready g c =
    let p = paths_of c.args.task in
    let apart = ap (λ o. option_map string_bytes o) c.in-None.is in
    let l = c.in_ok-design.design in
    let r = rules_seen c.in_ok-rule_set.rule_set in
    let path = string_bytes c.in-Report.schematic in
    let same = ap (λ (o : Code). outputs_of o) c.in-Report.is in
    let beside = ap (λ (o : Code). schematic_path (outputs_of o)) c.in-Report.is in
    let made = beside_as (outputs_of c.args.task.outputs) _ same c.in_ok-made-in-Report.ensures.made in
    let first = c.in_ok-rule_set.ensures in
    let then = c.in_ok-design.ensures in
    ready_beside p _ _ _ _ r l path c.in_ok-made-in-Report.made apart (reads_files c.args.task.outputs) beside first.quiet then.quiet first.found first.sound then.found (run_fits c.writable.ensures c.run_layouts.ensures.fits) c.covers_flat.ensures c.flat_netlist.ensures c.compared_laws.ensures.verdicts c.compared_laws.ensures.matched made

pub returns-in_err-made-in-Report-clause-stops : goal.returns-in_err-made-in-Report-clause-stops
returns-in_err-made-in-Report-clause-stops g c =
    let p = paths_of c.args.task in
    let apart = ap (λ o. option_map string_bytes o) c.in-None.is in
    let beside = ap (λ (o : Code). schematic_path (outputs_of o)) c.in-Report.is in
    let first = c.in_ok-rule_set.ensures in
    let then = c.in_ok-design.ensures in
    let e = err_from_is_err_and c.from_residual-in_err-made-in-Report.result c.from_residual-in_err-made-in-Report.ensures.1 in
    rw (e.1, e.2) (schematic_stop p _ _ _ _ (rules_seen c.in_ok-rule_set.rule_set) c.in_ok-design.design (string_bytes c.in-Report.schematic) _ apart (reads_files c.args.task.outputs) beside first.quiet then.quiet first.found then.found c.in_err-made-in-Report.ensures.refused)

pub returns-in-Layout-clause-quiet : goal.returns-in-Layout-clause-quiet
returns-in-Layout-clause-quiet g c = quiet_on _ _ _ c.in_ok-rule_set.ensures.quiet c.in_ok-design.ensures.quiet

pub returns-clause-quiet : goal.returns-clause-quiet
returns-clause-quiet g c = quiet_on _ _ _ (quiet_on _ _ _ c.in_ok-rule_set.ensures.quiet c.in_ok-design.ensures.quiet) c.in_ok-made-in-Report.ensures.quiet

pub returns-in_err-output-in-Layout-clause-quiet : goal.returns-in_err-output-in-Layout-clause-quiet
returns-in_err-output-in-Layout-clause-quiet g c = quiet_on _ _ _ c.in_ok-rule_set.ensures.quiet c.in_ok-design.ensures.quiet

pub returns-in_err-made-in-Report-clause-quiet : goal.returns-in_err-made-in-Report-clause-quiet
returns-in_err-made-in-Report-clause-quiet g c = quiet_on _ _ _ (quiet_on _ _ _ c.in_ok-rule_set.ensures.quiet c.in_ok-design.ensures.quiet) c.in_err-made-in-Report.ensures.quiet
