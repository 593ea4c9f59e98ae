use Rattle.std.proofs.Common.{◌<◌, ◌∙◌, List, length, subst, sym}
use Rattle.std.specs.List.{All}
use Rattle.deep_tables.specs.declared.gates.BadGate.{BadGate}
use Rattle.net_model.specs.Rows.{plain_netlist}
use Rattle.report_file.specs.File.{IsReportFile}
use Rattle.rule_text.specs.Seen.{rules_seen}
use Rattle.lvs_run.proofs.Adding.{below}
use Rattle.lvs_run.proofs.Told.{told_inside}
use Rattle.lvs_run.proofs.making.report_on.Goals as goal

pub report_file-requires-clause-top : goal.report_file-requires-clause-top
report_file-requires-clause-top g c κs within =
    let found = c.args.found.now in
    let shows = c.flat_netlist.ensures c.args.layout.now (rules_seen c.args.rules.now) (plain_netlist found.netlist) found.top found.bad.items found.text.items c.requires.rules c.requires.found in
    below found.top c.args.netlist.now.circuits.items (shows.last ∙ sym c.requires.count)

pub report_file-requires-clause-cells : goal.report_file-requires-clause-cells
report_file-requires-clause-cells g c κs within =
    let found = c.args.found.now in
    let file = c.requires.found in
    subst (λ (bs : List BadGate). All (λ x. x.cell < length c.args.layout.now.design.cells) bs) (sym c.as_slice.ensures.value)
    (told_inside c.args.layout.now.design (rules_seen c.args.rules.now) file.gates found.bad.items file.design file.told)

pub returns : goal.returns
returns g c =
    let found = c.args.found.now in
    let report = c.in_ok-report.report in
    subst (λ (bs : List BadGate). IsReportFile c.args.layout.now.design (rules_seen c.args.rules.now) (plain_netlist c.args.netlist.now) found.top bs (plain_netlist c.args.schematic.now) report.text.items report.pairs report.verdict)
    c.as_slice.ensures.value c.in_ok-report.ensures
