use Rattle.std.proofs.Common.{subst}
use Rattle.netlist_file.specs.File.{AreFiles}
use Rattle.netlist_file.specs.declared.file.Files.{Files}
use Rattle.rule_text.specs.Seen.{rules_seen}
use Rattle.shapes_file.specs.File.{IsDrawing}
use Rattle.shapes_file.specs.declared.file.Drawing.{Drawing}
use Rattle.lvs_run.specs.Inputs.{stopped}
use Rattle.lvs_run.proofs.Widths.{stops_far}
use Rattle.lvs_run.proofs.making.output_of.Goals as goal

pub returns-in-Wide-clause-refused : goal.returns-in-Wide-clause-refused
returns-in-Wide-clause-refused g c =
    let l = c.args.layout.now in
    let r = rules_seen c.args.rules.now in
    let wide = subst (λ (d : Drawing). IsDrawing l r d) c.in-Wide.is c.in_ok-shapes-in-Shapes.ensures in
    stops_far l r c.in-Wide.cell (stopped c.wide_stop.result) c.sound.ensures wide c.wide_stop.ensures

pub returns-in-Wide-2-clause-refused : goal.returns-in-Wide-2-clause-refused
returns-in-Wide-2-clause-refused g c =
    let l = c.args.layout.now in
    let r = rules_seen c.args.rules.now in
    let wide = subst (λ (f : Files). AreFiles l r f) c.in-Wide-2.is c.in_ok-found-in-Netlist.ensures in
    stops_far l r c.in-Wide-2.cell (stopped c.wide_stop-in-Wide-2.result) c.sound.ensures wide c.wide_stop-in-Wide-2.ensures
