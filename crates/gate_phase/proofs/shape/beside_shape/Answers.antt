use Rattle.std.proofs.Common.{◌≡◌, arith, get_or}
use Rattle.cell_graph.specs.Linked.{plain}
use Rattle.flat_layout.specs.Layers.{Empty}
use Rattle.rule_text.specs.Seen.{rules_seen}
use Rattle.rule_layers.specs.Formulas.{formulas}
use Rattle.gate_phase.proofs.Locals.{locals_of}
use Rattle.gate_phase.proofs.Shaping.{met_close, met_named}
use Rattle.gate_phase.proofs.shape.beside_shape.Goals as goal

pub kept_in-requires-clause-locals : goal.kept_in-requires-clause-locals
kept_in-requires-clause-locals c =
    let r = rules_seen c.args.site.now.rules.now in (get_or (formulas r.names) c.args.ends Empty, locals_of (plain c.args.site.now.design.now) r c.args.site.now.layers.now c.args.ends c.requires.ready.layers c.requires.ends c.requires.ready.rules)

pub kept_in-requires-2-clause-locals : goal.kept_in-requires-2-clause-locals
kept_in-requires-2-clause-locals c =
    let r = rules_seen c.args.site.now.rules.now in let x = c.args.device.now in (get_or (formulas r.names) x.ts Empty, locals_of (plain c.args.site.now.design.now) r c.args.site.now.layers.now x.ts c.requires.ready.layers c.requires.device.ts.known c.requires.ready.rules)

pub judged_shape-requires-clause-groups : goal.judged_shape-requires-clause-groups
judged_shape-requires-clause-groups c =
    met_close (plain c.args.site.now.design.now) c.args.site.now.layers.now c.args.site.now.cell c.args.ends c.rects-windows.result.now c.args.close.now c.in_ok-groups.groups c.rects-windows.ensures.list c.in_ok-groups.ensures

pub judged_shape-requires-clause-on_ends : goal.judged_shape-requires-clause-on_ends
judged_shape-requires-clause-on_ends c =
    let same : c.args.device.now.ts ≡ c.args.ends = (let t = c.if-device-ends.true in omega arith) in
    met_named (plain c.args.site.now.design.now) c.args.site.now.layers.now c.args.site.now.cell c.args.ends c.args.device.now.ts c.args.close.now c.in_ok-groups.groups same
    (met_close (plain c.args.site.now.design.now) c.args.site.now.layers.now c.args.site.now.cell c.args.ends c.rects-windows.result.now c.args.close.now c.in_ok-groups.groups c.rects-windows.ensures.list c.in_ok-groups.ensures)

pub judged_shape-requires-2-clause-groups : goal.judged_shape-requires-2-clause-groups
judged_shape-requires-2-clause-groups c =
    met_close (plain c.args.site.now.design.now) c.args.site.now.layers.now c.args.site.now.cell c.args.ends c.rects-windows.result.now c.args.close.now c.in_ok-groups.groups c.rects-windows.ensures.list c.in_ok-groups.ensures

pub judged_shape-requires-2-clause-on_ends : goal.judged_shape-requires-2-clause-on_ends
judged_shape-requires-2-clause-on_ends c =
    met_close (plain c.args.site.now.design.now) c.args.site.now.layers.now c.args.site.now.cell c.args.device.now.ts c.rects-windows.result.now c.args.close.now c.in_ok-on_ends.on_ends c.rects-windows.ensures.list c.in_ok-on_ends.ensures
