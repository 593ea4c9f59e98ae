use Rattle.std.proofs.Common.{get_or}
use Rattle.flat_layout.specs.Layers.{Empty}
use Rattle.cell_graph.specs.Linked.{plain}
use Rattle.rule_text.specs.Seen.{rules_seen}
use Rattle.rule_layers.specs.Formulas.{formulas}
use Rattle.gate_phase.proofs.Locals.{locals_of}
use Rattle.gate_phase.proofs.shape.grouped_shape.Goals as goal

pub kept_in-requires-clause-locals : goal.kept_in-requires-clause-locals
kept_in-requires-clause-locals c =
    let r = rules_seen c.args.site.now.rules.now in let x = c.args.device.now in (get_or (formulas r.names) x.tg Empty, locals_of (plain c.args.site.now.design.now) r c.args.site.now.layers.now x.tg c.requires.ready.layers c.requires.device.tg.known c.requires.ready.rules)
