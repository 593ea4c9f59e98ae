use Rattle.std.proofs.Common.{sym, ◌∙◌}
use Rattle.rect_sets.proofs.Striping.{added_none}
use Rattle.rect_sets.proofs.parts.push_low.Goals as goal

pub returns-else-begins_before-clause-lists : goal.returns-else-begins_before-clause-lists
returns-else-begins_before-clause-lists c = added_none c.args.parts.now.items c.args.i c.args.cut.now c.args.rect.now (sym c.begins_before.ensures ∙ c.if-begins_before.false)
