use Rattle.std.proofs.Common.{sym, ◌∙◌}
use Rattle.part_origins.proofs.Marked.{marked_calls}
use Rattle.part_origins.proofs.kept.calls_marked.Goals as goal

pub returns : goal.returns
returns c = c.some_marked.ensures ∙ sym (marked_calls c.args.marks.now c.args.calls.now)
