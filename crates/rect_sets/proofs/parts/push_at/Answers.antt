use Rattle.rect_sets.proofs.Striping.{added}
use Rattle.rect_sets.proofs.parts.push_at.Goals as goal

pub returns-clause-lists : goal.returns-clause-lists
returns-clause-lists c = added c.args.parts.now.items c.args.i c.index_mut.result.now c.push.new.self c.args.rect c.requires c.index_mut.ensures.value c.in_ok-push.ensures.items
