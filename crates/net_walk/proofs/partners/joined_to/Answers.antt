use Rattle.std.proofs.Common.{arith}
use Rattle.net_walk.proofs.Partnering.{all_tied, itself_tied, line_tied}
use Rattle.net_walk.proofs.partners.joined_to.Goals as goal

pub loop-line-init : goal.loop-line-init
loop-line-init c = λ e h. rw (c.in_ok-push.ensures.items, c.new-out.ensures.items) (itself_tied c.args.conductor e h)

pub loop-line-preserved : goal.loop-line-preserved
loop-line-preserved c = λ e h. line_tied c.args.joins.now c.loop-line.line-index c.args.conductor c.loop-line.out.items c.push_line.new.out.items (omega arith) c.loop-line.invariant c.in_ok-push_line.ensures.kept c.in_ok-push_line.ensures.found e h

pub returns : goal.returns
returns c = λ e h. all_tied c.args.joins.now c.loop-line.line-index c.args.conductor c.loop-line.out.items (omega arith) c.loop-line.invariant e h
