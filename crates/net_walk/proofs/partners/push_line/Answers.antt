use Rattle.net_walk.proofs.Partnering.{line_pushed}
use Rattle.net_walk.proofs.partners.push_line.Goals as goal

pub returns-clause-kept : goal.returns-clause-kept
returns-clause-kept c = λ e h. c.in_ok-push_where-2.ensures.kept e (c.in_ok-push_where.ensures.kept e h)

pub returns-clause-found : goal.returns-clause-found
returns-clause-found c = λ e h. line_pushed c.args.line.now c.args.conductor c.push_where.new.out.items c.push_where-2.new.out.items c.in_ok-push_where.ensures.found c.in_ok-push_where-2.ensures.kept c.in_ok-push_where-2.ensures.found e h
