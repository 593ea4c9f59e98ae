use Rattle.std.proofs.Common.{ℕ, Option, subst}
use Rattle.refine_match.specs.Choosing.{IsLeastOrNone}
use Rattle.refine_match.proofs.by_rounds.first_ties.Goals as goal

pub returns-in-Some : goal.returns-in-Some
returns-in-Some c = (c.in_ok-node.ensures.lists, subst (λ (o : Option ℕ). IsLeastOrNone c.args.graph.now c.args.classes.now o) c.in-Some.is c.in_ok-node.ensures.least)

pub returns-in-None : goal.returns-in-None
returns-in-None c = subst (λ (o : Option ℕ). IsLeastOrNone c.args.graph.now c.args.classes.now o) c.in-None.is c.in_ok-node.ensures.least
