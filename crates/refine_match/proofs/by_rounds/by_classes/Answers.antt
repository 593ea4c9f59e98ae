use Rattle.std.proofs.Common.{ℕ, Option, subst}
use Rattle.refine_match.specs.declared.lists.Lists.{Lists}
use Rattle.refine_match.specs.ByRounds.{AreFirstTies}
use Rattle.refine_match.proofs.by_rounds.by_classes.Goals as goal

pub matched-requires-clause-untied : goal.matched-requires-clause-untied
matched-requires-clause-untied c = subst (λ (o : Option (Lists × ℕ)). AreFirstTies c.args.graph.now c.args.classes o) c.in-None.is c.in_ok-lists.ensures

pub returns-in-Some : goal.returns-in-Some
returns-in-Some c = λ p h good matched.
    let ties = subst (λ (o : Option (Lists × ℕ)). AreFirstTies c.args.graph.now c.args.classes o) c.in-Some.is c.in_ok-lists.ensures in
    (matched, record { partition = c.requires.partition; settled = c.requires.settled; lists = ties.0; least = ties.1 })
