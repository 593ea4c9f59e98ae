use Rattle.std.proofs.Common.{refl, subst}
use Rattle.refine_match.specs.declared.by_rounds.Rounds.{Rounds}
use Rattle.refine_match.specs.ByRounds.{IsRoundsAnswer}
use Rattle.refine_match.proofs.matching.complete.Goals as goal

pub by_guesses-requires-clause-way : goal.by_guesses-requires-clause-way
by_guesses-requires-clause-way c =
    let ties = (subst (λ (r : Rounds). IsRoundsAnswer c.requires.0 c.args.graph.now r) c.in-Tied.is c.requires.3).1 in
    record { way = λ p h good. c.begin-search.ensures.way p c.args.graph.now h.graph good ties; limit_is = refl }

pub returns-in-Decided : goal.returns-in-Decided
returns-in-Decided c = λ p h good is. subst (λ (r : Rounds). IsRoundsAnswer p c.args.graph.now r) c.in-Decided.is is (_) c.args.limit
