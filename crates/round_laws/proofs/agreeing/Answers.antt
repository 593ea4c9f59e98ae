use Rattle.round_laws.proofs.Agree.{equivalence, image_agrees, counts_even, refuted_none}
use Rattle.round_laws.proofs.agreeing.Goals as goal

pub returns-clause-equivalence : goal.returns-clause-equivalence
returns-clause-equivalence c = λ w web k. equivalence w web.alike k

pub returns-clause-agree : goal.returns-clause-agree
returns-clause-agree c = λ w f web carries k a i. image_agrees w f web carries k a i

pub returns-clause-even : goal.returns-clause-even
returns-clause-even c = λ w f web carries k d node. counts_even w f web carries k d node

pub returns-clause-refuted : goal.returns-clause-refuted
returns-clause-refuted c = λ w f guesses r web carries keeps there h. refuted_none w f guesses r web carries keeps there h
