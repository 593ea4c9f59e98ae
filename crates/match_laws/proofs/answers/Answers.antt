use Rattle.match_laws.proofs.OneAnswer.{one_answer, single_matches}
use Rattle.match_laws.proofs.Answer.{matched, differs, uneven_differs, undecided_uses}
use Rattle.match_laws.proofs.answers.Goals as goal

pub returns-clause-matched : goal.returns-clause-matched
returns-clause-matched c = matched

pub returns-clause-differs : goal.returns-clause-differs
returns-clause-differs c = differs

pub returns-clause-one : goal.returns-clause-one
returns-clause-one c = λ p same limit a b l r h g. one_answer p same limit a b l r h g

pub returns-clause-uneven : goal.returns-clause-uneven
returns-clause-uneven c = uneven_differs

pub returns-clause-single : goal.returns-clause-single
returns-clause-single c = single_matches

pub returns-clause-undecided : goal.returns-clause-undecided
returns-clause-undecided c = undecided_uses
