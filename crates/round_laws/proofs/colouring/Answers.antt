use Rattle.round_laws.proofs.Fast.{fast, quiet}
use Rattle.round_laws.proofs.Colours.{round, fast_round}
use Rattle.round_laws.proofs.colouring.Goals as goal

pub returns-clause-fast : goal.returns-clause-fast
returns-clause-fast c = λ w k changed web ch a b i j h. fast w k changed web ch a b i j h

pub returns-clause-quiet : goal.returns-clause-quiet
returns-clause-quiet c = λ w k changed web ch a b i j h p q. quiet w k changed web ch a b i j h p q

pub returns-clause-round : goal.returns-clause-round
returns-clause-round c = λ w k colour new web h splits. round w k colour new web h splits

pub returns-clause-fast_round : goal.returns-clause-fast_round
returns-clause-fast_round c = λ w k changed colour new web ch h splits. fast_round w k changed colour new web ch h splits
