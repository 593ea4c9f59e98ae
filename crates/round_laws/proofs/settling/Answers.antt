use Rattle.round_laws.proofs.Stable.{stays, finite}
use Rattle.round_laws.proofs.settling.Goals as goal

pub returns-clause-stable : goal.returns-clause-stable
returns-clause-stable c = λ w k j web stable le a b p q. stays w k j web stable le a b p q

pub returns-clause-finite : goal.returns-clause-finite
returns-clause-finite c = λ w web. finite w web
