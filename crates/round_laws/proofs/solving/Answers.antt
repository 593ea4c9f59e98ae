use Rattle.round_laws.proofs.Solved.{solved_under}
use Rattle.round_laws.proofs.solving.Goals as goal

pub returns : goal.returns
returns c = λ w guesses web solved. solved_under w guesses web solved
