use Rattle.flat_laws.proofs.Ways.{shut_laws}
use Rattle.flat_laws.proofs.shut_squares.Goals as goal

pub returns : goal.returns
returns c = shut_laws
