use Rattle.refine_match.proofs.NextOf.{next_is}
use Rattle.refine_match.proofs.candidates.following.Goals as goal

pub returns : goal.returns
returns c = next_is
