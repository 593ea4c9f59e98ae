use Rattle.align_laws.proofs.Inner.{inners}
use Rattle.align_laws.proofs.InnerCalls.{inner_calls}
use Rattle.align_laws.proofs.Worded.{insides}
use Rattle.align_laws.proofs.wording.Goals as goal

pub returns : goal.returns
returns c = record { inside = insides; nets = inners; calls = inner_calls }
