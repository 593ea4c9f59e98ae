use Rattle.staged_designs.proofs.Depth.{depth}
use Rattle.staged_designs.proofs.stages.Goals as goal

pub returns : goal.returns
returns c = depth
