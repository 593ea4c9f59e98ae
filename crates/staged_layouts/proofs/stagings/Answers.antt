use Rattle.staged_layouts.proofs.Joined.{on_law}
use Rattle.staged_layouts.proofs.OneDepth.{depth_law}
use Rattle.staged_layouts.proofs.stagings.Goals as goal

pub returns : goal.returns
returns c = record {
  depth = depth_law c.design_laws.ensures.own c.stages.ensures;
  on = on_law;
}
