use Rattle.view_cross.proofs.Nodes.{each_left, each_right}
use Rattle.view_cross.proofs.laws.matched_laws.Goals as goal

pub returns : goal.returns
returns c = record { left = each_left; right = each_right }
