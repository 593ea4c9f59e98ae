use Rattle.view_cross.proofs.Lone.{apart_whole}
use Rattle.view_cross.proofs.laws.apart_laws.Goals as goal

pub returns : goal.returns
returns c = apart_whole
