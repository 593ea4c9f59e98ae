use Rattle.view_shapes.proofs.Reading.{whole}
use Rattle.view_shapes.proofs.laws.read_law.Goals as goal

pub returns : goal.returns
returns c = whole
