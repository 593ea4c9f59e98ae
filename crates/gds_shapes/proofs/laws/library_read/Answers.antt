use Rattle.gds_shapes.proofs.ReadLaw.{law}
use Rattle.gds_shapes.proofs.laws.library_read.Goals as goal

pub returns : goal.returns
returns c = law
