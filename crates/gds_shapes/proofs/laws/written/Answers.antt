use Rattle.gds_shapes.proofs.WrittenLaws.{law}
use Rattle.gds_shapes.proofs.laws.written.Goals as goal

pub returns : goal.returns
returns c = law
