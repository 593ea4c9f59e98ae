use Rattle.gds_shapes.proofs.ReadLaw.{heading_law}
use Rattle.gds_shapes.proofs.ReadReferences.{law}
use Rattle.gds_shapes.proofs.laws.read_again.Goals as goal

pub returns-clause-heading : goal.returns-clause-heading
returns-clause-heading c = heading_law

pub returns-clause-references : goal.returns-clause-references
returns-clause-references c = law c.placeable.ensures
