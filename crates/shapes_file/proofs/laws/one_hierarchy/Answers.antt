use Rattle.shapes_file.proofs.Alike.{law}
use Rattle.shapes_file.proofs.laws.one_hierarchy.Goals as goal

pub returns : goal.returns
returns c = law
