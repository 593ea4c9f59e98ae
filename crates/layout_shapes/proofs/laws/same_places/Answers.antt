use Rattle.layout_shapes.proofs.Places.{law}
use Rattle.layout_shapes.proofs.laws.same_places.Goals as goal

pub returns : goal.returns
returns c = law
