use Rattle.gds_elements.proofs.Arrays.{placeable_law}
use Rattle.gds_elements.proofs.laws.placeable.Goals as goal

pub returns : goal.returns
returns c = placeable_law
