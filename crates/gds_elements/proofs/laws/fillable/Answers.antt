use Rattle.gds_elements.proofs.FillableLaw.{fillable_law}
use Rattle.gds_elements.proofs.laws.fillable.Goals as goal

pub returns : goal.returns
returns c = fillable_law
