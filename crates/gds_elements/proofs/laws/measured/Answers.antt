use Rattle.gds_elements.proofs.UnitLaw.{measured_law}
use Rattle.gds_elements.proofs.laws.measured.Goals as goal

pub returns : goal.returns
returns c = measured_law
