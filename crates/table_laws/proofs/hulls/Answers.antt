use Rattle.table_laws.proofs.Corners.{grown, none, flat, reach}
use Rattle.table_laws.proofs.hulls.Goals as goal

pub returns : goal.returns
returns c = record { grown = grown; none = none; flat = flat; reach = reach }
