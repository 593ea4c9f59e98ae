use Rattle.round_laws.proofs.Renamed.{renamed}
use Rattle.round_laws.proofs.parts.renaming.Goals as goal

pub returns : goal.returns
returns c = renamed
