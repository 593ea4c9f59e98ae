use Rattle.cell_context.proofs.Gathering.{over_flat}
use Rattle.cell_context.proofs.flats.over_laws.Goals as goal

pub returns : goal.returns
returns c = over_flat
