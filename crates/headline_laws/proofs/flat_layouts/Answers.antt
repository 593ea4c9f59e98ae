use Rattle.headline_laws.proofs.Flattened.{flat_corresponds, top_circuit}
use Rattle.headline_laws.proofs.flat_layouts.Goals as goal

pub returns : goal.returns
returns c = record { top = top_circuit; expands = flat_corresponds }
