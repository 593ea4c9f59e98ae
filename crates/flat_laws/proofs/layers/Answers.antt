use Rattle.flat_laws.proofs.Cover.{cover}
use Rattle.flat_laws.proofs.Terminals.{top_kept}
use Rattle.flat_laws.proofs.layers.Goals as goal

pub returns : goal.returns
returns c = record { cover = cover; top = top_kept }
