use Rattle.align_laws.proofs.Flatten.{flattened}
use Rattle.align_laws.proofs.Listed.{listed}
use Rattle.align_laws.proofs.flattening.Goals as goal

pub returns : goal.returns
returns c = record { expansion = flattened; lists = listed }
