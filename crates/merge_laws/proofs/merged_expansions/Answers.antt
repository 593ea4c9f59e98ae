use Rattle.merge_laws.proofs.Expands.{merged_expands}
use Rattle.merge_laws.proofs.merged_expansions.Goals as goal

pub returns : goal.returns
returns c = merged_expands
