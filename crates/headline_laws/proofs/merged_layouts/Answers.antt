use Rattle.headline_laws.proofs.Again.{merged_again}
use Rattle.headline_laws.proofs.Merged.{merged_match}
use Rattle.headline_laws.proofs.merged_layouts.Goals as goal

pub returns : goal.returns
returns c = record { merged = merged_match; again = merged_again }
