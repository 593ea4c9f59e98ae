use Rattle.headline_laws.proofs.Whole.{matched_layout}
use Rattle.headline_laws.proofs.matched_layouts.Goals as goal

pub returns : goal.returns
returns c = matched_layout
