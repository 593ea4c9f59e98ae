use Rattle.gate_search.proofs.KeptBoth.{kept_both}
use Rattle.gate_search.proofs.laws.both_kept.Goals as goal

pub returns : goal.returns
returns c = kept_both
