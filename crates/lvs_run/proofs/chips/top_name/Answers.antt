use Rattle.lvs_run.proofs.MadeChips.{named_top}
use Rattle.lvs_run.proofs.chips.top_name.Goals as goal

pub returns : goal.returns
returns c = named_top c.from_bytes.result c.from_bytes.ensures.none c.from_bytes.ensures.same
