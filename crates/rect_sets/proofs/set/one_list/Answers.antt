use Rattle.rect_sets.proofs.Unique.{one_list}
use Rattle.rect_sets.proofs.set.one_list.Goals as goal

pub returns : goal.returns
returns c = one_list
