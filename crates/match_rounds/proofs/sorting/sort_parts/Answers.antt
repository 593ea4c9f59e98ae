use Rattle.match_rounds.proofs.Sorted.{ordered}
use Rattle.match_rounds.proofs.sorting.sort_parts.Goals as goal

pub returns-clause-sorted : goal.returns-clause-sorted
returns-clause-sorted c = ordered c.sort_unstable.new.self.items c.sort_unstable.ensures.sorted
