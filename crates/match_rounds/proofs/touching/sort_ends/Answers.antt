use Rattle.match_rounds.proofs.Ordered.{in_order}
use Rattle.match_rounds.proofs.touching.sort_ends.Goals as goal

pub returns-clause-sorted : goal.returns-clause-sorted
returns-clause-sorted c = in_order c.sort_unstable.new.self.items c.sort_unstable.ensures.sorted
