use Rattle.std.proofs.Common.{rules}
use Rattle.std.proofs.lemmas.List.Sorted.{IsPartitionPoint-from_clause}
use Rattle.net_phase.proofs.items.first_net.Goals as goal
use Rattle.net_phase.specs.Items.{stands_before}

pub returns-clause-point : goal.returns-clause-point
returns-clause-point c = IsPartitionPoint-from_clause (stands_before c.args.place) _ _ c.partition_point.ensures.partitioned c.requires (λ a r q k. search rules)
