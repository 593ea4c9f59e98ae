use Rattle.std.proofs.Common.{◌≡◌, ◌++◌, map, length}
use Rattle.net_model.specs.Rows.{plain_device}
use Rattle.part_origins.specs.Nets.{net_at, terminals_at}
use Rattle.part_origins.proofs.nets.add_terminals.Given as goal

abbrev pub invariant-terminals : goal.invariant-terminals
invariant-terminals l =
    l.seen.items ++ map (net_at l.nets) l.rest ≡ l.initial.seen.items ++ terminals_at l.nets (plain_device l.row)

abbrev pub decreases-terminals : goal.decreases-terminals
decreases-terminals l = length l.rest
