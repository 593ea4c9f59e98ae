use Rattle.std.proofs.Common.{◌≡◌, ◌+◌, drop, map}
use Rattle.deep_tables.specs.Nets.{plain_item}
use Rattle.circuit_phase.specs.Calls.{own_count}
use Rattle.circuit_phase.proofs.calls.own_count.Given as goal

abbrev pub invariant-loop-i : goal.invariant-loop-i
invariant-loop-i l = l.i + own_count (drop l.i (map plain_item l.items)) ≡ own_count (map plain_item l.items)
