use Rattle.std.proofs.Common.{◌≡◌, ◌++◌, map}
use Rattle.deep_tables.specs.Nets.{plain_item}
use Rattle.flat_layout.specs.Nets.{Own, run}
use Rattle.net_phase.proofs.items.push_own.Given as goal

abbrev pub invariant-loop-rect : goal.invariant-loop-rect
invariant-loop-rect l = map plain_item l.out.items ≡ map plain_item l.fn.out.items ++ run (Own l.conductor) 0 l.rect
