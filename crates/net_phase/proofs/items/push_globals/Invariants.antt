use Rattle.std.proofs.Common.{◌≡◌, ◌++◌, map}
use Rattle.deep_tables.specs.Nets.{plain_item}
use Rattle.flat_layout.specs.Nets.{Global as GlobalItem, run}
use Rattle.net_phase.proofs.items.push_globals.Given as goal

abbrev pub invariant-loop-global : goal.invariant-loop-global
invariant-loop-global l = map plain_item l.out.items ≡ map plain_item l.fn.out.items ++ run GlobalItem 0 l.global
