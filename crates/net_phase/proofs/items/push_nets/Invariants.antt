use Rattle.std.proofs.Common.{◌≡◌, ◌++◌, map}
use Rattle.deep_tables.specs.Nets.{plain_item}
use Rattle.flat_layout.specs.Nets.{Child, run}
use Rattle.net_phase.proofs.items.push_nets.Given as goal

abbrev pub invariant-loop-net : goal.invariant-loop-net
invariant-loop-net l = map plain_item l.out.items ≡ map plain_item l.fn.out.items ++ run (Child l.place) 0 l.net
