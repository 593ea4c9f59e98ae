use Rattle.std.proofs.Common.{◌≡◌, ◌++◌, length}
use Rattle.view_file.specs.Layers.{connect_rows}
use Rattle.view_file.proofs.layers.push_connects.Given as goal

abbrev pub invariant-connects : goal.invariant-connects
invariant-connects l = l.out.items ++ connect_rows l.names l.rest ≡ l.initial.out.items ++ connect_rows l.names l.connects

abbrev pub decreases-connects : goal.decreases-connects
decreases-connects l = length l.rest
