use Rattle.std.proofs.Common.{◌≡◌, ◌++◌, length}
use Rattle.view_file.specs.Layers.{global_rows}
use Rattle.view_file.proofs.layers.push_globals.Given as goal

abbrev pub invariant-globals : goal.invariant-globals
invariant-globals l = l.out.items ++ global_rows l.names l.rest ≡ l.initial.out.items ++ global_rows l.names l.globals

abbrev pub decreases-globals : goal.decreases-globals
decreases-globals l = length l.rest
