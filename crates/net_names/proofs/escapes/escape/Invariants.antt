use Rattle.std.proofs.Common.{◌≡◌, ◌++◌, drop}
use Rattle.net_names.specs.Escapes.{escaped}
use Rattle.net_names.proofs.escapes.escape.Given as goal

abbrev pub invariant-loop-b : goal.invariant-loop-b
invariant-loop-b l = escaped l.b-items ≡ l.text.items ++ escaped (drop l.b-index l.b-items)
