use Rattle.std.proofs.Common.{◌≡◌, []}
use Rattle.std.specs.Prelude.{replicate}
use Rattle.view_joined.specs.Nets.{shape_lists}
use Rattle.view_joined.proofs.nets.no_lists.Given as goal

abbrev pub invariant-loop-i : goal.invariant-loop-i
invariant-loop-i l = shape_lists l.lists.items ≡ replicate l.i []
