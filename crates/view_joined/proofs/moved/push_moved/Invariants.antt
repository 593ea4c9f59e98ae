use Rattle.std.proofs.Common.{◌≡◌, ◌++◌, drop, map}
use Rattle.view_joined.specs.Moved.{moved_shape}
use Rattle.view_joined.proofs.moved.push_moved.Given as goal

abbrev pub invariant-shapes : goal.invariant-shapes
invariant-shapes l =
    l.out.items ++ map (moved_shape l.motion) (drop l.k l.shapes) ≡ l.initial.out.items ++ map (moved_shape l.motion) l.shapes
