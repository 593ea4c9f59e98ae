use Rattle.std.proofs.Common.{◌≡◌, ◌++◌, ◌-◌}
use Rattle.view_cross.specs.Matched.{left_alone, lone_rows, right_alone}
use Rattle.view_cross.proofs.matched.push_alone.Given as goal

abbrev pub invariant-lefts : goal.invariant-lefts
invariant-lefts l = l.out.items ++ lone_rows (left_alone l.kind) l.k (l.lefts - l.k) ≡ l.initial.out.items ++ lone_rows (left_alone l.kind) 0 l.lefts

abbrev pub invariant-rights : goal.invariant-rights
invariant-rights l = l.out.items ++ lone_rows (right_alone l.kind) l.k (l.rights - l.k) ≡ l.initial.out.items ++ lone_rows (right_alone l.kind) 0 l.rights
