use Rattle.std.proofs.Common.{◌≡◌, ◌++◌, length, map}
use Rattle.view_cross.specs.Matched.{right_alone}
use Rattle.view_pairs.proofs.rows.push_rights.Given as goal

abbrev pub invariant-nodes : goal.invariant-nodes
invariant-nodes l = l.out.items ++ map (right_alone l.kind) l.rest ≡ l.initial.out.items ++ map (right_alone l.kind) l.free

abbrev pub decreases-nodes : goal.decreases-nodes
decreases-nodes l = length l.rest
