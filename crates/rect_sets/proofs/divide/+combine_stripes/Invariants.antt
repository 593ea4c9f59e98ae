use Rattle.std.proofs.Common.{◌+◌, ◌≤◌, length}
use Rattle.rect_sets.specs.Combined.{combined_set}
use Rattle.rect_sets.specs.Stripes.{AreRising, AreFirst, AreJoined}
use Rattle.rect_sets.proofs.divide.+combine_stripes.Given as goal

abbrev pub decreases-combine_stripes : goal.decreases-combine_stripes
decreases-combine_stripes l = l.depth

abbrev pub decreases-loop-i : goal.decreases-loop-i
decreases-loop-i l = l.i

abbrev pub invariant-loop-i : goal.invariant-loop-i
invariant-loop-i l = record {
  rising : AreRising l.parts.lines.at.items;
  i_in : l.i ≤ length l.parts.lines.at.items + 1;
  a : AreFirst l.i l.parts.lines l.parts.a.items l.a;
  b : AreFirst l.i l.parts.lines l.parts.b.items l.b;
  joined : AreJoined l.i l.parts.lines.axis l.parts.lines.at.items (combined_set l.op l.a l.b) l.done.items l.rest.items;
}
