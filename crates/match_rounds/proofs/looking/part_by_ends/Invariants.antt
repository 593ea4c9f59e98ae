use Rattle.std.proofs.Common.{◌-◌, length}
use Rattle.match_rounds.specs.Classes.{IsPartition, KeepsFresh, IsGrown, node_count}
use Rattle.match_rounds.specs.Looking.{ArePortsDone}
use Rattle.match_rounds.proofs.looking.part_by_ends.Given as goal

abbrev pub invariant-loop-i : goal.invariant-loop-i
invariant-loop-i l = IsPartition l.classes l.left_count (node_count l.fn.classes) × KeepsFresh l.fn.classes l.classes (node_count l.fn.classes)
    × ArePortsDone l.fn.classes l.classes l.touched l.i (node_count l.fn.classes) × IsGrown l.fn.classes l.classes

abbrev pub decreases-loop-i : goal.decreases-loop-i
decreases-loop-i l = length l.touched - l.i
