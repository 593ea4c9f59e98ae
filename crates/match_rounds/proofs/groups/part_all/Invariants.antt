use Rattle.std.proofs.Common.{◌-◌, length}
use Rattle.match_rounds.specs.Classes.{IsPartition, KeepsFresh, IsGrown, node_count}
use Rattle.match_rounds.specs.Pieces.{ArePartedSoFar}
use Rattle.match_rounds.proofs.groups.part_all.Given as goal

abbrev pub invariant-loop-i : goal.invariant-loop-i
invariant-loop-i l = IsPartition l.classes l.left_count (node_count l.fn.classes) × KeepsFresh l.fn.classes l.classes (node_count l.fn.classes) × ArePartedSoFar l.fn.classes.class_of.items l.classes.class_of.items l.parts l.i (length l.fn.classes.class_of.items) × IsGrown l.fn.classes l.classes

abbrev pub decreases-loop-i : goal.decreases-loop-i
decreases-loop-i l = length l.parts - l.i
