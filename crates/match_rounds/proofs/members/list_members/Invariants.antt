use Rattle.match_rounds.specs.Members.{AreMembers}
use Rattle.match_rounds.proofs.members.list_members.Given as goal

abbrev pub invariant-loop-i : goal.invariant-loop-i
invariant-loop-i l = AreMembers l.classes l.members.items l.ends.items l.i
