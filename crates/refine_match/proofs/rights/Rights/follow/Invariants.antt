use Rattle.std.proofs.Common.{◌≡◌, length}
use Rattle.refine_match.specs.Rights.{AreRightSpans}
use Rattle.refine_match.proofs.rights.Rights.follow.Given as goal

abbrev pub invariant-loop-class : goal.invariant-loop-class
invariant-loop-class l = AreRightSpans l.self l.graph l.classes × (length l.self.spans.items ≡ l.class)
