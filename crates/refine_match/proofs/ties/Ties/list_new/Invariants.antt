use Rattle.std.proofs.Common.{◌≤◌, length}
use Rattle.refine_match.specs.Ties.{AreListed}
use Rattle.refine_match.proofs.ties.Ties.list_new.Given as goal

abbrev pub invariant-loop-class : goal.invariant-loop-class
invariant-loop-class l = AreListed l.fn.self l.self l.graph l.classes l.class × (length l.fn.self.spans.items ≤ l.class)
