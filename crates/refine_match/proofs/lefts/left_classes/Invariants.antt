use Rattle.std.proofs.Common.{◌≡◌, ◌<◌, ℕ, length, slice_index}
use Rattle.match_rounds.specs.Classes.{class_in}
use Rattle.refine_match.proofs.lefts.left_classes.Given as goal

abbrev pub invariant-loop-node : goal.invariant-loop-node
invariant-loop-node l = (length l.class_of.items ≡ l.node) × ((a : ℕ) → a < l.node → slice_index l.class_of.items a ≡ class_in l.classes a)
