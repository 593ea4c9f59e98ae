use Rattle.std.proofs.Common.{◌≡◌, ℕ, [], get_or, length}
use Rattle.rule_text.specs.Seen.{rules_seen}
use Rattle.net_phase.proofs.Layering.{AreOwnListsTo}
use Rattle.net_phase.proofs.own.own_lists.Given as goal
use Rattle.net_phase.specs.Own.{rect_lists}

abbrev pub invariant-loop : goal.invariant-loop
invariant-loop l = record { long : length l.all.items ≡ l.counter; none : (k : ℕ) → get_or (rect_lists l.all.items) k [] ≡ [] }

abbrev pub invariant-loop-cell : goal.invariant-loop-cell
invariant-loop-cell l = AreOwnListsTo l.design (rules_seen l.rules) l.cell-index (rect_lists l.all.items)
