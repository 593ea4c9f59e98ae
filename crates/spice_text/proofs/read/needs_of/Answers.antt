use Rattle.std.proofs.Common.{subst, ap, map, [], List, ℕ, ◌∙◌}
use Rattle.call_order.specs.Order.{lists}
use Rattle.spice_text.specs.Needs.{first_seen}
use Rattle.spice_text.specs.Seen.{circuit_seen}
use Rattle.spice_text.specs.Table.{IsNeedTable}
use Rattle.spice_text.specs.declared.gather.CircuitCards.{CircuitCards}
use Rattle.spice_text.proofs.read.needs_of.Goals as goal

pub returns-clause-table : goal.returns-clause-table
returns-clause-table c = c.in_ok-globals.ensures.table ∙ ap (λ (xs : List (List ℕ)). first_seen [] xs) c.deref.ensures.value

pub returns-clause-rows : goal.returns-clause-rows
returns-clause-rows c = subst (λ (xs : List CircuitCards). IsNeedTable (map circuit_seen xs) c.in_ok-globals.globals.table (lists c.in_ok-rows.rows.items)) c.deref-2.ensures.value c.in_ok-rows.ensures
