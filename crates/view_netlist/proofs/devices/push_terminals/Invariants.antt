use Rattle.std.proofs.Common.{◌≡◌, ◌++◌, length}
use Rattle.view_netlist.specs.Rows.{terminal_texts}
use Rattle.view_netlist.proofs.devices.push_terminals.Given as goal

abbrev pub invariant-terminals : goal.invariant-terminals
invariant-terminals l = l.out.items ++ terminal_texts l.rest ≡ l.initial.out.items ++ terminal_texts l.terminals

abbrev pub decreases-terminals : goal.decreases-terminals
decreases-terminals l = length l.rest
