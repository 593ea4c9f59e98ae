use Rattle.net_model.specs.Rows.{plain_netlist}
use Rattle.pair_turns.specs.Seen.{names_in}
use Rattle.report_file.proofs.SoFar.{AreTaken}
use Rattle.report_file.proofs.Turned.{left_over}
use Rattle.report_file.proofs.turns.compare_in_turns.Given as goal
use Rattle.rule_text.specs.Seen.{rules_seen}

abbrev pub invariant-turns : goal.invariant-turns
invariant-turns g l =
    AreTaken (rules_seen l.rules) (plain_netlist l.layout) l.top (plain_netlist l.schematic) l.most (names_in l.initial.alone) (names_in l.alone) l.lines.items

abbrev pub decreases-turns : goal.decreases-turns
decreases-turns g l = left_over (plain_netlist l.layout) (names_in l.alone)
