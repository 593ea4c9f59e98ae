use Rattle.std.proofs.Common.{map}
use Rattle.match_types.specs.Plain.{plain_answer}
use Rattle.net_model.specs.Rows.{plain_netlist}
use Rattle.pair_turns.proofs.Marked.{IsGoingBelow}
use Rattle.pair_turns.proofs.marks.going.Given as goal

abbrev pub invariant-pairs : goal.invariant-pairs
invariant-pairs l = IsGoingBelow (plain_netlist l.left) (plain_netlist l.right) (map plain_answer l.answers) l.k l.goes.items
