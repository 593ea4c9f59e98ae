use Rattle.std.proofs.Common.{map}
use Rattle.match_flow.proofs.Again.{answered_again, comparable_as}
use Rattle.match_flow.proofs.comparing.answer_merged.Goals as goal
use Rattle.net_model.specs.Rows.{plain_netlist}
use Rattle.match_types.specs.Plain.{plain_answer}

pub answer_pairs-requires-clause-sides : goal.answer_pairs-requires-clause-sides
answer_pairs-requires-clause-sides g c κs within = comparable_as (plain_netlist c.args.left.now) (plain_netlist c.args.right.now) (plain_netlist c.in_ok-near.near.netlist) (plain_netlist c.in_ok-far.far.netlist) c.in_ok-near.ensures.merged c.in_ok-far.ensures.merged c.requires.sides

pub returns-clause-answers : goal.returns-clause-answers
returns-clause-answers g c =
    let settings = c.args.settings.now in
    answered_again (plain_netlist c.args.left.now) (plain_netlist c.args.right.now) (plain_netlist c.in_ok-near.near.netlist) (plain_netlist c.in_ok-far.far.netlist) settings.limit settings.same_pins (map plain_answer c.in_ok-answers.answers) c.in_ok-near.ensures.merged c.in_ok-far.ensures.merged c.in_ok-answers.ensures
