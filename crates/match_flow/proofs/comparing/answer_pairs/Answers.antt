use Rattle.match_flow.proofs.Sided.{all_answers, good_left}
use Rattle.match_flow.proofs.comparing.answer_pairs.Goals as goal
use Rattle.net_model.specs.Rows.{plain_netlist}
use Rattle.pair_jobs.proofs.Called.{if_ok}

pub new-requires-clause-sides : goal.new-requires-clause-sides
new-requires-clause-sides g c = c.requires.sides.sides

pub new-requires-clause-order : goal.new-requires-clause-order
new-requires-clause-order g c = good_left (plain_netlist c.args.left.now) (plain_netlist c.args.right.now) c.requires.sides

pub returns : goal.returns
returns g c =
    let p = c.in_ok-phase.phase in
    let made = c.in_ok-phase.ensures in
    let settings = c.args.settings.now in
    if_ok _ _ c.run_phase.result (λ values defined.
    all_answers c.args.left.now c.args.right.now settings.limit settings.same_pins p values c.requires.sides made.left made.right made.limit made.pins made.jobs defined)
    c.run_phase.ensures
