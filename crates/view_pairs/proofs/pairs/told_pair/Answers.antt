use Rattle.std.proofs.Common.{◌∙◌, ap, subst}
use Rattle.net_model.specs.Rows.{plain_circuit}
use Rattle.net_model.specs.declared.netlist.Circuit.{Circuit}
use Rattle.view_pairs.specs.Rows.{asked, proposal_rows}
use Rattle.view_pairs.specs.Wanted.{AreWanted, TakesWanted}
use Rattle.view_pairs.proofs.Sureness.{sure_rows}
use Rattle.view_pairs.proofs.pairs.told_pair.Goals as goal

pub returns-clause-rows : goal.returns-clause-rows
returns-clause-rows c =
    let sides = c.in_ok-sides.sides in
    let x = c.in_ok-proposal.proposal in
    c.in_ok-rows.ensures
    ∙ ap (λ (a : Circuit). proposal_rows (asked c.args.told (plain_circuit a) (plain_circuit sides.right.now) c.args.before.now x)) c.in_ok-sides.ensures.left
    ∙ ap (λ (b : Circuit). proposal_rows (asked c.args.told (plain_circuit c.args.left.now) (plain_circuit b) c.args.before.now x)) c.in_ok-sides.ensures.right

pub returns-clause-sure : goal.returns-clause-sure
returns-clause-sure c =
    let sides = c.in_ok-sides.sides in
    let x = c.in_ok-proposal.proposal in
    let w = c.in_ok-wanted.wanted in
    let y = c.args.answer.now in
    let left = c.args.left.now in
    let right = c.args.right.now in
    let wanted = subst (λ (a : Circuit). AreWanted (plain_circuit a) (plain_circuit right) y w) c.in_ok-sides.ensures.left
    (subst (λ (b : Circuit). AreWanted (plain_circuit sides.left.now) (plain_circuit b) y w) c.in_ok-sides.ensures.right c.in_ok-wanted.ensures) in
    let takes = subst (λ (a : Circuit). TakesWanted (plain_circuit a) (plain_circuit right) w x) c.in_ok-sides.ensures.left
    (subst (λ (b : Circuit). TakesWanted (plain_circuit sides.left.now) (plain_circuit b) w x) c.in_ok-sides.ensures.right c.in_ok-proposal.ensures.takes) in
    sure_rows (plain_circuit left) (plain_circuit right) y w (asked c.args.told (plain_circuit left) (plain_circuit right) c.args.before.now x) wanted takes
