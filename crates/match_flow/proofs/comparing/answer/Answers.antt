use Rattle.std.proofs.Common.{◌∙◌, ◌||◌, ap, false, is_some, map, sym, true}
use Rattle.std.proofs.lemmas.Bool.{and_parts}
use Rattle.std.specs.List.{list_any}
use Rattle.device_merge.specs.Merged.{has_alike}
use Rattle.match_flow.proofs.Again.{asked, not_asked}
use Rattle.match_flow.proofs.comparing.answer.Goals as goal
use Rattle.match_types.specs.Plain.{plain_answer}
use Rattle.net_model.specs.Rows.{plain_netlist}
use Rattle.pair_jobs.specs.Answers.{is_difference}

pub answer_merged-requires-clause-left_narrow : goal.answer_merged-requires-clause-left_narrow
answer_merged-requires-clause-left_narrow g c κs within =
    (c.requires.narrow (and_parts c.args.settings.now.merges_again (list_any is_difference (map plain_answer c.in_ok-first.first)) (sym c.in_ok-asks_again.ensures ∙ c.if-not-branch.false)).0).0

pub answer_merged-requires-clause-right_narrow : goal.answer_merged-requires-clause-right_narrow
answer_merged-requires-clause-right_narrow g c κs within =
    (c.requires.narrow (and_parts c.args.settings.now.merges_again (list_any is_difference (map plain_answer c.in_ok-first.first)) (sym c.in_ok-asks_again.ensures ∙ c.if-not-branch.false)).0).1

pub returns-then-not-branch : goal.returns-then-not-branch
returns-then-not-branch g c =
    let differs = list_any is_difference (map plain_answer c.in_ok-first.first) in
    let alike = has_alike (plain_netlist c.args.left.now) || has_alike (plain_netlist c.args.right.now) in
    record {
      first = map plain_answer c.in_ok-first.first;
      at_first = c.in_ok-first.ensures;
      again_is = sym (not_asked c.args.settings.now.merges_again differs alike (sym c.in_ok-asks_again.ensures ∙ c.if-not-branch.true));
      at_last = c.in_ok-first.ensures;
    }

pub returns-in-Some : goal.returns-in-Some
returns-in-Some g c =
    let differs = list_any is_difference (map plain_answer c.in_ok-first.first) in
    let alike = has_alike (plain_netlist c.args.left.now) || has_alike (plain_netlist c.args.right.now) in
    record {
      first = map plain_answer c.in_ok-first.first;
      at_first = c.in_ok-first.ensures;
      again_is = sym (asked c.args.settings.now.merges_again differs alike true (sym c.in_ok-asks_again.ensures ∙ c.if-not-branch.false) (sym c.in_ok-answers.ensures.alike ∙ ap is_some c.in-Some.is));
      at_last = rw c.in-Some.is at c.in_ok-answers.ensures.answers;
    }

pub returns-in-None : goal.returns-in-None
returns-in-None g c =
    let differs = list_any is_difference (map plain_answer c.in_ok-first.first) in
    let alike = has_alike (plain_netlist c.args.left.now) || has_alike (plain_netlist c.args.right.now) in
    record {
      first = map plain_answer c.in_ok-first.first;
      at_first = c.in_ok-first.ensures;
      again_is = sym (asked c.args.settings.now.merges_again differs alike false (sym c.in_ok-asks_again.ensures ∙ c.if-not-branch.false) (sym c.in_ok-answers.ensures.alike ∙ ap is_some c.in-None.is));
      at_last = c.in_ok-first.ensures;
    }
