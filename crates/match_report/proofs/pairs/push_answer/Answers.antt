use Rattle.std.proofs.Common.{◌++◌, ◌∙◌, ℕ, List, map, append_assoc, ap, sym, codes}
use Rattle.std.proofs.lemmas.Result.{IfOk-equal}
use Rattle.match_types.specs.Plain.{plain_answer, row_of}
use Rattle.match_types.specs.declared.answer.Answer.{Answer}
use Rattle.match_types.specs.declared.answer.Guess.{Guess}
use Rattle.net_model.specs.Rows.{plain_circuit}
use Rattle.match_report.specs.Pairs.{answer_text, guess_lines}
use Rattle.match_report.proofs.pairs.push_answer.Goals as goal

pub returns-in_ok-extend_from_slice-in-Undecided : goal.returns-in_ok-extend_from_slice-in-Undecided
returns-in_ok-extend_from_slice-in-Undecided c =
    let out = c.args.out.now.items in
    let word = codes " undecided\n" in
    let text = λ (a : Answer). out ++ answer_text (map plain_circuit c.args.lefts.now) c.args.left.now c.args.right.now (plain_answer a) in
    IfOk-equal c.push_guesses-in-Undecided.result _ _ _ c.push_guesses-in-Undecided.ensures
    (ap (λ (o : List ℕ). o ++ guess_lines (map row_of c.deref-in-Undecided.result.now)) c.in_ok-extend_from_slice-in-Undecided.ensures.items
    ∙ append_assoc out word (guess_lines (map row_of c.deref-in-Undecided.result.now))
    ∙ ap (λ (gs : List Guess). out ++ (word ++ guess_lines (map row_of gs))) c.deref-in-Undecided.ensures.value
    ∙ sym (ap text c.in-Undecided.is))
