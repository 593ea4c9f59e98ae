use Rattle.std.proofs.Common.{◌++◌, ◌∙◌, ◌+◌, List, ℕ, map, drop, append_assoc, ap, sym}
use Rattle.std.proofs.lemmas.Option.{slice_get_within, get_or_from_slice_get}
use Rattle.match_laws.specs.Answer.{Answer as PlainAnswer}
use Rattle.match_types.specs.Plain.{plain_answer}
use Rattle.view_file.specs.Shown.{answered_at, pairs_from}
use Rattle.spice_text.proofs.WriteLemmas.{split}
use Rattle.view_file.proofs.cross.push_answers.Goals as goal

pub pairs-preserved : goal.pairs-preserved
pairs-preserved c =
    let names = c.args.names.now in
    let shown = c.args.shown.now in
    let k = c.pairs.k in
    let x = c.get-answer.result.now in
    let text = answered_at names shown k (plain_answer x) in
    let rest = pairs_from names shown (k + 1) (map plain_answer (drop (k + 1) c.args.answers.now)) in
    ap (λ (o : List ℕ). o ++ rest) c.in_ok-push_numbered.ensures
    ∙ append_assoc c.pairs.out.items text rest
    ∙ ap (λ (more : List PlainAnswer). c.pairs.out.items ++ pairs_from names shown k more)
    (sym (split plain_answer c.args.answers.now k x (slice_get_within c.args.answers.now k x c.get-answer.ensures) (sym (get_or_from_slice_get c.args.answers.now k x x c.get-answer.ensures))))
    ∙ c.pairs.invariant
