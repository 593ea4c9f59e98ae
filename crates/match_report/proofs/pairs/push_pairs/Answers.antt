use Rattle.std.proofs.Common.{◌++◌, ◌∙◌, ◌+◌, ℕ, List, map, drop, slice_get, append_assoc, ap, sym}
use Rattle.match_laws.specs.Answer.{Answer as PlainAnswer}
use Rattle.match_types.specs.Plain.{plain_answer}
use Rattle.net_model.specs.Rows.{plain_circuit}
use Rattle.match_report.specs.Pairs.{pair_text, pair_texts}
use Rattle.match_report.proofs.Splitting.{split}
use Rattle.match_report.proofs.pairs.push_pairs.Goals as goal

pub pairs-preserved : goal.pairs-preserved
pairs-preserved c =
    let lefts = map plain_circuit c.args.lefts.now in
    let rights = map plain_circuit c.args.rights.now in
    let k = c.pairs.k in
    let text = pair_text lefts (slice_get lefts k) (slice_get rights k) (plain_answer c.get.result.now) in
    let rest = pair_texts lefts rights (k + 1) (map plain_answer (drop (k + 1) c.args.answers.now)) in
    ap (λ (o : List ℕ). o ++ rest) c.in_ok-push_pair.ensures
    ∙ append_assoc c.pairs.out.items text rest
    ∙ ap (λ (more : List PlainAnswer). c.pairs.out.items ++ pair_texts lefts rights k more)
    (sym (split plain_answer c.args.answers.now k c.get.result.now c.get.ensures))
    ∙ c.pairs.invariant
