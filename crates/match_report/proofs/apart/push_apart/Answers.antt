use Rattle.std.proofs.Common.{◌++◌, ◌<◌, ◌+◌, ◌∙◌, ◌∷◌, ℕ, List, [], Bool, false, map, drop, length, slice_get, get_or, append_assoc, ap, sym, arith}
use Rattle.std.specs.Prelude.{if◌then◌else◌}
use Rattle.std.proofs.lemmas.List.{drop_more}
use Rattle.std.proofs.lemmas.Option.{slice_get_within}
use Rattle.match_laws.specs.Answer.{Answer as PlainAnswer}
use Rattle.match_types.specs.Plain.{plain_answer}
use Rattle.net_model.specs.Rows.{plain_circuit}
use Rattle.match_report.specs.Apart.{apart_text, apart_texts}
use Rattle.match_report.proofs.Splitting.{split}
use Rattle.match_report.proofs.apart.push_apart.Goals as goal

pub pairs-preserved : goal.pairs-preserved
pairs-preserved c =
    let lefts = map plain_circuit c.args.lefts.now in
    let rights = map plain_circuit c.args.rights.now in
    let k = c.pairs.k in
    let goes = c.args.goes.now in
    let answers = c.args.answers.now in
    let answer = c.get.result.now in
    let out = c.pairs.out.items in
    let low = slice_get_within answers k answer c.get.ensures in
    let same = c.requires in
    let within : k < length goes = omega (arith, low, same) in
    let more = map plain_answer (drop (k + 1) answers) in
    let text = apart_text lefts (slice_get lefts k) (slice_get rights k) (plain_answer answer) in
    let line : List ℕ = if get_or goes k false then text else [] in
    let rest = apart_texts lefts rights (k + 1) (drop (k + 1) goes) more in
    ap (λ (o : List ℕ). o ++ rest) c.in_ok-push_marked.ensures
    ∙ append_assoc out line rest
    ∙ ap (λ (gs : List Bool). out ++ apart_texts lefts rights k gs (plain_answer answer ∷ more)) (sym (drop_more goes k false within))
    ∙ ap (λ (vs : List PlainAnswer). out ++ apart_texts lefts rights k (drop k goes) vs) (sym (split plain_answer answers k answer c.get.ensures))
    ∙ c.pairs.invariant
