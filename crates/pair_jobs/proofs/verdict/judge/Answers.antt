use Rattle.std.proofs.Common.{map, sym, ◌∙◌, ap, subst, arith}
use Rattle.std.proofs.lemmas.List.{length-map}
use Rattle.match_laws.specs.Answer.{IsDifference}
use Rattle.match_types.specs.Plain.{plain_answer}
use Rattle.pair_jobs.proofs.Judged.{all_so_far, found_difference, match_more, open_more, read_at}
use Rattle.pair_jobs.proofs.verdict.judge.Goals.{in-Match, in-Undecided, in-Skipped}
use Rattle.pair_jobs.proofs.verdict.judge.Goals as goal
use Rattle.pair_jobs.specs.Answers.{IsMatch}

pub returns-in-Differs-clause-verdict : goal.returns-in-Differs-clause-verdict
returns-in-Differs-clause-verdict c = found_difference c.args.answers.now c.loop-pair.pair c.get.result.now c.in-Differs.field-0 c.get.ensures (ap plain_answer c.in-Differs.is)

pub loop-pair-preserved : goal.loop-pair-preserved
loop-pair-preserved c =
    let answers = map plain_answer c.args.answers.now in
    let n = c.loop-pair.pair in
    let at = read_at c.args.answers.now n c.get.result.now c.get.ensures in
    elim c.match-get.branch [
      | in-Match w ↦ rw w.verdict-is (match_more answers n c.loop-pair.verdict (subst IsMatch (sym (at ∙ ap plain_answer w.in-Match.is)) tt) c.loop-pair.invariant)
      | in-Undecided w ↦ let is = at ∙ ap plain_answer w.in-Undecided.is in rw w.verdict-is (open_more answers n c.loop-pair.verdict (λ m. subst IsMatch is m) (λ d. subst IsDifference is d) c.loop-pair.invariant)
      | in-Skipped w ↦ let is = at ∙ ap plain_answer w.in-Skipped.is in rw w.verdict-is (open_more answers n c.loop-pair.verdict (λ m. subst IsMatch is m) (λ d. subst IsDifference is d) c.loop-pair.invariant)
    ]

pub returns-clause-verdict : goal.returns-clause-verdict
returns-clause-verdict c =
    let answers = map plain_answer c.args.answers.now in
    let count = length-map c.args.answers.now plain_answer in
    let long = c.len.ensures in
    let small = c.in_ok-count.ensures.ok in
    let past = c.loop-pair-test.false in
    let low = c.loop-pair.auto.pair-end in
    all_so_far answers c.loop-pair.pair c.loop-pair.verdict (omega (arith, count, long, small, past, low)) c.loop-pair.invariant
