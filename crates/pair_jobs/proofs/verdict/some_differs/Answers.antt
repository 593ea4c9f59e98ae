use Rattle.std.proofs.Common.{map, ap, sym, ◌∙◌}
use Rattle.match_types.specs.Plain.{plain_answer}
use Rattle.pair_jobs.proofs.Judged.{differs_where, is_mismatch}
use Rattle.pair_jobs.proofs.verdict.some_differs.Goals as goal

pub returns-in-Mismatch-clause-some : goal.returns-in-Mismatch-clause-some
returns-in-Mismatch-clause-some c = ap is_mismatch (sym c.in-Mismatch.is) ∙ differs_where (map plain_answer c.args.answers.now) c.in_ok-verdict.verdict c.in_ok-verdict.ensures.verdict

pub returns-in-Match-clause-some : goal.returns-in-Match-clause-some
returns-in-Match-clause-some c = ap is_mismatch (sym c.in-Match.is) ∙ differs_where (map plain_answer c.args.answers.now) c.in_ok-verdict.verdict c.in_ok-verdict.ensures.verdict

pub returns-in-Undecided-clause-some : goal.returns-in-Undecided-clause-some
returns-in-Undecided-clause-some c = ap is_mismatch (sym c.in-Undecided.is) ∙ differs_where (map plain_answer c.args.answers.now) c.in_ok-verdict.verdict c.in_ok-verdict.ensures.verdict
