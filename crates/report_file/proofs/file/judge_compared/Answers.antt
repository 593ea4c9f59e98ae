use Rattle.std.proofs.Common.{◌≡◌, ◌≤◌, ◌^◌, ℕ, Option, length, sym, subst, ap, ◌∙◌}
use Rattle.std.proofs.lemmas.List.{length-map}
use Rattle.std.proofs.lemmas.Result.{on_err_weaker}
use Rattle.match_report.specs.declared.report.Compared.{Compared}
use Rattle.match_types.specs.Plain.{plain_answer}
use Rattle.report_file.specs.File.{pair_count}
use Rattle.report_file.proofs.file.judge_compared.Goals as goal

pub returns-in-Some-clause-err : goal.returns-in-Some-clause-err
returns-in-Some-clause-err c =
    let found = c.in-Some.found in
    let count : pair_count c.args.compared.now ≡ length found.answers = ap (λ (o : Option Compared). pair_count o) c.in-Some.is ∙ length-map found.answers plain_answer in
    on_err_weaker c.judge_run.result (λ h. subst (λ (n : ℕ). 2 ^ 32 ≤ n) (sym count) h) c.judge_run.ensures.err

pub returns-in-None-clause-err : goal.returns-in-None-clause-err
returns-in-None-clause-err c = on_err_weaker c.judge_run-in-None.result (λ h. absurd h) c.judge_run-in-None.ensures.err
