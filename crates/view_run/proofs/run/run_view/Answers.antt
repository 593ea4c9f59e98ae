use Rattle.std.proofs.Common.{Err, ap, map, refl, string_bytes, ◌∙◌}
use Rattle.std.specs.Option.{option_map}
use Rattle.lvs_run.specs.declared.status.Refusal.TheVariants as refusal
use Rattle.view_run.specs.Stated.{asked_of}
use Rattle.view_run.proofs.Apart.{page_apart}
use Rattle.view_run.proofs.Ending.{comes_shows, same_run, words_run}
use Rattle.view_run.proofs.run.run_view.Goals as goal

pub returns-in-Err-Refused-clause-outcome : goal.returns-in-Err-Refused-clause-outcome
returns-in-Err-Refused-clause-outcome g c =
    let none = c.read_task.ensures.refused (c.in-Err-Refused.is ∙ ap (λ f. Err f) c.in-Err-Refused.field-0-is) in
    words_run _ _ _ _ _ none c.refuse.ensures

pub returns-in-Some-clause-outcome : goal.returns-in-Some-clause-outcome
returns-in-Some-clause-outcome g c =
    same_run _ (asked_of c.in-Ok.task) (refusal.SamePath c.in-Some.path) (string_bytes c.in-Some.path) _ _ _ _ c.in-Ok.ensures.found (ap (λ o. option_map string_bytes o) c.in-Some.is) refl c.refuse_same.ensures

pub run_task-requires-clause-page : goal.run_task-requires-clause-page
run_task-requires-clause-page g c κs within = page_apart (map string_bytes c.args.words.now) (asked_of c.in-Ok.task) c.in-Ok.ensures.found (ap (λ o. option_map string_bytes o) c.in-None.is)

pub returns-clause-faults : goal.returns-clause-faults
returns-clause-faults g c = comes_shows _ _ _ _ _ _ c.run_task.ensures
