-- What comes of a chip, seen from the words that state it.
use Rattle.std.proofs.Common.{◌≡◌, Option, Some, Result, Ok, Err, IfErr, string_bytes, sym, ap, subst, ◌∙◌}
use Rattle.lvs_outside.specs.Store.{Store}
use Rattle.lvs_run.specs.Words.{Paths, chip_paths, work_paths}
use Rattle.lvs_run.specs.declared.input.Stop.{Stop}
use Rattle.lvs_run.specs.declared.words.ChipTask.{ChipTask}
use Rattle.lvs_run.specs.declared.words.Work.{Work}
use Rattle.lvs_run.specs.declared.words.Work.TheVariants as work
use Rattle.lvs_run.specs.Inputs.{Stops, stopped}

-- what stops the making of a chip stops the run of the words that state it
pub stops_as : {A : Type 0} (r : Result A Stop) (stated : Option Paths) (w : Work) (t : ChipTask) (s : Store) → w ≡ work.Chip t → stated ≡ Some (work_paths w)
    → IfErr r (λ why. (u : Store) → Stops (Some (chip_paths t.n t.seed (string_bytes t.prefix))) u u (stopped why)) → IfErr r (λ why. Stops stated s s (stopped why))
stops_as (Ok v) stated w t s e found h = tt
stops_as (Err why) stated w t s e found h =
    let said : stated ≡ Some (chip_paths t.n t.seed (string_bytes t.prefix)) = found ∙ ap (λ (x : Work). Some (work_paths x)) e in
    subst (λ (o : Option Paths). Stops o s s (stopped why)) (sym said) (h s)
