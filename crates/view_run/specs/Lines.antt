-- The summary line of a run that writes its file.
use Rattle.std.specs.Prelude.{ℕ, List, [], ◌∷◌, ◌++◌, codes}
use Rattle.std.specs.Fmt.{decimal}
use Rattle.pair_jobs.specs.declared.verdict.Verdict.{Verdict}
use Rattle.pair_jobs.specs.declared.verdict.Verdict.TheVariants.{Match, Mismatch, Undecided}

abbrev pub verdict_word : Verdict → List ℕ
verdict_word Match = codes "match"
verdict_word Mismatch = codes "mismatch"
verdict_word Undecided = codes "undecided"

-- what the comparison came to; how many circuits the layout has, pairs are compared and gates are
-- bad
abbrev pub view_line : Verdict → (circuits pairs bad : ℕ) → List ℕ
view_line verdict circuits pairs bad = codes "view " ++ verdict_word verdict
    ++ codes " circuits " ++ decimal circuits ++ codes " pairs " ++ decimal pairs
    ++ codes " bad " ++ decimal bad ++ 10 ∷ []
