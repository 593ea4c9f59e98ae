-- The lines of pairs that were taken apart.
use Rattle.std.specs.Prelude.{ℕ, ◌+◌, Bool, List, [], ◌∷◌, ◌++◌, Option, slice_get, codes}
use Rattle.std.specs.Prelude.{if◌then◌else◌}
use Rattle.match_laws.specs.Answer.{Answer, Match, DiffersInRound, DiffersByTree, Undecided}
use Rattle.match_laws.specs.Answer.{Skipped}
use Rattle.plain_netlist.specs.Netlist.{Circuit}
use Rattle.match_report.specs.Pairs.{answer_text, name_of}
use Rattle.match_report.specs.Words.{name_word}

-- what the pair's own comparison came to, as in its block, but without the lines of a match
abbrev pub gone_text : List Circuit → Answer → List ℕ
gone_text lefts (Match f) = codes " match\n"
gone_text lefts (DiffersInRound r a n m) = answer_text lefts [] [] (DiffersInRound r a n m)
gone_text lefts (DiffersByTree gs) = answer_text lefts [] [] (DiffersByTree gs)
gone_text lefts (Undecided gs) = answer_text lefts [] [] (Undecided gs)
gone_text lefts (Skipped q) = answer_text lefts [] [] (Skipped q)

-- `apart LEFT RIGHT` and the answer
abbrev pub apart_text : List Circuit → Option Circuit → Option Circuit → Answer → List ℕ
apart_text lefts left right answer = codes "apart" ++ (name_word (name_of left)
    ++ (name_word (name_of right) ++ gone_text lefts answer))

-- those of the pairs that go, from the k-th
abbrev pub apart_texts : List Circuit → List Circuit → ℕ → List Bool → List Answer → List ℕ
apart_texts lefts rights k (g ∷ gs) (a ∷ more) =
    (if g then apart_text lefts (slice_get lefts k) (slice_get rights k) a else [])
    ++ apart_texts lefts rights (k + 1) gs more
apart_texts lefts rights k _ _ = []

-- `apart limit LEFT`: with what goes, the pair's circuits would become too large
abbrev pub limit_text : List Circuit → ℕ → List ℕ
limit_text lefts k = codes "apart limit" ++ (name_word (name_of (slice_get lefts k)) ++ 10 ∷ [])
