-- What the answers of all pairs come to.
use Rattle.std.specs.Prelude.{◌≡◌, ◌⊎◌, ◌↔◌, ◌<◌, ℕ, List, Option, IsNone, IsSomeAnd}
use Rattle.std.specs.List.{All, Any}
use Rattle.plain_netlist.specs.Netlist.{Netlist}
use Rattle.plain_netlist.specs.Sound.{IsGood}
use Rattle.match_laws.specs.Answer.{Answer, Match, DiffersInRound, DiffersByTree, Undecided}
use Rattle.match_laws.specs.Answer.{Skipped, IsDifference}
use Rattle.align_laws.specs.Partners.{AreSides}
use Rattle.composed_laws.specs.Answered.{Asked}
use Rattle.pair_jobs.specs.Answers.{AreAllAnswers, IsMatch}
use Rattle.pair_jobs.specs.declared.verdict.Verdict.{Verdict}
use Rattle.pair_jobs.specs.declared.verdict.Verdict.TheVariants as verdict

abbrev pub IsUndecided : Answer → Type 0
IsUndecided (Match f) = ⊥
IsUndecided (DiffersInRound r a m n) = ⊥
IsUndecided (DiffersByTree gs) = ⊥
IsUndecided (Undecided gs) = Unit {0}
IsUndecided (Skipped q) = ⊥

-- a match where each pair matches, a mismatch where one differs, else undecided
abbrev pub IsVerdict : List Answer → Verdict → Type 0
IsVerdict answers verdict.Match = All IsMatch answers
IsVerdict answers verdict.Mismatch = Any IsDifference answers
IsVerdict answers verdict.Undecided =
    (Any IsDifference answers → ⊥) × (All IsMatch answers → ⊥)

-- one of the three holds, and no other
abbrev pub OneVerdictLaw : Type 0
OneVerdictLaw = (answers : List Answer) (a b : Verdict) → IsVerdict answers a → IsVerdict answers b
    → a ≡ b

-- a pair is skipped for one that differs or is undecided: so where none differs and some pair
-- doesn't match, one is undecided
abbrev pub UndecidedPairLaw : Type 0
UndecidedPairLaw = (left right : Netlist) (asked : Asked) (answers : List Answer) → AreSides left right
    → IsGood left (λ k. k) → AreAllAnswers left right asked answers
    → IsVerdict answers verdict.Undecided
    ↔ ((Any IsDifference answers → ⊥) × Any IsUndecided answers)

-- of a whole run: a mismatch also where a gate is bad, or where the layout's top has no partner, so
-- that there are no answers
abbrev pub IsRunVerdict : ℕ → Option (List Answer) → Verdict → Type 0
IsRunVerdict bad answers verdict.Match =
    (bad ≡ 0) × IsSomeAnd answers (λ all. IsVerdict all verdict.Match)
IsRunVerdict bad answers verdict.Mismatch =
    (0 < bad) ⊎ (IsNone answers ⊎ IsSomeAnd answers (λ all. IsVerdict all verdict.Mismatch))
IsRunVerdict bad answers verdict.Undecided =
    (bad ≡ 0) × IsSomeAnd answers (λ all. IsVerdict all verdict.Undecided)

-- of these too one holds, and no other
abbrev pub OneRunVerdictLaw : Type 0
OneRunVerdictLaw = (bad : ℕ) (answers : Option (List Answer)) (a b : Verdict)
    → IsRunVerdict bad answers a → IsRunVerdict bad answers b → a ≡ b
