-- Which kinds may follow a record list: what the grammar leaves behind it.
use Rattle.std.specs.Prelude.{◌≡◌, ℕ, Bool, true, false, List, [], ◌∷◌, ◌++◌, not, IsTrue, ◌↔◌}
use Rattle.std.specs.Prelude.{◌==◌}
use Rattle.gds_records.specs.Kinds.{ENDLIB}
use Rattle.gds_records.specs.Records.{Records, NoRecords, ◌▸◌}
use Rattle.gds_grammar.specs.Pattern.{Pattern, Allows, after_any}
use Rattle.gds_grammar.specs.Grammar.{library}

-- the kinds of the records, in order
abbrev pub kinds_of : Records → List ℕ
kinds_of NoRecords = []
kinds_of (before ▸ r) = kinds_of before ++ r.kind ∷ []

-- what may be left of a library behind the records
abbrev pub left_after : Records → List Pattern
left_after NoRecords = library ∷ []
left_after (before ▸ r) = after_any r.kind (left_after before)

-- nothing is left
abbrev pub is_empty : List Pattern → Bool
is_empty [] = true
is_empty (p ∷ ps) = false

-- the grammar can go on with the kind
abbrev pub can_go_on : Records → ℕ → Bool
can_go_on before kind = not (is_empty (after_any kind (left_after before)))

-- the same without patterns' parts: some text of the grammar begins so
abbrev pub GoesOn : Records → ℕ → Type 0
GoesOn before kind = (rest : List ℕ) × Allows library (kinds_of before ++ kind ∷ rest)

-- the two readings of the grammar are one
abbrev pub GrammarLaw : Type 0
GrammarLaw = (before : Records) (kind : ℕ) → IsTrue (can_go_on before kind) ↔ GoesOn before kind

-- the last record is ENDLIB
abbrev pub is_ended : Records → Bool
is_ended NoRecords = false
is_ended (before ▸ r) = r.kind == ENDLIB

abbrev pub IsEnded : Records → Type 0
IsEnded rs = is_ended rs ≡ true

-- no kind may follow ENDLIB
abbrev pub EndLaw : Type 0
EndLaw = (rs : Records) (kind : ℕ) → IsEnded rs → can_go_on rs kind ≡ false
