-- What is accepted is a text of the grammar.
use Rattle.std.proofs.Common.{◌≡◌, ℕ, Bool, true, false, List, [], ◌∷◌, ◌++◌, None, refl, sym, subst, ◌∙◌, append_assoc}
use Rattle.gds_records.specs.Records.{Rec, Records, NoRecords, ◌▸◌}
use Rattle.gds_grammar.specs.Pattern.{Allows}
use Rattle.gds_grammar.specs.Grammar.{library}
use Rattle.gds_grammar.specs.Order.{can_go_on, kinds_of, IsEnded, GoesOn}
use Rattle.gds_grammar.proofs.GrammarLaw.{grammar_law}
use Rattle.gds_grammar.proofs.LastRecord.{stops}
use Rattle.gds_elements.specs.Faults.{Passes, fault_of}
use Rattle.gds_elements.proofs.Step.{never_behind_end}

-- a record passes only where the grammar can go on
pub goes : (before : Records) (r : Rec) (b : Bool) → can_go_on before r.kind ≡ b → fault_of before r ≡ None → b ≡ true
goes before r true e passed = refl
goes before r false e passed = absurd (never_behind_end before r e passed)

-- nothing of a text of the grammar stands behind ENDLIB
whole : (before : Records) (r : Rec) (rest : List ℕ) → IsEnded (before ▸ r) → Allows library (kinds_of before ++ r.kind ∷ rest) → Allows library (kinds_of (before ▸ r))
whole before r [] ended allowed = allowed
whole before r (k ∷ rest) ended allowed =
    let more : GoesOn (before ▸ r) k = (rest, subst (λ (ks : List ℕ). Allows library ks) (sym (append_assoc (kinds_of before) (r.kind ∷ []) (k ∷ rest))) allowed) in
    let on : can_go_on (before ▸ r) k ≡ true = (grammar_law (before ▸ r) k).1 more in
    let off : can_go_on (before ▸ r) k ≡ false = stops (before ▸ r) k ended in
    absurd (let bad : true ≡ false = sym on ∙ off in cc)

pub derived : (rs : Records) → Passes rs → IsEnded rs → Allows library (kinds_of rs)
derived NoRecords passed ended = absurd cc
derived (before ▸ r) passed ended =
    let on = (grammar_law before r.kind).0 (goes before r (can_go_on before r.kind) refl passed.2) in
    whole before r on.0 ended on.1
