-- A list with an element more.
use Rattle.std.proofs.Common.{◌≡◌, inl, inr, ℕ, List, [], ◌∷◌, ◌++◌, length, sym, ap, ◌∙◌, Bool}
use Rattle.base_laws.proofs.Items.{push_cases}
use Rattle.rule_text.specs.Rules.{Rules}
use Rattle.rule_text.specs.Reading.{is_conductor, TellsConductors}

pub tells_more : (table : List Bool) (k : ℕ) (known : Bool) (r : Rules) → length table ≡ k → known ≡ is_conductor k r → TellsConductors table r
    → TellsConductors (table ++ known ∷ []) r
tells_more table k known r at is tells = record {
  each = λ j found e. elim (push_cases table known found j e) [
    | inl h ↦ tells.each j found h
    | inr (last, same) ↦ let place : k ≡ j = sym at ∙ sym last in sym same ∙ is ∙ ap (λ (i : ℕ). is_conductor i r) place
  ];
}
