-- Lists that grow by one at their end.
use Rattle.std.proofs.Common.{◌≡◌, ℕ, zero, suc, ◌+◌, List, [], ◌∷◌, ◌++◌, length, get_or, refl, sym, ◌∙◌, arith, length-append}
use Rattle.std.proofs.Math.Decide.{ℕ_discrete}
use Rattle.std.proofs.lemmas.List.{get_or_push, get_or_append_left}
use Rattle.link_classes.specs.Forest.{AreAlone}

-- one more of what every entry is
pub defaults_push : {X : Type 0} (xs : List X) (d : X) → ((k : ℕ) → get_or xs k d ≡ d) → (k : ℕ) → get_or (xs ++ d ∷ []) k d ≡ d
defaults_push [] d h zero = refl
defaults_push [] d h (suc k) = refl
defaults_push (x ∷ xs) d h zero = h zero
defaults_push (x ∷ xs) d h (suc k) = defaults_push xs d (λ i. h (suc i)) k

pub length_more : {X : Type 0} (xs : List X) (y : X) (n : ℕ) → length xs ≡ n → length (xs ++ y ∷ []) ≡ n + 1
length_more xs y n e = omega (arith, length-append xs (y ∷ []))

pub alone_push : (p : List ℕ) (n : ℕ) → AreAlone p n → AreAlone (p ++ n ∷ []) (n + 1)
alone_push p n h = record {
  long = length_more p n n h.long;
  own = λ i lt. elim (ℕ_discrete i n) [
    | yes e ↦ get_or_push p n 0 i (h.long ∙ sym e) ∙ sym e
    | no not ↦ let long = h.long in get_or_append_left p (n ∷ []) 0 i (omega arith) ∙ h.own i (omega arith)
  ];
}
