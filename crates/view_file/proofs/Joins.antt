-- Texts one behind the other.
use Rattle.std.proofs.Common.{◌≡◌, ◌∙◌, ℕ, List, ◌++◌, ap, append_assoc}

pub four_texts : (out a b c d o1 o2 o3 o4 : List ℕ) → o1 ≡ out ++ a → o2 ≡ o1 ++ b → o3 ≡ o2 ++ c → o4 ≡ o3 ++ d → o4 ≡ out ++ (a ++ (b ++ (c ++ d)))
four_texts out a b c d o1 o2 o3 o4 e1 e2 e3 e4 =
    e4
    ∙ ap (λ (o : List ℕ). o ++ d) (e3 ∙ ap (λ (o : List ℕ). o ++ c) (e2 ∙ ap (λ (o : List ℕ). o ++ b) e1))
    ∙ append_assoc ((out ++ a) ++ b) c d
    ∙ append_assoc (out ++ a) b (c ++ d)
    ∙ append_assoc out a (b ++ (c ++ d))
