-- Texts one behind the other.
use Rattle.std.proofs.Common.{◌≡◌, ◌∙◌, ℕ, ℤ, List, [], ◌∷◌, ◌++◌, ap, append_assoc}
use Rattle.view_words.specs.declared.rects.Step.{Step}

pub spaced : (out p q : List ℕ) → ((out ++ p) ++ 0x20 ∷ []) ++ q ≡ out ++ (p ++ 0x20 ∷ q)
spaced out p q = append_assoc (out ++ p) (0x20 ∷ []) q ∙ append_assoc out p (0x20 ∷ q)

pub same_step : (a b : Step) → a.dx ≡ b.dx → a.dy ≡ b.dy → a.width ≡ b.width → a.height ≡ b.height → a ≡ b
same_step a b e f g h =
    ap (λ (v : ℤ). let s : Step = record { dx = v; dy = a.dy; width = a.width; height = a.height } in s) e
    ∙ ap (λ (v : ℤ). let s : Step = record { dx = b.dx; dy = v; width = a.width; height = a.height } in s) f
    ∙ ap (λ (v : ℤ). let s : Step = record { dx = b.dx; dy = b.dy; width = v; height = a.height } in s) g
    ∙ ap (λ (v : ℤ). let s : Step = record { dx = b.dx; dy = b.dy; width = b.width; height = v } in s) h
