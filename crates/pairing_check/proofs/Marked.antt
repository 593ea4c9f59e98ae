-- Nets that are pins exactly where their images are, by their marks.
use Rattle.std.proofs.Common.{◌≡◌, ◌↔◌, Bool, true, false, refl, sym, ◌∙◌, true≢false, not}
use Rattle.std.specs.Bool.{beq}

pub same_pins : (a b : Bool) (P Q : Type 0) → (a ≡ true) ↔ P → (b ≡ true) ↔ Q → a ≡ b → P ↔ Q
same_pins a b P Q p q e = ((λ x. q.0 (sym e ∙ p.1 x)), (λ x. p.0 (e ∙ q.1 x)))

pub other_pins : (a b : Bool) (P Q : Type 0) → (a ≡ true) ↔ P → (b ≡ true) ↔ Q → (a ≡ b → ⊥) → P ↔ Q → ⊥
other_pins true true P Q p q n e = n refl
other_pins false false P Q p q n e = n refl
other_pins true false P Q p q n e = true≢false (sym (q.1 (e.0 (p.0 refl))))
other_pins false true P Q p q n e = true≢false (sym (p.1 (e.1 (q.0 refl))))

pub beq_not : (a b : Bool) → not (beq a b) ≡ true → a ≡ b → ⊥
beq_not true true h e = true≢false (sym h)
beq_not false false h e = true≢false (sym h)
beq_not true false h e = true≢false e
beq_not false true h e = true≢false (sym e)

pub beq_yes : (a b : Bool) → not (beq a b) ≡ false → a ≡ b
beq_yes true true h = refl
beq_yes false false h = refl
beq_yes true false h = absurd (true≢false h)
beq_yes false true h = absurd (true≢false h)
