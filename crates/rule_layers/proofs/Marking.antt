-- Marks of the names that are read.
use Rattle.std.proofs.Common.{◌≡◌, ◌⊎◌, ◌↔◌, inl, inr, ℕ, ◌<◌, ◌+◌, Bool, List, Some, sym, ◌∙◌, subst, arith, length, slice_get}
use Rattle.std.proofs.lemmas.Option.{same_Some}
use Rattle.std.proofs.Math.Decide.{ℕ_discrete}
use Rattle.rule_layers.specs.Reads.{IsBy, Marks}

-- other words for what is marked
pub marks_as : (R S : ℕ → Type 0) (old new : List Bool) → ((k : ℕ) → k < length old → R k ↔ S k) → Marks R old new → Marks S old new
marks_as R S old new same h = record {
  long = h.long;
  each = λ k lt. (
    (λ e. elim ((h.each k lt).0 e) [ inl o ↦ inl o | inr r ↦ inr ((same k lt).0 r) ]),
    (λ j. (h.each k lt).1 (elim j [ inl o ↦ inl o | inr s ↦ inr ((same k lt).1 s) ])),
  );
}

-- one after the other
pub marks_both : (R S : ℕ → Type 0) (old mid new : List Bool) → Marks R old mid → Marks S mid new → Marks (λ k. R k ⊎ S k) old new
marks_both R S old mid new h g = record {
  long = g.long ∙ h.long;
  each = λ k lt.
      let long = h.long in
      let within : k < length mid = omega (arith, lt, long) in (
        (λ e. elim ((g.each k within).0 e) [
          | inl o ↦ elim ((h.each k lt).0 o) [ inl p ↦ inl p | inr r ↦ inr (inl r) ]
          | inr s ↦ inr (inr s)
        ]),
        (λ j. (g.each k within).1 (elim j [
          | inl o ↦ inl ((h.each k lt).1 (inl o))
          | inr b ↦ elim b [ inl r ↦ inl ((h.each k lt).1 (inr r)) | inr s ↦ inr s ]
        ])),
      );
}

-- one device rule more
pub by_more : {A : Type 0} (R : A → ℕ → Type 0) (rules : List A) (i k : ℕ) (rule : A) → slice_get rules i ≡ Some rule → (IsBy R rules i k ⊎ R rule k) ↔ IsBy R rules (i + 1) k
by_more {A = A} R rules i k rule at = (
  (λ h. elim h [
    | inl b ↦ let lt = b.at_in in record { at = b.at; rule = b.rule; at_in = omega arith; there = b.there; reads = b.reads }
    | inr r ↦ record { at = i; rule = rule; at_in = omega arith; there = at; reads = r }
  ]),
  (λ b. let lt = b.at_in in elim (ℕ_discrete b.at i) [
    | yes e ↦
        let same : b.rule ≡ rule = same_Some b.rule rule (sym b.there ∙ subst (λ j. slice_get rules j ≡ Some rule) (sym e) at) in
        inr (subst (λ (v : A). R v k) same b.reads)
    | no n ↦ inl (record { at = b.at; rule = b.rule; at_in = omega (arith, lt, n); there = b.there; reads = b.reads })
  ]),
)
