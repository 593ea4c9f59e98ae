-- Multiples of a step.
use Rattle.std.proofs.Common.{◌≡◌, ℕ, ℤ, zero, suc, pos, negsuc, ◌*◌, ◌<◌, ◌≤◌, ◌*ℤ◌, ◌-ℤ◌, ◌+ℤ◌, ◌^◌, ◌<ℤ◌, ◌≤ℤ◌, ◌⊎◌, inl, inr, ◌-◌, refl, sym, ◌∙◌, ap, arith}
use Rattle.std.proofs.lemmas.Int.{ints}
use Rattle.std.proofs.Math.IntN.{pos-*ℤ-pos, pos-*ℤ-negsuc, neg_ℤ, nat_abs}
use Rattle.std.proofs.Math.Nat.{mul-le-mul_right}
use Rattle.geo_base.specs.Near.{IsWithin}
use Rattle.std.specs.Int.{int_min, int_max}

pub times_up : (i n : ℕ) (s : ℤ) → s ≡ pos n → pos i *ℤ s ≡ pos (i * n)
times_up i n s e = ap (λ z. pos i *ℤ z) e ∙ pos-*ℤ-pos i n

pub times_down : (i n : ℕ) (s : ℤ) → s <ℤ pos 0 → pos 0 -ℤ s ≡ pos n → pos 0 -ℤ (pos i *ℤ s) ≡ pos (i * n)
times_down i n (pos m) lt e = absurd (let z : ⊥ = omega (arith, ints) in z)
times_down i n (negsuc m) lt e =
    let f : n ≡ suc m = omega (arith, ints) in
    let g = pos-*ℤ-negsuc i m in
    let h : pos 0 -ℤ neg_ℤ (pos (i * suc m)) ≡ pos (i * suc m) = twice (i * suc m) in
    ap (λ z. pos 0 -ℤ z) g ∙ h ∙ ap (λ k. pos (i * k)) (sym f)
  where
    twice : (k : ℕ) → pos 0 -ℤ neg_ℤ (pos k) ≡ pos k
    twice zero = refl
    twice (suc k) = omega (arith, ints)

pub abs_up : (t s : ℤ) → t ≡ s → pos 0 <ℤ s → s ≡ pos (nat_abs t)
abs_up (pos n) s e lt = sym e
abs_up (negsuc n) s e lt = absurd (let z : ⊥ = omega (arith, ints) in z)

pub abs_of : (t s : ℤ) → t ≡ s → s <ℤ pos 0 → pos 0 -ℤ s ≡ pos (nat_abs t)
abs_of (pos n) s e lt = absurd (let z : ⊥ = omega (arith, ints) in z)
abs_of (negsuc n) s e lt = let f : pos 0 -ℤ s ≡ pos (suc n) = omega (arith, ints) in f

minus_pos : (k : ℕ) → neg_ℤ (pos k) ≡ pos 0 -ℤ pos k
minus_pos zero = refl
minus_pos (suc k) = omega (arith, ints)

pub ends : (i n : ℕ) (s : ℤ) → i ≤ n → ((pos 0 ≤ℤ (pos i *ℤ s)) × ((pos i *ℤ s) ≤ℤ (pos n *ℤ s))) ⊎ (((pos n *ℤ s) ≤ℤ (pos i *ℤ s)) × ((pos i *ℤ s) ≤ℤ pos 0))
ends i n (pos m) h =
    let a = pos-*ℤ-pos i m in let b = pos-*ℤ-pos n m in let le = mul-le-mul_right m h in
    inl ((omega (arith, ints)), (omega (arith, ints)))
ends i n (negsuc m) h =
    let a = pos-*ℤ-negsuc i m ∙ minus_pos (i * suc m) in let b = pos-*ℤ-negsuc n m ∙ minus_pos (n * suc m) in let le = mul-le-mul_right (suc m) h in
    inr ((omega (arith, ints)), (omega (arith, ints)))

pub between_ends : (i n : ℕ) (s f low high : ℤ) → i < n → f ≡ pos (n - 1) *ℤ s → low ≡ int_min f (pos 0) → high ≡ int_max f (pos 0) → (low ≤ℤ (pos i *ℤ s)) × ((pos i *ℤ s) ≤ℤ high)
between_ends i n s f low high lt e l h = elim (ends i (n - 1) s (omega arith)) [
  | inl (a, b) ↦ ((let g : low ≤ℤ pos 0 = grind (arith, ints) in omega (arith, ints)), (let g : f ≤ℤ high = grind (arith, ints) in omega (arith, ints)))
  | inr (a, b) ↦ ((let g : low ≤ℤ f = grind (arith, ints) in omega (arith, ints)), (let g : pos 0 ≤ℤ high = grind (arith, ints) in omega (arith, ints)))
]

pub sum_within : (s t r p : ℤ) → IsWithin (2 ^ 39) s → IsWithin (2 ^ 38) p → t ≡ p → r ≡ s +ℤ t → IsWithin (2 ^ 45) r
sum_within s t r p h g e f = let l = h.low in let u = h.high in let l' = g.low in let u' = g.high in record { low = omega (arith, ints); high = omega (arith, ints) }

pub low_less : (low start p l : ℤ) → l ≡ low -ℤ start → low <ℤ (start +ℤ p) → l <ℤ p
low_less low start p l e h = omega (arith, ints)

pub high_less : (high start p h : ℤ) → h ≡ high -ℤ start → (start +ℤ p) <ℤ high → p <ℤ h
high_less high start p h e g = omega (arith, ints)

pub low_wide : (low start z p e l : ℤ) → l ≡ low -ℤ e → z ≤ℤ e → low <ℤ ((start +ℤ z) +ℤ p) → l <ℤ (start +ℤ p)
low_wide low start z p e l is le h = omega (arith, ints)

pub high_wide : (high start z p e h : ℤ) → h ≡ high -ℤ e → e ≤ℤ z → ((start +ℤ z) +ℤ p) <ℤ high → (start +ℤ p) <ℤ h
high_wide high start z p e h is le g = omega (arith, ints)

pub low_swap : (low a b c x : ℤ) → x ≡ a +ℤ c → low <ℤ ((a +ℤ b) +ℤ c) → low <ℤ (x +ℤ b)
low_swap low a b c x e h = omega (arith, ints)

pub high_swap : (high a b c x : ℤ) → x ≡ a +ℤ c → ((a +ℤ b) +ℤ c) <ℤ high → (x +ℤ b) <ℤ high
high_swap high a b c x e h = omega (arith, ints)
