-- A value's answer is that of its number.
use Rattle.std.proofs.Common.{◌≡◌, inl, inr, ℕ, zero, suc, ◌+◌, ◌*◌, ◌^◌, ◌/◌, ◌%◌, ◌<◌, ◌≤◌, ◌==◌, true, false, Option, Some, None, Result, Ok, Err, refl, sym, ap, arith}
use Rattle.std.proofs.lemmas.Bool.{cases_Bool}
use Rattle.std.specs.Prelude.{nat_lt}
use Rattle.std.proofs.Math.Nat.{mul-div_cancel, mul-mod_left, mul-le-mul_right, mod-add-div', pow-suc}
use Rattle.std.proofs.lemmas.Bool.Decides.{Decides-eqb}
use Rattle.fixed_num.specs.declared.femto.Femto.{Femto}
use Rattle.fixed_num.specs.declared.femto.ValueFault.{ValueFault}
use Rattle.fixed_num.specs.declared.femto.ValueFault.TheVariants.{NotNumber, TooLarge, TooFine}
use Rattle.fixed_num.specs.Values.{Number}
use Rattle.fixed_num.specs.Scan.{Answers, AnswersUpTo}
use Rattle.spice_rows.specs.Sizes.{read_limit, length_limit, is_above, value_at, settled}
use Rattle.spice_rows.specs.Seen.{value_seen}

pub positive : (n : ℕ) → 0 < 10 ^ n
positive zero = omega arith
positive (suc n) = let h = positive n in omega (arith, pow-suc 10 n)

not_lt : (a b : ℕ) → b ≤ a → nat_lt a b ≡ false
not_lt a b h = elim (cases_Bool (nat_lt a b)) [ inl t ↦ absurd (grind (arith, t, h)) | inr f ↦ f ]

is_lt : (a b : ℕ) → a < b → nat_lt a b ≡ true
is_lt a b h = elim (cases_Bool (nat_lt a b)) [ inl t ↦ t | inr f ↦ absurd (grind (arith, f, h)) ]

-- a multiple of d is settled, where it is not above the limit
pub settled_is : (limit : Option ℕ) (a d f : ℕ) → 0 < d → a ≡ f * d → is_above limit (f * d) d ≡ false → settled limit a d ≡ Ok f
settled_is limit a d f p e low =
    let none : (f * d) % d ≡ 0 = mul-mod_left f d in
    let zero_is : ((f * d) % d == 0) ≡ true = (Decides-eqb ((f * d) % d) 0).1 none in
    rw e (rw (low, zero_is) (ap (λ (n : ℕ). let r : Result ℕ ValueFault = Ok n in r) (mul-div_cancel f p)))

-- a value within a limit is not above it
pub within : (limit d f : ℕ) → f ≤ limit → is_above (Some limit) (f * d) d ≡ false
within limit d f l = not_lt (limit * d) (f * d) (mul-le-mul_right d l)

whole : (k a d f : ℕ) → 0 < d → a ≡ f * d → f ≤ 10 ^ k → settled (Some (10 ^ k)) a d ≡ Ok f
whole k a d f p e l = settled_is (Some (10 ^ k)) a d f p e (within (10 ^ k) d f l)

large : (k a d : ℕ) → 10 ^ k * d < a → settled (Some (10 ^ k)) a d ≡ Err TooLarge
large k a d l = rw (is_lt (10 ^ k * d) a l) refl

fine : (k a d : ℕ) → (10 ^ k * d < a → ⊥) → ((f : ℕ) → a ≡ f * d → ⊥) → settled (Some (10 ^ k)) a d ≡ Err TooFine
fine k a d l none = elim (cases_Bool (nat_lt (10 ^ k * d) a)) [
  | inl t ↦ absurd (l (grind (arith, t)))
  | inr f ↦ elim (cases_Bool (a % d == 0)) [
    | inl z ↦ let zero_is : a % d ≡ 0 = (Decides-eqb (a % d) 0).0 z in let split : a % d + a / d * d ≡ a = mod-add-div' a d in absurd (none (a / d) (omega (arith, split, zero_is)))
    | inr n ↦ rw (f, n) refl
  ]
]

pub told_is : (k : ℕ) (o : Option Number) (r : Result ℕ ValueFault) → AnswersUpTo k o r → r ≡ value_at (Some (10 ^ k)) o
told_is k None (Ok f) h = absurd h
told_is k None (Err NotNumber) h = refl
told_is k None (Err TooLarge) h = absurd h
told_is k None (Err TooFine) h = absurd h
told_is k (Some n) (Ok f) h = sym (whole k (n.mantissa * 10 ^ n.up) (10 ^ n.down) f (positive n.down) h.0 h.1)
told_is k (Some n) (Err NotNumber) h = absurd h
told_is k (Some n) (Err TooLarge) h = sym (large k (n.mantissa * 10 ^ n.up) (10 ^ n.down) h)
told_is k (Some n) (Err TooFine) h = sym (fine k (n.mantissa * 10 ^ n.up) (10 ^ n.down) h.0 h.1)

pub answer_is : (o : Option Number) (r : Result Femto ValueFault) → Answers o r → value_seen r ≡ value_at (length_limit read_limit) o
answer_is o (Ok f) h = told_is 18 o (Ok f.0) h
answer_is o (Err e) h = told_is 18 o (Err e) h
