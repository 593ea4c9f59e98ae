-- Whether digits with a scale are a whole number, and whether they are above 10 ^ k.
use Rattle.std.proofs.Common.{◌≡◌, inl, inr, ℕ, ◌+◌, ◌-◌, ◌*◌, ◌^◌, ◌%◌, ◌<◌, ◌≤◌, refl, sym, ap, subst, ◌∙◌, arith}
use Rattle.std.proofs.lemmas.Nat.{pow-add}
use Rattle.std.proofs.lemmas.Bool.{cases_lt}
use Rattle.std.proofs.Math.Nat.{mul-le-mul_right, mul_assoc}
use Rattle.fixed_num.specs.Scan.{IsStripped, IsCapped, IsScale, Exact, FarUp, FarDown}
use Rattle.fixed_num.proofs.Reals.{same_factor}
use Rattle.fixed_num.proofs.Stripped.{ten_positive}

ten_split : (a b s : ℕ) → a + b ≡ s → 10 ^ a * 10 ^ b ≡ 10 ^ s
ten_split a b s e = sym (pow-add 10 a b) ∙ ap (λ (k : ℕ). 10 ^ k) e

pub ten_mono : (a b : ℕ) → a ≤ b → 10 ^ a ≤ 10 ^ b
ten_mono a b h =
    let s : (b - a) + a ≡ b = omega arith in
    omega (arith, ten_split (b - a) a b s, mul-le-mul_right (10 ^ a) (ten_positive (b - a)))

-- a number whose last digit isn't 0 is no multiple of ten
broken : (sig s d f : ℕ) → 0 < sig % 10 → s < d → sig * 10 ^ s ≡ f * 10 ^ d → ⊥
broken sig s d f last h e =
    let gap : (d - s - 1) + (1 + s) ≡ d = omega arith in
    let ten : 10 ^ (1 + s) ≡ 10 * 10 ^ s = pow-add 10 1 s in
    let wide : f * 10 ^ d ≡ (f * 10 ^ (d - s - 1) * 10) * 10 ^ s =
    omega (arith, ap (λ (k : ℕ). f * k) (sym (ten_split (d - s - 1) (1 + s) d gap)), ap (λ (k : ℕ). f * (10 ^ (d - s - 1) * k)) ten) in
    let same : sig ≡ f * 10 ^ (d - s - 1) * 10 = same_factor sig (f * 10 ^ (d - s - 1) * 10) (10 ^ s) (ten_positive s) (e ∙ wide) in
    absurd (omega (arith, same))

tenfold : (k d : ℕ) → 10 ^ ((1 + k) + d) ≡ 10 * (10 ^ k * 10 ^ d)
tenfold k d =
    let s : (1 + k) + d ≡ 1 + (k + d) = omega arith in
    ap (λ (j : ℕ). 10 ^ j) s ∙ pow-add 10 1 (k + d) ∙ ap (λ (x : ℕ). 10 * x) (pow-add 10 k d)

hundredfold : (k d : ℕ) → 10 ^ ((2 + k) + d) ≡ 100 * (10 ^ k * 10 ^ d)
hundredfold k d =
    let s : (2 + k) + d ≡ 2 + (k + d) = omega arith in
    ap (λ (j : ℕ). 10 ^ j) s ∙ pow-add 10 2 (k + d) ∙ ap (λ (x : ℕ). 100 * x) (pow-add 10 k d)

positive_both : (k d : ℕ) → 1 ≤ 10 ^ k * 10 ^ d
positive_both k d = omega (arith, pow-add 10 k d, ten_positive (k + d))

small : (k sig n s d : ℕ) → sig < 10 ^ n → n + s < d + (k + 1) → 10 ^ k * 10 ^ d < sig * 10 ^ s → ⊥
small k sig n s d high h above =
    let le : sig ≤ 10 ^ n = omega arith in
    let room : n + s ≤ k + d = omega arith in
    absurd (omega (arith, mul-le-mul_right (10 ^ s) le, ten_split n s (n + s) refl, ten_mono (n + s) (k + d) room, pow-add 10 k d))

-- ten times the number reaches the power that its count of digits shows
reach : (sig n s k : ℕ) → 10 ^ n ≤ 10 * sig → k ≤ n + s → 10 ^ k ≤ 10 * (sig * 10 ^ s)
reach sig n s k low h =
    omega (arith, ten_mono k (n + s) h, ten_split n s (n + s) refl, mul-le-mul_right (10 ^ s) low)

large_fraction : (k sig n s d : ℕ) → 0 < sig % 10 → 10 ^ n ≤ 10 * sig → s < d → d + (k + 1) ≤ n + s → 10 ^ k * 10 ^ d < sig * 10 ^ s
large_fraction k sig n s d last low lt h =
    let room : (1 + k) + d ≤ n + s = omega arith in
    let up = reach sig n s ((1 + k) + d) low room in
    let ten : 10 ^ ((1 + k) + d) ≡ 10 * (10 ^ k * 10 ^ d) = tenfold k d in
    elim (cases_lt (10 ^ k * 10 ^ d) (sig * 10 ^ s)) [
      | inl above ↦ above
      | inr under ↦
          let e : sig * 10 ^ s ≡ 10 ^ k * 10 ^ d = omega (arith, up, under, ten) in
          absurd (broken sig s d (10 ^ k) last lt e)
    ]

large_whole : (k sig n s d : ℕ) → 10 ^ n ≤ 10 * sig → d ≤ s → k + 1 < n + (s - d) → 10 ^ k * 10 ^ d < sig * 10 ^ s
large_whole k sig n s d low le h =
    let room : (2 + k) + d ≤ n + s = omega arith in
    let ten : 10 ^ ((2 + k) + d) ≡ 100 * (10 ^ k * 10 ^ d) = hundredfold k d in
    omega (arith, reach sig n s ((2 + k) + d) low room, ten, positive_both k d)

-- the number with its zeros joined to the scale
joined : (count value tail m u : ℕ) → (h : IsStripped count value tail m) → m * 10 ^ u ≡ h.significant * 10 ^ (u + tail)
joined count value tail m u h =
    ap (λ (k : ℕ). k * 10 ^ u) (sym h.number)
    ∙ mul_assoc h.significant (10 ^ tail) (10 ^ u)
    ∙ ap (λ (k : ℕ). h.significant * k) (let s : tail + u ≡ u + tail = omega arith in ten_split tail u (u + tail) s)

fine_scale : (k count tail up down u d : ℕ) → IsScale up down u d → count + tail < 2 ^ 70 → up + tail < down → count + (up + tail) < down + (k + 1)
    → (u + tail < d) × (count + (u + tail) < d + (k + 1))
fine_scale k count tail up down u d (Exact e f) room lt few = (omega arith, omega arith)
fine_scale k count tail up down u d (FarUp a b e f) room lt few = absurd (omega arith)
fine_scale k count tail up down u d (FarDown a b e f) room lt few = (omega arith, omega arith)

coarse_scale : (k count tail up down u d : ℕ) → IsScale up down u d → count + tail < 2 ^ 70 → up + tail < down → down + (k + 1) ≤ count + (up + tail)
    → (u + tail < d) × (d + (k + 1) ≤ count + (u + tail))
coarse_scale k count tail up down u d (Exact e f) room lt many = (omega arith, omega arith)
coarse_scale k count tail up down u d (FarUp a b e f) room lt many = absurd (omega arith)
coarse_scale k count tail up down u d (FarDown a b e f) room lt many = absurd (omega arith)

long_scale : (k count tail up down u d : ℕ) → IsScale up down u d → count + tail < 2 ^ 70 → down ≤ up + tail → k + 1 < count + (up + tail - down) → k ≤ 30
    → (d ≤ u + tail) × (k + 1 < count + (u + tail - d))
long_scale k count tail up down u d (Exact e f) room le many most = (omega arith, omega arith)
long_scale k count tail up down u d (FarUp a b e f) room le many most = (omega arith, omega arith)
long_scale k count tail up down u d (FarDown a b e f) room le many most = absurd (omega arith)

near_scale : (k count tail up down u d : ℕ) → IsScale up down u d → count + tail < 2 ^ 70 → down ≤ up + tail → count + (up + tail - down) ≤ k + 1 → k ≤ 30 → (up ≡ u) × (down ≡ d)
near_scale k count tail up down u d (Exact e f) room le few most = (e, f)
near_scale k count tail up down u d (FarUp a b e f) room le few most = absurd (omega arith)
near_scale k count tail up down u d (FarDown a b e f) room le few most = absurd (omega arith)

pub too_fine : (k count value tail up down m u d : ℕ) → 0 < count → count + tail < 2 ^ 70 → up + tail < down → count + (up + tail) < down + (k + 1)
    → IsStripped count value tail m → IsScale up down u d → (10 ^ k * 10 ^ d < m * 10 ^ u → ⊥) × ((f : ℕ) → m * 10 ^ u ≡ f * 10 ^ d → ⊥)
too_fine k count value tail up down m u d some room lt few h scale =
    let s = fine_scale k count tail up down u d scale room lt few in
    let e = joined count value tail m u h in (
      (λ above. small k h.significant count (u + tail) d h.high s.1 (subst (λ (x : ℕ). 10 ^ k * 10 ^ d < x) e above)),
      (λ f same. broken h.significant (u + tail) d f (h.last some) s.0 (sym e ∙ same)),
    )

pub large_by_fraction : (k count value tail up down m u d : ℕ) → 0 < count → count + tail < 2 ^ 70 → up + tail < down → down + (k + 1) ≤ count + (up + tail)
    → IsStripped count value tail m → IsScale up down u d → 10 ^ k * 10 ^ d < m * 10 ^ u
large_by_fraction k count value tail up down m u d some room lt many h scale =
    let s = coarse_scale k count tail up down u d scale room lt many in
    subst (λ (x : ℕ). 10 ^ k * 10 ^ d < x) (sym (joined count value tail m u h)) (large_fraction k h.significant count (u + tail) d (h.last some) (h.low some) s.0 s.1)

pub large_by_length : (k count value tail up down m u d : ℕ) → 0 < count → count + tail < 2 ^ 70 → down ≤ up + tail → k + 1 < count + (up + tail - down) → k ≤ 30
    → IsStripped count value tail m → IsScale up down u d → 10 ^ k * 10 ^ d < m * 10 ^ u
large_by_length k count value tail up down m u d some room le many most h scale =
    let s = long_scale k count tail up down u d scale room le many most in
    subst (λ (x : ℕ). 10 ^ k * 10 ^ d < x) (sym (joined count value tail m u h)) (large_whole k h.significant count (u + tail) d (h.low some) s.0 s.1)

pub whole_worth : (k count value tail up down m u d v : ℕ) → count + tail < 2 ^ 70 → down ≤ up + tail → count + (up + tail - down) ≤ k + 1 → k ≤ 30
    → v ≡ value * 10 ^ (up + tail - down) → IsStripped count value tail m → IsScale up down u d → m * 10 ^ u ≡ v * 10 ^ d
whole_worth k count value tail up down m u d v room le few most is h scale =
    let s = near_scale k count tail up down u d scale room le few most in
    let same : value ≡ h.significant = h.small (omega arith) in
    let t : (up + tail - down) + d ≡ u + tail = omega (arith, s.0, s.1) in
    joined count value tail m u h
    ∙ ap (λ (x : ℕ). h.significant * x) (sym (ten_split (up + tail - down) d (u + tail) t))
    ∙ sym (mul_assoc h.significant (10 ^ (up + tail - down)) (10 ^ d))
    ∙ ap (λ (x : ℕ). x * 10 ^ (up + tail - down) * 10 ^ d) (sym same)
    ∙ ap (λ (x : ℕ). x * 10 ^ d) (sym is)

pub large_worth : (k v d x : ℕ) → 10 ^ k < v → x ≡ v * 10 ^ d → 10 ^ k * 10 ^ d < x
large_worth k v d x h e =
    let up : 10 ^ k + 1 ≤ v = omega arith in
    omega (arith, e, mul-le-mul_right (10 ^ d) up, ten_positive d)

pub scale_down : (up unit places p r : ℕ) → up ≡ unit → unit < 512 → IsCapped p r → IsScale up (places + r) unit (places + p)
scale_down up unit places p r e low h =
    elim (cases_lt r (2 ^ 80)) [
      | inl near ↦ Exact e (omega (arith, h.exact near))
      | inr far ↦ FarDown (omega arith) (omega (arith, h.far far)) e (omega arith)
    ]

pub scale_up : (up unit places p r : ℕ) → up ≡ unit → places < 2 ^ 64 → IsCapped p r → IsScale (up + r) places (unit + p) places
scale_up up unit places p r e low h =
    elim (cases_lt r (2 ^ 80)) [
      | inl near ↦ Exact (omega (arith, h.exact near)) refl
      | inr far ↦ FarUp (omega arith) (omega (arith, h.far far)) refl (omega arith)
    ]

-- so many tens fit 128 bits
pub tens_fit : (a : ℕ) → a ≤ 31 → 10 ^ a < 2 ^ 128
tens_fit a h = omega (arith, ten_mono a 31 h)

-- and so does a number of few digits
pub digits_fit : (value count tens p total : ℕ) → value < 10 ^ count → p ≡ 10 ^ tens → count + tens ≡ total → value * p < 10 ^ total
digits_fit value count tens p total below is sum =
    let up : value + 1 ≤ 10 ^ count = omega arith in
    let wide = mul-le-mul_right (10 ^ tens) up in
    let e : 10 ^ count * 10 ^ tens ≡ 10 ^ total = ten_split count tens total sum in
    let k : value * p ≡ value * 10 ^ tens = ap (λ (x : ℕ). value * x) is in
    omega (arith, wide, e, k, ten_positive tens)
