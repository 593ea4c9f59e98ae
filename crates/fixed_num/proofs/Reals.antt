-- Powers of 16 under a real's mantissa.
use Rattle.std.proofs.Common.{◌≡◌, ◌⊎◌, inl, inr, ℕ, zero, suc, ◌+◌, ◌-◌, ◌*◌, ◌^◌, ◌%◌, ◌/◌, ◌<◌, ◌≤◌, refl, sym, ap, ◌∙◌, arith}
use Rattle.std.proofs.lemmas.Nat.{pow-add, div-add-mod'}
use Rattle.std.proofs.Math.Nat.{mul-div_cancel, mul-le-mul_left, mul-le-mul_right, mod-eq_of_lt, mod-lt, pow-suc, mul_assoc, mul_comm, mul-mod_right}
use Rattle.std.proofs.Math.Pow.{pow-lt}
use Rattle.fixed_num.specs.Real.{IsNearest}

pub positive : (e : ℕ) → 0 < 16 ^ e
positive zero = omega arith
positive (suc e) = omega (arith, pow-suc 16 e, positive e)

split : (a b s : ℕ) → a + b ≡ s → 16 ^ a * 16 ^ b ≡ 16 ^ s
split a b s e = sym (pow-add 16 a b) ∙ ap (λ (k : ℕ). 16 ^ k) e

sixteen : (k : ℕ) → 2 ^ (4 * k) ≡ 16 ^ k
sixteen zero = refl
sixteen (suc k) =
    let e : 4 * suc k ≡ 4 * k + 4 = omega arith in
    ap (λ (j : ℕ). 2 ^ j) e ∙ pow-add 2 (4 * k) 4 ∙ ap (λ (j : ℕ). j * 16) (sixteen k) ∙ sym (pow-suc 16 k)

-- the power of two that the code shifts out
pub shifted : (e : ℕ) → 54 ≤ e → e ≤ 78 → 1 * 2 ^ (4 * (78 - e)) % 2 ^ 128 ≡ 16 ^ (78 - e)
shifted e low high =
    let small : 4 * (78 - e) < 128 = omega arith in
    let below : 2 ^ (4 * (78 - e)) < 2 ^ 128 = pow-lt small in
    let fits : 1 * 2 ^ (4 * (78 - e)) < 2 ^ 128 = omega (arith, below) in
    let plain : 1 * 2 ^ (4 * (78 - e)) ≡ 2 ^ (4 * (78 - e)) = omega arith in
    mod-eq_of_lt fits ∙ plain ∙ sixteen (78 - e)

pub divides : (e : ℕ) → e ≤ 78 → 16 ^ (78 - e) * 16 ^ e ≡ 16 ^ 78
divides e high = let s : (78 - e) + e ≡ 78 = omega arith in split (78 - e) e 78 s

pub below : (e : ℕ) → 54 ≤ e → e ≤ 78 → 16 ^ (78 - e) ≤ 2 ^ 96
below e low high =
    let s : (e - 54) + (78 - e) ≡ 24 = omega arith in
    omega (arith, split (e - 54) (78 - e) 24 s, mul-le-mul_right (16 ^ (78 - e)) (positive (e - 54)))

pub tiny : (m e : ℕ) → m < 2 ^ 56 → e < 54 → m * 16 ^ e < 16 ^ 67
tiny m e fits low =
    let s : (53 - e) + e ≡ 53 = omega arith in
    let p : 16 ^ e ≤ 16 ^ 53 = omega (arith, split (53 - e) e 53 s, mul-le-mul_right (16 ^ e) (positive (53 - e))) in
    omega (arith, mul-le-mul_left m p)

pub huge : (m e : ℕ) → 78 < e → m * 16 ^ e ≡ 16 * (m * 16 ^ (e - 79)) * 16 ^ 78
huge m e high =
    let s : (e - 79) + 79 ≡ e = omega arith in
    ap (λ (k : ℕ). m * k) (sym (split (e - 79) 79 e s)) ∙ omega arith

-- one factor is determined by the other
pub same_factor : (a b c : ℕ) → 0 < c → a * c ≡ b * c → a ≡ b
same_factor a b c h e = sym (mul-div_cancel a h) ∙ ap (λ (k : ℕ). k / c) e ∙ mul-div_cancel b h

-- a fraction m over d, whose common multiple is t, is whole exactly where d divides m
pub divided : (m c d t : ℕ) → d * c ≡ t → m % d ≡ 0 → m * c ≡ (m / d) * t
divided m c d t e h =
    let w : m ≡ (m / d) * d = omega (arith, div-add-mod' m d, h) in
    ap (λ (k : ℕ). k * c) w ∙ mul_assoc (m / d) d c ∙ ap (λ (k : ℕ). (m / d) * k) e

pub undivided : (m c d t v : ℕ) → 0 < c → d * c ≡ t → m * c ≡ v * t → m % d ≡ 0
undivided m c d t v some e same =
    let m_is : m ≡ v * d = same_factor m (v * d) c some (same ∙ ap (λ (k : ℕ). v * k) (sym e) ∙ sym (mul_assoc v d c)) in
    ap (λ (k : ℕ). k % d) (m_is ∙ mul_comm v d) ∙ mul-mod_right d v

-- division with half the divisor added is the nearest whole number
pub nearest : (m c d : ℕ) → 0 < d → 0 < c → d * c ≡ 16 ^ 78 → IsNearest (m * c) ((m * 2000000000000 + d) / (2 * d))
nearest m c d some pos e =
    let x : ℕ = m * 2000000000000 + d in
    let q : ℕ = x / (2 * d) in
    let two : 0 < 2 * d = omega arith in
    let low : q * (2 * d) ≤ x = omega (arith, div-add-mod' x (2 * d)) in
    let high : x + 1 ≤ q * (2 * d) + 2 * d = omega (arith, div-add-mod' x (2 * d), mod-lt x two) in
    let f : q * (d * c) ≡ q * 16 ^ 78 = ap (λ (k : ℕ). q * k) e in
    record {
      low = omega (arith, e, f, mul-le-mul_right c low);
      high = omega (arith, e, f, mul-le-mul_right c high);
    }

-- no two whole numbers are nearest
pub nearest_once : (w j k : ℕ) → IsNearest w j → IsNearest w k → j ≡ k
nearest_once w j k g h = omega arith

-- what is far from 1 is no angle but 0
pub no_angle : (w a : ℕ) → 0 < w → a ≤ 4 → ((w < 16 ^ 67) ⊎ ((y : ℕ) × (w ≡ 16 * y * 16 ^ 78))) → w ≡ 90 * a * 16 ^ 78 → ⊥
no_angle w a some le (inl low) h = absurd (omega arith)
no_angle w a some le (inr high) h =
    let e : 16 * high.0 ≡ 90 * a = omega (arith, high.1) in
    absurd (omega arith)
