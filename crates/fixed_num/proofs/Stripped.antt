-- A digit behind a number whose last zeros are counted apart.
use Rattle.std.proofs.Common.{◌≡◌, ℕ, zero, suc, ◌+◌, ◌*◌, ◌^◌, ◌<◌, ◌≤◌, refl, sym, ap, subst, ◌∙◌, arith}
use Rattle.std.proofs.lemmas.Nat.{pow-add}
use Rattle.std.proofs.Math.Nat.{mul-le-mul_right, pow-suc}
use Rattle.fixed_num.specs.Scan.{IsStripped}

pub ten_positive : (k : ℕ) → 1 ≤ 10 ^ k
ten_positive zero = omega arith
ten_positive (suc k) = omega (arith, pow-suc 10 k, ten_positive k)

ten_suc : (k : ℕ) → 10 ^ (k + 1) ≡ 10 ^ k * 10
ten_suc k = pow-add 10 k 1

none_yet : (count value zeros m : ℕ) → count ≡ 0 → IsStripped count value zeros m → (m ≡ 0) × (zeros ≡ 0)
none_yet count value zeros m e h =
    let one : 10 ^ count ≡ 1 = ap (λ (k : ℕ). 10 ^ k) e in
    let s : h.significant ≡ 0 = omega (arith, one, h.high) in
    (sym h.number ∙ ap (λ (k : ℕ). k * 10 ^ zeros) s ∙ omega arith, h.none e)

pub front_zero : (count value zeros digit m : ℕ) → digit ≡ 0 → count ≡ 0 → IsStripped count value zeros m → IsStripped count value zeros (m * 10 + digit)
front_zero count value zeros digit m d e h =
    let z = none_yet count value zeros m e h in
    subst (IsStripped count value zeros) (omega (arith, z.0, d)) h

pub more_zero : (count value zeros digit m : ℕ) → digit ≡ 0 → (count ≡ 0 → ⊥) → IsStripped count value zeros m → IsStripped count value (zeros + 1) (m * 10 + digit)
more_zero count value zeros digit m d e h = record {
  significant = h.significant;
  number = omega (arith, h.number, ap (λ (k : ℕ). h.significant * k) (ten_suc zeros), d);
  none = λ z. absurd (e z);
  last = h.last;
  low = h.low;
  high = h.high;
  small = h.small;
}

-- room for one digit more
pub grown : (count zeros sig digit : ℕ) → sig < 10 ^ count → digit < 10 → sig * 10 ^ (zeros + 1) + digit < 10 ^ (count + zeros + 1)
grown count zeros sig digit high d =
    let up : sig + 1 ≤ 10 ^ count = omega arith in
    let wide = mul-le-mul_right (10 ^ (zeros + 1)) up in
    let e : 10 ^ (count + zeros + 1) ≡ 10 ^ count * 10 ^ (zeros + 1) = let s : count + zeros + 1 ≡ count + (zeros + 1) = omega arith in ap (λ (k : ℕ). 10 ^ k) s ∙ pow-add 10 count (zeros + 1) in
    omega (arith, wide, e, ten_suc zeros, ten_positive zeros)

pub more_digit : (count value zeros digit v m : ℕ) → 0 < digit → digit < 10 → (count + zeros + 1 ≤ 31 → v ≡ value * 10 ^ (zeros + 1) + digit)
    → IsStripped count value zeros m → IsStripped (count + zeros + 1) v 0 (m * 10 + digit)
more_digit count value zeros digit v m some d is h =
    let tens : h.significant * 10 ^ (zeros + 1) ≡ m * 10 = omega (arith, h.number, ap (λ (k : ℕ). h.significant * k) (ten_suc zeros)) in
    record {
      significant = m * 10 + digit;
      number = omega arith;
      none = λ z. absurd (omega (arith, z));
      last = λ _. omega arith;
      low = λ _. at_least count value zeros digit m some h;
      high = omega (arith, grown count zeros h.significant digit h.high d, tens);
      small = λ few. let e : value ≡ h.significant = h.small (omega (arith, few)) in is few ∙ omega (arith, ap (λ (k : ℕ). k * 10 ^ (zeros + 1)) e, tens);
    }
  where
    at_least : (count value zeros digit m : ℕ) → 0 < digit → IsStripped count value zeros m → 10 ^ (count + zeros + 1) ≤ 10 * (m * 10 + digit)
    at_least zero value zeros digit m some h =
        let z = none_yet zero value zeros m refl h in
        let e : 10 ^ (zero + zeros + 1) ≡ 10 = ap (λ (k : ℕ). 10 ^ (zero + k + 1)) z.1 in
        omega (arith, e)
    at_least (suc count) value zeros digit m some h =
        let low : 10 ^ suc count ≤ 10 * h.significant = h.low (omega arith) in
        let wide = mul-le-mul_right (10 ^ (zeros + 1)) low in
        let e : 10 ^ (suc count + zeros + 1) ≡ 10 ^ suc count * 10 ^ (zeros + 1) = let s : suc count + zeros + 1 ≡ suc count + (zeros + 1) = omega arith in ap (λ (k : ℕ). 10 ^ k) s ∙ pow-add 10 (suc count) (zeros + 1) in
        omega (arith, wide, e, h.number, ap (λ (k : ℕ). h.significant * k) (ten_suc zeros))
