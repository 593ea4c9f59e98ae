-- Quarter turns and database units, as tests of a real.
use Rattle.std.proofs.Common.{◌≡◌, ℕ, zero, suc, ◌+◌, ◌-◌, ◌*◌, ◌/◌, ◌%◌, ◌^◌, ◌<◌, ◌≤◌, Bool, true, false, cond, Option, Some, None, refl, sym, ap, ◌∙◌, arith, eq-eqb}
use Rattle.std.specs.Prelude.{nat_le, nat_lt, ◌==◌, ◌&&◌, not}
use Rattle.std.proofs.lemmas.Bool.{eqb-true, ne_eqb}
use Rattle.fixed_num.specs.Real.{Real, IsAngle, IsPicometres, is_unit, quarter_of, whole}

abbrev chain : Bool → Bool → Bool → Bool → Bool → Option ℕ
chain a b c d e = cond a (Some 0) (cond b (Some 1) (cond c (Some 2) (cond d (Some 3) (cond e (Some 4) None))))

turns_is : (w a : ℕ) → a ≤ 4 → w ≡ 90 * a * 16 ^ 78 → chain (w == 90 * 0 * 16 ^ 78) (w == 90 * 1 * 16 ^ 78) (w == 90 * 2 * 16 ^ 78) (w == 90 * 3 * 16 ^ 78) (w == 90 * 4 * 16 ^ 78) ≡ Some a
turns_is w zero le e = rw e refl
turns_is w (suc zero) le e = rw e refl
turns_is w (suc (suc zero)) le e = rw e refl
turns_is w (suc (suc (suc zero))) le e = rw e refl
turns_is w (suc (suc (suc (suc zero)))) le e = rw e refl
turns_is w (suc (suc (suc (suc (suc n))))) le e = absurd (omega arith)

turns_none : (w : ℕ) → ((a : ℕ) → a ≤ 4 → w ≡ 90 * a * 16 ^ 78 → ⊥) → chain (w == 90 * 0 * 16 ^ 78) (w == 90 * 1 * 16 ^ 78) (w == 90 * 2 * 16 ^ 78) (w == 90 * 3 * 16 ^ 78) (w == 90 * 4 * 16 ^ 78) ≡ None
turns_none w h =
    let a = ne_eqb w (90 * 0 * 16 ^ 78) (h 0 (omega arith)) in
    let b = ne_eqb w (90 * 1 * 16 ^ 78) (h 1 (omega arith)) in
    let c = ne_eqb w (90 * 2 * 16 ^ 78) (h 2 (omega arith)) in
    let d = ne_eqb w (90 * 3 * 16 ^ 78) (h 3 (omega arith)) in
    let e = ne_eqb w (90 * 4 * 16 ^ 78) (h 4 (omega arith)) in
    rw (a, b, c, d, e) refl

abbrev of_turns : Bool → Option ℕ → Option ℕ
of_turns b None = None
of_turns b (Some a) = Some (cond b (4 - a) a % 4)

-- a real that is so many quarter turns, and one that is none
pub quarter_is : (r : Real) (b : Bool) (a : ℕ) → r.negative ≡ b → a ≤ 4 → IsAngle r (90 * a) → Some (cond b (4 - a) a % 4) ≡ quarter_of r
quarter_is r b a sign le angle = sym (ap (λ (o : Option ℕ). of_turns r.negative o) (turns_is (whole r) a le angle) ∙ ap (λ (c : Bool). of_turns c (Some a)) sign)

pub quarter_none : (r : Real) → ((a : ℕ) → a ≤ 4 → IsAngle r (90 * a) → ⊥) → None ≡ quarter_of r
quarter_none r h = sym (ap (λ (o : Option ℕ). of_turns r.negative o) (turns_none (whole r) h))

both : (a b c : Bool) → not a ≡ true → b ≡ true → c ≡ true → (not a && b && c) ≡ true
both true b c h i j = absurd cc
both false true true h i j = refl
both false true false h i j = absurd cc
both false false c h i j = absurd cc

parts : (a b c : Bool) → (not a && b && c) ≡ true → (a ≡ false) × (b ≡ true) × (c ≡ true)
parts true b c h = absurd cc
parts false true c h = (refl, refl, h)
parts false false c h = absurd cc

le_true : (m n : ℕ) → m ≤ n → nat_le m n ≡ true
le_true m n h = grind (arith, h)

lt_true : (m n : ℕ) → m < n → nat_lt m n ≡ true
lt_true m n h = grind (arith, h)

true_le : (m n : ℕ) → nat_le m n ≡ true → m ≤ n
true_le m n h = grind (arith, h)

true_lt : (m n : ℕ) → nat_lt m n ≡ true → m < n
true_lt m n h = grind (arith, h)

pub is_picometres : (r : Real) (k : ℕ) → IsPicometres r k → is_unit r ≡ true
is_picometres r k p =
    let low = p.nearest.low in
    let high = p.nearest.high in
    both r.negative (nat_le (16 ^ 78) (2 * 10 ^ 12 * whole r)) (nat_lt (2 * 10 ^ 12 * whole r) (2000001 * 16 ^ 78))
    (ap (λ (b : Bool). not b) p.sign)
    (le_true _ _ (omega (arith, low, p.least)))
    (lt_true _ _ (omega (arith, high, p.most)))

-- the number that there is
pub unit_nearest : (r : Real) → is_unit r ≡ true → (k : ℕ) × IsPicometres r k
unit_nearest r e =
    let p = parts r.negative (nat_le (16 ^ 78) (2 * 10 ^ 12 * whole r)) (nat_lt (2 * 10 ^ 12 * whole r) (2000001 * 16 ^ 78)) e in
    let low = true_le _ _ p.1 in
    let high = true_lt _ _ p.2 in
    let w = whole r in
    let k = (2 * 10 ^ 12 * w + 16 ^ 78) / (2 * 16 ^ 78) in
    let near : ((2 * k - 1) * 16 ^ 78 ≤ 2 * w * 10 ^ 12) × (2 * w * 10 ^ 12 < (2 * k + 1) * 16 ^ 78) × (1 ≤ k) × (k ≤ 1000000) = (omega (arith, low, high), omega (arith, low, high), omega (arith, low, high), omega (arith, low, high)) in
    (k, record { sign = p.0; least = near.2; most = near.3; nearest = record { low = near.0; high = near.1 } })

none_false : (b : Bool) → (b ≡ true → ⊥) → false ≡ b
none_false true f = absurd (f refl)
none_false false f = refl

pub unit_none : (r : Real) → ((k : ℕ) → IsPicometres r k → ⊥) → false ≡ is_unit r
unit_none r h = none_false (is_unit r) (λ e. let u = unit_nearest r e in h u.0 u.1)

-- two tests of equality that come to one
pub same_test : (a b c d : ℕ) → (a ≡ b → c ≡ d) → (c ≡ d → a ≡ b) → (a == b) ≡ (c == d)
same_test a b c d f g = tests (a == b) (c == d) (λ h. eq-eqb c d (f (eqb-true a b h))) (λ h. eq-eqb a b (g (eqb-true c d h)))
  where
    tests : (x y : Bool) → (x ≡ true → y ≡ true) → (y ≡ true → x ≡ true) → x ≡ y
    tests true y f g = sym (f refl)
    tests false true f g = g refl
    tests false false f g = refl
