-- Multiples of steps, origins of elements.
use Rattle.std.proofs.Common.{◌≡◌, ◌⊎◌, inl, inr, ℕ, zero, suc, ◌-◌, ◌*◌, ◌<◌, ◌≤◌, ◌^◌, ℤ, pos, negsuc, ◌+ℤ◌, ◌-ℤ◌, ◌*ℤ◌, ◌≤ℤ◌, Bool, true, false, cond, int_lt, refl, sym, ◌∙◌, ap, subst, arith}
use Rattle.std.specs.Int.{int_min, int_max}
use Rattle.std.proofs.lemmas.Int.{ints}
use Rattle.std.proofs.Math.IntN.{pos-*ℤ-pos, pos-*ℤ-negsuc, neg_ℤ}
use Rattle.std.proofs.Math.Nat.{mul-le-mul_right}
use Rattle.geo_base.specs.Near.{IsWithin}
use Rattle.cell_graph.specs.declared.arrays.Interval.{Interval}
use Rattle.cell_graph.specs.Arrays.{IsReach, IsTooLong, origin, SomeOrigin, AreOrigins}

minus_pos : (k : ℕ) → neg_ℤ (pos k) ≡ pos 0 -ℤ pos k
minus_pos zero = refl
minus_pos (suc k) = omega (arith, ints)

none_times : (z : ℤ) → pos 0 *ℤ z ≡ pos 0
none_times (pos m) = pos-*ℤ-pos 0 m ∙ ap pos (let e : 0 * m ≡ 0 = omega arith in e)
none_times (negsuc m) = pos-*ℤ-negsuc 0 m ∙ ap (λ k. neg_ℤ (pos k)) (let e : 0 * suc m ≡ 0 = omega arith in e)

one_times : (z : ℤ) → pos 1 *ℤ z ≡ z
one_times (pos m) = pos-*ℤ-pos 1 m ∙ ap pos (let e : 1 * m ≡ m = omega arith in e)
one_times (negsuc m) = pos-*ℤ-negsuc 1 m ∙ ap (λ k. neg_ℤ (pos k)) (let e : 1 * suc m ≡ suc m = omega arith in e)

ends : (i n : ℕ) (s : ℤ) → i ≤ n → ((pos 0 ≤ℤ (pos i *ℤ s)) × ((pos i *ℤ s) ≤ℤ (pos n *ℤ s))) ⊎ (((pos n *ℤ s) ≤ℤ (pos i *ℤ s)) × ((pos i *ℤ s) ≤ℤ pos 0))
ends i n (pos m) h =
    let a = pos-*ℤ-pos i m in let b = pos-*ℤ-pos n m in let le = mul-le-mul_right m h in
    inl ((omega (arith, ints)), (omega (arith, ints)))
ends i n (negsuc m) h =
    let a = pos-*ℤ-negsuc i m ∙ minus_pos (i * suc m) in let b = pos-*ℤ-negsuc n m ∙ minus_pos (n * suc m) in let le = mul-le-mul_right (suc m) h in
    inr ((omega (arith, ints)), (omega (arith, ints)))

pub one_reach : (step : ℤ) (n : ℕ) (r : Interval) → n ≡ 1 → r.low ≡ pos 0 → r.high ≡ pos 0 → IsReach step n r
one_reach step n r one low high =
    let first : pos 0 *ℤ step ≡ pos 0 = none_times step in
    record {
      low = (0, (omega arith), low ∙ sym first);
      high = (0, (omega arith), high ∙ sym first);
      holds = λ k lt. (let z : k ≡ 0 = omega arith in
          let e : pos k *ℤ step ≡ pos 0 = ap (λ i. pos i *ℤ step) z ∙ first in ((omega (arith, ints)), (omega (arith, ints))));
      low_near = record { low = omega (arith, ints); high = omega (arith, ints) };
      high_near = record { low = omega (arith, ints); high = omega (arith, ints) };
    }

pub last_reach : (step : ℤ) (n : ℕ) (last : ℤ) (r : Interval) → 0 < n → last ≡ pos (n - 1) *ℤ step → IsWithin (2 ^ 53) last
    → (r.low ≡ last) ⊎ (r.low ≡ pos 0) → r.low ≤ℤ last → r.low ≤ℤ pos 0 → (r.high ≡ last) ⊎ (r.high ≡ pos 0) → last ≤ℤ r.high → pos 0 ≤ℤ r.high → IsReach step n r
last_reach step n last r some is near low l0 l1 high h0 h1 = record {
  low = attained r.low low;
  high = attained r.high high;
  holds = λ k lt. elim (ends k (n - 1) step (omega arith)) [
    | inl (a, b) ↦ ((omega (arith, ints)), (omega (arith, ints)))
    | inr (a, b) ↦ ((omega (arith, ints)), (omega (arith, ints)))
  ];
  low_near = close r.low low;
  high_near = close r.high high;
}
  where
    attained : (z : ℤ) → (z ≡ last) ⊎ (z ≡ pos 0) → (k : ℕ) × (k < n) × (z ≡ pos k *ℤ step)
    attained z (inl e) = (n - 1, (omega arith), e ∙ is)
    attained z (inr e) = (0, some, e ∙ sym (none_times step))

    close : (z : ℤ) → (z ≡ last) ⊎ (z ≡ pos 0) → IsWithin (2 ^ 53) z
    close z (inl e) = subst (IsWithin (2 ^ 53)) (sym e) near
    close z (inr e) = record { low = omega (arith, ints); high = omega (arith, ints) }

apart : (start p z step : ℤ) → z ≡ p → p ≡ start +ℤ step → IsWithin (2 ^ 36) start → IsWithin (2 ^ 36) z → IsWithin (2 ^ 37) step
apart start p z step e f a b = let al = a.low in let ah = a.high in let bl = b.low in let bh = b.high in record { low = omega (arith, ints); high = omega (arith, ints) }

pub far_column : (start cs rs : ℤ) (rows columns : ℕ) → 0 < rows → IsWithin (2 ^ 36) start → IsTooLong cs columns → SomeOrigin start cs rs rows columns (λ z. IsWithin (2 ^ 36) z → ⊥)
far_column start cs rs rows columns some near (more, long) =
    let a = one_times cs in let b = none_times rs in
    let e : origin start cs rs 0 1 ≡ start +ℤ cs = sum start (pos 1 *ℤ cs) (pos 0 *ℤ rs) cs a b in
    (0, 1, some, more, (λ h. long (apart start (start +ℤ cs) (origin start cs rs 0 1) cs e refl near h)))
  where
    sum : (s a b c : ℤ) → a ≡ c → b ≡ pos 0 → (s +ℤ a) +ℤ b ≡ s +ℤ c
    sum s a b c e f = omega (arith, ints)

pub far_row : (start cs rs : ℤ) (rows columns : ℕ) → 0 < columns → IsWithin (2 ^ 36) start → IsTooLong rs rows → SomeOrigin start cs rs rows columns (λ z. IsWithin (2 ^ 36) z → ⊥)
far_row start cs rs rows columns some near (more, long) =
    let a = none_times cs in let b = one_times rs in
    let e : origin start cs rs 1 0 ≡ start +ℤ rs = sum start (pos 0 *ℤ cs) (pos 1 *ℤ rs) rs a b in
    (1, 0, more, some, (λ h. long (apart start (start +ℤ rs) (origin start cs rs 1 0) rs e refl near h)))
  where
    sum : (s a b c : ℤ) → a ≡ pos 0 → b ≡ c → (s +ℤ a) +ℤ b ≡ s +ℤ c
    sum s a b c e f = omega (arith, ints)

pub low_origin : (start cs rs : ℤ) (rows columns : ℕ) (across along : Interval) (z : ℤ) → IsReach cs columns across → IsReach rs rows along → z ≡ (start +ℤ across.low) +ℤ along.low
    → SomeOrigin start cs rs rows columns (λ y. y ≡ z)
low_origin start cs rs rows columns across along z a b e =
    let c = a.low in let r = b.low in
    (r.0, c.0, r.1, c.1, sym (e ∙ ap (λ v. (start +ℤ v) +ℤ along.low) c.2 ∙ ap (λ v. (start +ℤ (pos c.0 *ℤ cs)) +ℤ v) r.2))

pub high_origin : (start cs rs : ℤ) (rows columns : ℕ) (across along : Interval) (z : ℤ) → IsReach cs columns across → IsReach rs rows along → z ≡ (start +ℤ across.high) +ℤ along.high
    → SomeOrigin start cs rs rows columns (λ y. y ≡ z)
high_origin start cs rs rows columns across along z a b e =
    let c = a.high in let r = b.high in
    (r.0, c.0, r.1, c.1, sym (e ∙ ap (λ v. (start +ℤ v) +ℤ along.high) c.2 ∙ ap (λ v. (start +ℤ (pos c.0 *ℤ cs)) +ℤ v) r.2))

pub far_origin : (start cs rs : ℤ) (rows columns : ℕ) (z : ℤ) → SomeOrigin start cs rs rows columns (λ y. y ≡ z) → (IsWithin (2 ^ 36) z → ⊥) → SomeOrigin start cs rs rows columns (λ y. IsWithin (2 ^ 36) y → ⊥)
far_origin start cs rs rows columns z (row, column, in_rows, in_columns, e) far = (row, column, in_rows, in_columns, (λ h. far (subst (IsWithin (2 ^ 36)) e h)))

pub all_origins : (start cs rs : ℤ) (rows columns : ℕ) (across along r : Interval) → IsReach cs columns across → IsReach rs rows along
    → r.low ≡ (start +ℤ across.low) +ℤ along.low → r.high ≡ (start +ℤ across.high) +ℤ along.high → IsWithin (2 ^ 36) r.low → IsWithin (2 ^ 36) r.high → AreOrigins start cs rs rows columns r
all_origins start cs rs rows columns across along r a b e f low high = record {
  low = low_origin start cs rs rows columns across along r.low a b e;
  high = high_origin start cs rs rows columns across along r.high a b f;
  holds = λ row column in_rows in_columns. between (pos column *ℤ cs) (pos row *ℤ rs) (a.holds column in_columns) (b.holds row in_rows);
  low_near = low;
  high_near = high;
}
  where
    between : (c r' : ℤ) → (across.low ≤ℤ c) × (c ≤ℤ across.high) → (along.low ≤ℤ r') × (r' ≤ℤ along.high) → (r.low ≤ℤ ((start +ℤ c) +ℤ r')) × (((start +ℤ c) +ℤ r') ≤ℤ r.high)
    between c r' (c0, c1) (r0, r1) = ((omega (arith, ints)), (omega (arith, ints)))

pick : (b : Bool) (x y : ℤ) → (cond b x y ≡ x) ⊎ (cond b x y ≡ y)
pick true x y = inl refl
pick false x y = inr refl

pub min_one : (x y z : ℤ) → z ≡ int_min x y → (z ≡ x) ⊎ (z ≡ y)
min_one x y z e = elim (pick (int_lt y x) y x) [ inl f ↦ inr (e ∙ f) | inr f ↦ inl (e ∙ f) ]

pub max_one : (x y z : ℤ) → z ≡ int_max x y → (z ≡ x) ⊎ (z ≡ y)
max_one x y z e = elim (pick (int_lt y x) x y) [ inl f ↦ inl (e ∙ f) | inr f ↦ inr (e ∙ f) ]

pub farther : (z : ℤ) → IsWithin (2 ^ 36) z → IsWithin (2 ^ 53) z
farther z h = let l = h.low in let g = h.high in record { low = omega (arith, ints); high = omega (arith, ints) }
