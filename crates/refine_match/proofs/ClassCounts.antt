-- Unequal numbers of devices of a kind and class are unequal numbers of devices of some of its sizes.
use Rattle.std.proofs.Common.{◌≡◌, ◌≢◌, ◌⊎◌, inl, inr, ℕ, ◌+◌, ◌&&◌, Bool, true, false, cond, bytes_eq, List, [], ◌∷◌, refl, sym, ◌∙◌, ap, ap₂, arith}
use Rattle.std.specs.List.{count_by}
use Rattle.std.proofs.lemmas.Bool.{and_from, and_parts, cases_Bool}
use Rattle.std.proofs.lemmas.Slice.Eq.{bytes_eq-Decides}
use Rattle.plain_netlist.specs.declared.kinds.DeviceKind.{DeviceKind}
use Rattle.plain_netlist.specs.Kinds.{same_device_kind}
use Rattle.plain_netlist.specs.Netlist.{DeviceRow}
use Rattle.round_laws.proofs.Agree.{count-cons}
use Rattle.match_laws.specs.Circuits.{Pair}
use Rattle.refine_match.specs.Matching.{HaveUnevenClass, HaveUnevenDevices, has_class, is_of}

one : (f : DeviceRow → Bool) (y : DeviceRow) → f y ≡ true → cond {A = ℕ} (f y) 1 0 ≡ 1
one f y e = ap (λ (b : Bool). cond {A = ℕ} b 1 0) e

none : (f : DeviceRow → Bool) (y : DeviceRow) → f y ≡ false → cond {A = ℕ} (f y) 1 0 ≡ 0
none f y e = ap (λ (b : Bool). cond {A = ℕ} b 1 0) e

-- a device of the list that the test takes, and the others
record IsTaken (test : DeviceRow → Bool) (ys : List DeviceRow) : Type 0 where
  pub device : DeviceRow
  pub passes : test device ≡ true
  pub others : List DeviceRow
  pub counts : (f : DeviceRow → Bool) → count_by f ys ≡ cond (f device) 1 0 + count_by f others

take_one : (test : DeviceRow → Bool) (ys : List DeviceRow) → IsTaken test ys ⊎ (count_by test ys ≡ 0)
take_one test [] = inr refl
take_one test (y ∷ ys) = elim (cases_Bool (test y)) [
  | inl is ↦ inl (record { device = y; passes = is; others = ys; counts = λ f. count-cons f y ys })
  | inr not ↦ elim (take_one test ys) [
    | inl h ↦ inl (record {
      device = h.device;
      passes = h.passes;
      others = y ∷ h.others;
      counts = λ f. let a = count-cons f y ys in let b = count-cons f y h.others in let c = h.counts f in omega (arith, a, b, c);
    })
    | inr empty ↦ inr (let a = count-cons test y ys in let b = none test y not in omega (arith, a, b, empty))
  ]
]

-- it is of its own sizes
of_own : (kind : DeviceKind) (class : List ℕ) (y : DeviceRow) → has_class kind class y ≡ true → is_of kind class y.sizes y ≡ true
of_own kind class y e =
    let s = and_parts (same_device_kind kind y.kind) (bytes_eq class y.class) e in
    and_from _ _ s.0 (and_from _ _ s.1 ((bytes_eq-Decides y.sizes y.sizes).1 refl))

false_longer : (a b c : Bool) → (a && b) ≡ false → (a && (b && c)) ≡ false
false_longer true b c e = ap (λ (t : Bool). t && c) e
false_longer false b c e = refl

-- a device of another class is of none of its sizes
of_none : (kind : DeviceKind) (class sizes : List ℕ) (y : DeviceRow) → has_class kind class y ≡ false → is_of kind class sizes y ≡ false
of_none kind class sizes y e = false_longer (same_device_kind kind y.kind) (bytes_eq class y.class) (bytes_eq sizes y.sizes) e

-- two devices of one class that have the same sizes count alike
of_both : (kind : DeviceKind) (class sizes : List ℕ) (x y : DeviceRow) → has_class kind class x ≡ true → is_of kind class x.sizes y ≡ true → is_of kind class sizes x ≡ is_of kind class sizes y
of_both kind class sizes x y e h =
    let a = and_parts (same_device_kind kind x.kind) (bytes_eq class x.class) e in
    let b = and_parts (same_device_kind kind y.kind) (bytes_eq class y.class && bytes_eq x.sizes y.sizes) h in
    let c = and_parts (bytes_eq class y.class) (bytes_eq x.sizes y.sizes) b.1 in
    ap₂ (λ (s t : Bool). s && t) (a.0 ∙ sym b.0)
    (ap₂ (λ (s t : Bool). s && t) (a.1 ∙ sym c.0) (ap (bytes_eq sizes) ((bytes_eq-Decides x.sizes y.sizes).0 c.1)))

has_kept : (kind : DeviceKind) (class sizes : List ℕ) (y : DeviceRow) → is_of kind class sizes y ≡ true → has_class kind class y ≡ true
has_kept kind class sizes y h =
    let b = and_parts (same_device_kind kind y.kind) (bytes_eq class y.class && bytes_eq sizes y.sizes) h in
    and_from _ _ b.0 (and_parts (bytes_eq class y.class) (bytes_eq sizes y.sizes) b.1).0

uneven_sizes : (kind : DeviceKind) (class : List ℕ) (xs ys : List DeviceRow) → (count_by (has_class kind class) xs ≢ count_by (has_class kind class) ys)
    → (sizes : List ℕ) × (count_by (is_of kind class sizes) xs ≢ count_by (is_of kind class sizes) ys)
uneven_sizes kind class [] ys differ = elim (take_one (has_class kind class) ys) [
  | inl h ↦ (
    h.device.sizes,
    λ e.
        let f = is_of kind class h.device.sizes in
        let a = h.counts f in
        let b = one f h.device (of_own kind class h.device h.passes) in
        let c : 0 ≡ count_by f ys = e in
        omega (arith, a, b, c),
  )
  | inr empty ↦ absurd (differ (sym empty))
]
uneven_sizes kind class (x ∷ xs) ys differ = elim (cases_Bool (has_class kind class x)) [
  | inr not ↦
      let a = count-cons (has_class kind class) x xs in
      let b = none (has_class kind class) x not in
      let rest = uneven_sizes kind class xs ys (λ e. differ (omega (arith, a, b, e))) in (
        rest.0,
        λ e.
            let f = is_of kind class rest.0 in
            let c = count-cons f x xs in
            let d = none f x (of_none kind class rest.0 x not) in
            rest.1 (omega (arith, c, d, e)),
      )
  | inl is ↦ elim (take_one (is_of kind class x.sizes) ys) [
    | inl h ↦
        let a = count-cons (has_class kind class) x xs in
        let b = h.counts (has_class kind class) in
        let p = one (has_class kind class) x is in
        let q = one (has_class kind class) h.device (has_kept kind class x.sizes h.device h.passes) in
        let rest = uneven_sizes kind class xs h.others (λ e. differ (omega (arith, a, b, p, q, e))) in (
          rest.0,
          λ e.
              let f = is_of kind class rest.0 in
              let c = count-cons f x xs in
              let d = h.counts f in
              let s = ap (λ (b : Bool). cond {A = ℕ} b 1 0) (of_both kind class rest.0 x h.device is h.passes) in
              rest.1 (omega (arith, c, d, s, e)),
        )
    | inr empty ↦ (
      x.sizes,
      λ e.
          let f = is_of kind class x.sizes in
          let a = count-cons f x xs in
          let b = one f x (of_own kind class x is) in
          omega (arith, a, b, empty, e),
    )
  ]
]

pub uneven_class : (p : Pair) → HaveUnevenClass p → HaveUnevenDevices p
uneven_class p h = let u = uneven_sizes h.0 h.1 p.left.devices p.right.devices h.2 in (h.0, h.1, u.0, u.1)
