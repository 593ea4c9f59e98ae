-- A netlist has one text, as each size has one spelling.
use Rattle.std.proofs.Common.{◌≡◌, ◌⊎◌, inl, inr, ℕ, ◌+◌, ◌-◌, ◌*◌, ◌/◌, ◌%◌, ◌^◌, ◌<◌, ◌≤◌, true, List, [], ◌∷◌, ◌++◌, length, refl, sym, ap, ◌∙◌, arith}
use Rattle.std.specs.Prelude.{codes, decimal}
use Rattle.std.proofs.lemmas.Bool.{cases_lt, and_parts}
use Rattle.std.proofs.Math.Nat.{mul-le-mul_right, pow-suc}
use Rattle.std.specs.List.{list_all}
use Rattle.std.specs.Char.{is_ascii_digit, digit_value}
use Rattle.std.specs.Str.Parse.{digits_value, digits_value_after}
use Rattle.fixed_num.specs.Microns.{IsOver, IsPartOf, pointed}
use Rattle.fixed_num.proofs.Digits.{digit_bounds, digit_worth}
use Rattle.fixed_num.proofs.Stripped.{ten_positive}
use Rattle.plain_netlist.specs.Netlist.{Circuit, DeviceRow}
use Rattle.netlist_file.specs.Once.{OneTextLaw}
use Rattle.plain_netlist.specs.declared.kinds.DeviceKind.{DeviceKind}
use Rattle.plain_netlist.specs.declared.kinds.DeviceKind.TheVariants.{Mos4, ResistorWithBulk, Diode}
use Rattle.spice_text.specs.Cards.{first_size, second_size}
use Rattle.spice_text.specs.Written.{AreOneByOne, AreSizes, AreTexts, IsAreaText, IsCircuitText, IsDeviceText, IsLengthText, circuit_text, device_text}

-- ---- digits behind the point

value_shift : (n : ℕ) (ds : List ℕ) → digits_value_after 10 n ds ≡ n * 10 ^ length ds + digits_value 10 ds
value_shift n [] = omega arith
value_shift n (d ∷ ds) = omega (arith, value_shift (n * 10 + digit_value d) ds, value_shift (0 * 10 + digit_value d) ds, ap (λ (k : ℕ). n * k) (pow-suc 10 (length ds)))

-- the first digit and the rest
first_digit : (d : ℕ) (ds : List ℕ) → digits_value 10 (d ∷ ds) ≡ digit_value d * 10 ^ length ds + digits_value 10 ds
first_digit d ds = omega (arith, value_shift (0 * 10 + digit_value d) ds)

digit_low : (d : ℕ) → is_ascii_digit d ≡ true → digit_value d < 10
digit_low d h = let k = digit_bounds d h in let w = digit_worth d h in omega (arith, k.0, k.1, w)

digit_same : (d e : ℕ) → is_ascii_digit d ≡ true → is_ascii_digit e ≡ true → digit_value d ≡ digit_value e → d ≡ e
digit_same d e h g same =
    let x = digit_bounds d h in let y = digit_bounds e g in let v = digit_worth d h in let w = digit_worth e g in
    omega (arith, x.0, x.1, y.0, y.1, v, w, same)

value_low : (ds : List ℕ) → list_all is_ascii_digit ds ≡ true → digits_value 10 ds < 10 ^ length ds
value_low [] h = omega arith
value_low (d ∷ ds) h =
    let parts = and_parts (is_ascii_digit d) (list_all is_ascii_digit ds) h in
    let rest = value_low ds parts.1 in
    let low : digit_value d + 1 ≤ 10 = (let l = digit_low d parts.0 in omega (arith, l)) in
    let wide = mul-le-mul_right (10 ^ length ds) low in
    omega (arith, first_digit d ds, rest, wide, pow-suc 10 (length ds))

-- digits of no worth end in 0
ends_in_zero : (d : ℕ) (ds : List ℕ) → list_all is_ascii_digit (d ∷ ds) ≡ true → digits_value 10 (d ∷ ds) ≡ 0 → (front : List ℕ) × (d ∷ ds ≡ front ++ 48 ∷ [])
ends_in_zero d [] h e =
    let parts = and_parts (is_ascii_digit d) (list_all is_ascii_digit []) h in
    let k = digit_bounds d parts.0 in let w = digit_worth d parts.0 in
    let same : d ≡ 48 = omega (arith, k.0, w, e) in
    ([], ap (λ (x : ℕ). x ∷ []) same)
ends_in_zero d (c ∷ cs) h e =
    let parts = and_parts (is_ascii_digit d) (list_all is_ascii_digit (c ∷ cs)) h in
    let none : digits_value 10 (c ∷ cs) ≡ 0 = (let f = first_digit d (c ∷ cs) in omega (arith, f, e)) in
    let rest = ends_in_zero c cs parts.1 none in
    (d ∷ rest.0, ap (λ (xs : List ℕ). d ∷ xs) rest.1)

-- a first digit is the whole part of ten times the fraction
pub record IsPeeled (tens v d : ℕ) (ds : List ℕ) : Type 0 where
  pub low : digit_value d * 10 ^ tens ≤ v * 10
  pub high : v * 10 < digit_value d * 10 ^ tens + 10 ^ tens

peeled : (tens v d : ℕ) (ds : List ℕ) → IsPartOf tens v (d ∷ ds) → IsPeeled tens v d ds
peeled tens v d ds h = record { low = low (cases_lt (v * 10) (a * t)); high = high (cases_lt (v * 10) (a * t + t)) }
  where
    a : ℕ
    a = digit_value d

    t : ℕ
    t = 10 ^ tens

    p : ℕ
    p = 10 ^ length ds

    rest : ℕ
    rest = digits_value 10 ds

    worth : a * p * t + rest * t ≡ v * p * 10
    worth = omega (arith, h.worth, ap (λ (k : ℕ). k * t) (first_digit d ds), ap (λ (k : ℕ). v * k) (pow-suc 10 (length ds)))

    some : 1 ≤ p
    some = ten_positive (length ds)

    unit : 1 ≤ t
    unit = ten_positive tens

    less : rest < p
    less = value_low ds (and_parts (is_ascii_digit d) (list_all is_ascii_digit ds) h.digits).1

    low : (v * 10 < a * t) ⊎ (a * t ≤ v * 10) → a * t ≤ v * 10
    low (inr le) = le
    low (inl lt) =
        let up : v * 10 + 1 ≤ a * t = omega (arith, lt) in
        let wide = mul-le-mul_right p up in
        absurd (omega (arith, wide, worth, some))

    high : (v * 10 < a * t + t) ⊎ (a * t + t ≤ v * 10) → v * 10 < a * t + t
    high (inl lt) = lt
    high (inr le) =
        let wide = mul-le-mul_right p le in
        let fewer : rest + 1 ≤ p = omega (arith, less) in
        let scaled = mul-le-mul_right t fewer in
        absurd (omega (arith, wide, worth, scaled, unit))

-- and the rest is a fraction too
rest_of : (tens v r d : ℕ) (ds : List ℕ) → r + digit_value d * 10 ^ tens ≡ v * 10 → IsPartOf tens v (d ∷ ds) → IsPartOf tens r ds
rest_of tens v r d ds e h = record {
  digits = (and_parts (is_ascii_digit d) (list_all is_ascii_digit ds) h.digits).1;
  worth = omega (arith, h.worth, ap (λ (k : ℕ). k * 10 ^ tens) (first_digit d ds), ap (λ (k : ℕ). v * k) (pow-suc 10 (length ds)), ap (λ (k : ℕ). k * 10 ^ length ds) e);
  last = λ front same. h.last (d ∷ front) (ap (λ (xs : List ℕ). d ∷ xs) same);
}

-- what is nothing many times is nothing
nothing : (n t : ℕ) → 1 ≤ t → n * t ≡ 0 → n ≡ 0
nothing n t some e = by (cases_lt 0 n)
  where
    by : (0 < n) ⊎ (n ≤ 0) → n ≡ 0
    by (inr le) = omega (arith, le)
    by (inl lt) =
        let up : 1 ≤ n = omega (arith, lt) in
        let wide = mul-le-mul_right t up in
        absurd (omega (arith, wide, e, some))

none_left : (tens v d : ℕ) (ds : List ℕ) → IsPartOf tens v [] → IsPartOf tens v (d ∷ ds) → ⊥
none_left tens v d ds h g =
    let zero_v : v ≡ 0 = (let w = h.worth in omega (arith, w)) in
    let w : digits_value 10 (d ∷ ds) * 10 ^ tens ≡ 0 * 10 ^ length (d ∷ ds) = g.worth ∙ ap (λ (k : ℕ). k * 10 ^ length (d ∷ ds)) zero_v in
    let none : digits_value 10 (d ∷ ds) ≡ 0 = nothing (digits_value 10 (d ∷ ds)) (10 ^ tens) (ten_positive tens) (omega (arith, w)) in
    let z = ends_in_zero d ds g.digits none in
    g.last z.0 z.1

-- numbers between whose multiples there is no room for one more
at_most : (a b t v : ℕ) → a * t ≤ v → v < b * t + t → a ≤ b
at_most a b t v low high = by (cases_lt b a)
  where
    by : (b < a) ⊎ (a ≤ b) → a ≤ b
    by (inr le) = le
    by (inl lt) =
        let up : b + 1 ≤ a = omega (arith, lt) in
        let wide = mul-le-mul_right t up in
        absurd (omega (arith, wide, low, high))

one_fraction : (tens v : ℕ) (ds es : List ℕ) → IsPartOf tens v ds → IsPartOf tens v es → ds ≡ es
one_fraction tens v [] [] h g = refl
one_fraction tens v [] (e ∷ es) h g = absurd (none_left tens v e es h g)
one_fraction tens v (d ∷ ds) [] h g = absurd (none_left tens v d ds g h)
one_fraction tens v (d ∷ ds) (e ∷ es) h g =
    let x = peeled tens v d ds h in
    let y = peeled tens v e es g in
    let up = at_most (digit_value d) (digit_value e) (10 ^ tens) (v * 10) x.low y.high in
    let down = at_most (digit_value e) (digit_value d) (10 ^ tens) (v * 10) y.low x.high in
    let worth : digit_value d ≡ digit_value e = omega (arith, up, down) in
    let dd = (and_parts (is_ascii_digit d) (list_all is_ascii_digit ds) h.digits).0 in
    let ed = (and_parts (is_ascii_digit e) (list_all is_ascii_digit es) g.digits).0 in
    let first : d ≡ e = digit_same d e dd ed worth in
    let r : ℕ = v * 10 - digit_value d * 10 ^ tens in
    let here : r + digit_value d * 10 ^ tens ≡ v * 10 = (let a = x.low in omega (arith, a)) in
    let there : r + digit_value e * 10 ^ tens ≡ v * 10 = ap (λ (k : ℕ). r + k * 10 ^ tens) (sym worth) ∙ here in
    let rest = one_fraction tens r ds es (rest_of tens v r d ds here h) (rest_of tens v r e es there g) in
    ap (λ (z : ℕ). z ∷ ds) first ∙ ap (λ (zs : List ℕ). e ∷ zs) rest

one_over : (tens v : ℕ) (a b : List ℕ) → IsOver tens v a → IsOver tens v b → a ≡ b
one_over tens v a b h g =
    let same = one_fraction tens (v % 10 ^ tens) h.fraction g.fraction h.rest g.rest in
    h.spelled ∙ ap (λ (ds : List ℕ). decimal (v / 10 ^ tens) ++ pointed ds) same ∙ sym g.spelled

one_length : (v : ℕ) (a b : List ℕ) → IsLengthText v a → IsLengthText v b → a ≡ b
one_length v a b (m, h, e) (n, g, f) = e ∙ ap (λ (t : List ℕ). t ++ codes "U") (one_over 9 v m n h g) ∙ sym f

one_area : (v : ℕ) (a b : List ℕ) → IsAreaText v a → IsAreaText v b → a ≡ b
one_area v a b (m, h, e) (n, g, f) = e ∙ ap (λ (t : List ℕ). t ++ codes "P") (one_over 12 v m n h g) ∙ sym f

one_sizes : (kind : DeviceKind) (d : DeviceRow) (x y u v : List ℕ) → AreSizes kind d x y → AreSizes kind d u v → (x ≡ u) × (y ≡ v)
one_sizes Mos4 d x y u v h g = (one_length (first_size d) x u h.0 g.0, one_length (second_size d) y v h.1 g.1)
one_sizes ResistorWithBulk d x y u v h g = (one_length (first_size d) x u h.0 g.0, one_length (second_size d) y v h.1 g.1)
one_sizes Diode d x y u v h g = (one_area (second_size d) x u h.0 g.0, one_length (first_size d) y v h.1 g.1)

-- ---- lines

one_device : (nets : List (List ℕ)) (k : ℕ) (d : DeviceRow) (a b : List ℕ) → IsDeviceText nets k d a → IsDeviceText nets k d b → a ≡ b
one_device nets k d a b (x, y, sizes, e) (u, v, other, f) =
    let same = one_sizes d.kind d x y u v sizes other in
    e ∙ ap (λ (t : List ℕ). device_text nets k d t y) same.0 ∙ ap (λ (t : List ℕ). device_text nets k d u t) same.1 ∙ sym f

one_texts : {A : Type 0} (P : ℕ → A → List ℕ → Type 0) → ((k : ℕ) (x : A) (a b : List ℕ) → P k x a → P k x b → a ≡ b) → (k : ℕ) (xs : List A) (a b : List ℕ) → AreTexts P k xs a → AreTexts P k xs b → a ≡ b
one_texts P one k [] a b h g = h ∙ sym g
one_texts P one k (x ∷ xs) a b (s, is, t, rest, e) (u, other, v, more, f) =
    e ∙ ap (λ (z : List ℕ). z ++ t) (one k x s u is other) ∙ ap (λ (z : List ℕ). u ++ z) (one_texts P one (k + 1) xs t v rest more) ∙ sym f

one_by_one : {A : Type 0} (P : A → List ℕ → Type 0) → ((x : A) (a b : List ℕ) → P x a → P x b → a ≡ b) → (xs : List A) (a b : List ℕ) → AreOneByOne P xs a → AreOneByOne P xs b → a ≡ b
one_by_one P one [] a b h g = h ∙ sym g
one_by_one P one (x ∷ xs) a b (s, is, t, rest, e) (u, other, v, more, f) =
    e ∙ ap (λ (z : List ℕ). z ++ t) (one x s u is other) ∙ ap (λ (z : List ℕ). u ++ z) (one_by_one P one xs t v rest more) ∙ sym f

one_circuit : (cs : List Circuit) (c : Circuit) (a b : List ℕ) → IsCircuitText cs c a → IsCircuitText cs c b → a ≡ b
one_circuit cs c a b (s, is, e) (t, other, f) =
    e ∙ ap (circuit_text cs c) (one_texts (IsDeviceText c.nets) (one_device c.nets) 1 c.devices s t is other) ∙ sym f

pub one_text : OneTextLaw
one_text nl a b (s, is, e) (t, other, f) =
    e ∙ ap (λ (z : List ℕ). codes "* lvs netlist\n" ++ (z ++ codes ".END\n")) (one_by_one (IsCircuitText nl.circuits) (one_circuit nl.circuits) nl.circuits s t is other) ∙ sym f
