-- A text that is spelled as a value is read as just that value.
use Rattle.std.proofs.Common.{◌≡◌, ℕ, zero, suc, ◌+◌, ◌<◌, Bool, true, false, List, [], ◌∷◌, ◌++◌, length, take, drop, map, Option, Some, None, refl, sym, ap, subst, ◌∙◌, arith, eq-eqb}
use Rattle.std.proofs.lemmas.Option.{same_Some}
use Rattle.std.specs.Prelude.{◌==◌, ◌&&◌, if◌then◌else◌, cond}
use Rattle.std.proofs.lemmas.Bool.{eqb-true, and_parts}
use Rattle.std.proofs.lemmas.Bool.Decides.{nat_tests}
use Rattle.std.proofs.lemmas.List.{take-append-drop}
use Rattle.std.specs.List.{list_all, prefix_len}
use Rattle.std.specs.Char.{is_ascii_digit, is_ascii_alphabetic, to_ascii_lowercase}
use Rattle.fixed_num.specs.Values.{Number, Sign, Unsigned, Plus, Minus, Exponent, fraction_text, sign_text, exponent_text, text_of, places_of, AreDigits, IsExponent, suffix_of, is_minus, number_in, IsNumber}
use Rattle.fixed_num.specs.Scan.{digits_of, after_digits, fraction_of, after_fraction, Power, signed_power, has_digits, power_of, unit_of, number_at, with_unit, with_power, with_digits, number_of}
use Rattle.fixed_num.proofs.Digits.{digit_bounds, front_digits}

abbrev NoDigit : List ℕ → Type 0
NoDigit [] = Unit {0}
NoDigit (b ∷ bs) = is_ascii_digit b ≡ false

abbrev NoPoint : List ℕ → Type 0
NoPoint [] = Unit {0}
NoPoint (b ∷ bs) = (b == 46) ≡ false

-- the digits at the head of digits and what isn't one
taken : (t : Bool) (d : ℕ) (xs : List ℕ) (k : ℕ) → t ≡ true → (take (cond t (1 + k) 0) (d ∷ xs) ≡ d ∷ take k xs) × (drop (cond t (1 + k) 0) (d ∷ xs) ≡ drop k xs)
taken false d xs k e = absurd (let bad : false ≡ true = e in cc)
taken true d xs k e =
    let s : 1 + k ≡ suc k = omega arith in
    (ap (λ (j : ℕ). take j (d ∷ xs)) s, ap (λ (j : ℕ). drop j (d ∷ xs)) s)

front : (ds rest : List ℕ) → AreDigits ds → NoDigit rest → (digits_of (ds ++ rest) ≡ ds) × (after_digits (ds ++ rest) ≡ rest)
front [] [] all none = (refl, refl)
front [] (b ∷ bs) all none = (
  ap (λ (t : Bool). take (cond t (1 + prefix_len is_ascii_digit bs) 0) (b ∷ bs)) none,
  ap (λ (t : Bool). drop (cond t (1 + prefix_len is_ascii_digit bs) 0) (b ∷ bs)) none,
)
front (d ∷ ds) rest all none =
    let h = and_parts (is_ascii_digit d) (list_all is_ascii_digit ds) all in
    let more = front ds rest h.1 none in
    let t = taken (is_ascii_digit d) d (ds ++ rest) (prefix_len is_ascii_digit (ds ++ rest)) h.0 in
    (t.0 ∙ ap (λ (xs : List ℕ). d ∷ xs) more.0, t.1 ∙ more.1)

letter : (b : ℕ) → is_ascii_alphabetic b ≡ true → (is_ascii_digit b ≡ false) × ((b == 46) ≡ false)
letter b h = (grind (arith, nat_tests), grind (arith, nat_tests))

mark : (b : ℕ) → to_ascii_lowercase b ≡ 101 → (is_ascii_digit b ≡ false) × ((b == 46) ≡ false)
mark b h = (grind (arith, nat_tests), grind (arith, nat_tests))

tail_first : (x : Option Exponent) (letters : List ℕ) → IsExponent x → list_all is_ascii_alphabetic letters ≡ true
    → NoDigit (exponent_text x ++ letters) × NoPoint (exponent_text x ++ letters)
tail_first None [] e all = (tt, tt)
tail_first None (b ∷ bs) e all = letter b (and_parts (is_ascii_alphabetic b) (list_all is_ascii_alphabetic bs) all).0
tail_first (Some x) letters e all = mark x.mark e.0

fraction_front : (f : Option (List ℕ)) (rest : List ℕ) → AreDigits (places_of f) → NoDigit rest → NoPoint rest
    → (fraction_of (fraction_text f ++ rest) ≡ places_of f) × (after_fraction (fraction_text f ++ rest) ≡ rest) × NoDigit (fraction_text f ++ rest)
fraction_front None [] all digit point = (refl, refl, tt)
fraction_front None (b ∷ bs) all digit point = (
  ap (λ (t : Bool). if t then digits_of bs else []) point,
  ap (λ (t : Bool). if t then after_digits bs else b ∷ bs) point,
  digit,
)
fraction_front (Some ds) rest all digit point = let h = front ds rest all digit in (h.0, h.1, refl)

abbrev power_found : Option Exponent → List ℕ → Power
power_found None letters = record { minus = false; digits = []; rest = letters }
power_found (Some x) letters = record { minus = is_minus x.sign; digits = x.digits; rest = letters }

no_e : (t : Bool) (b : ℕ) (bs : List ℕ) (s : ℕ) → (b == 101) ≡ t → suffix_of (b ∷ bs) ≡ Some s → t ≡ false
no_e false b bs s e h = refl
no_e true b bs s e h =
    let is : b ≡ 101 = eqb-true _ _ e in
    let bad : None ≡ Some s = subst (λ (k : ℕ). suffix_of (k ∷ bs) ≡ Some s) is h in
    absurd (none_some s bad)
  where
    none_some : (s : ℕ) → None ≡ Some s → ⊥
    none_some s e = cc

power_is : (m : Bool) (a b ds rest : List ℕ) → a ≡ ds → b ≡ rest
    → (let p : Power = record { minus = m; digits = a; rest = b } in p) ≡ (let p : Power = record { minus = m; digits = ds; rest = rest } in p)
power_is m a b ds rest e f =
    ap (λ (x : List ℕ). let p : Power = record { minus = m; digits = x; rest = b } in p) e
    ∙ ap (λ (x : List ℕ). let p : Power = record { minus = m; digits = ds; rest = x } in p) f

no_sign : (d : ℕ) → is_ascii_digit d ≡ true → ((d == 43) ≡ false) × ((d == 45) ≡ false)
no_sign d h = let k = digit_bounds d h in (grind (arith, nat_tests), grind (arith, nat_tests))

signed_front : (sign : Sign) (ds letters : List ℕ) → AreDigits ds → 0 < length ds → NoDigit letters
    → signed_power ((sign_text sign ++ ds) ++ letters) ≡ (let p : Power = record { minus = is_minus sign; digits = ds; rest = letters } in p)
signed_front Plus ds letters all some none = let h = front ds letters all none in power_is false _ _ ds letters h.0 h.1
signed_front Minus ds letters all some none = let h = front ds letters all none in power_is true _ _ ds letters h.0 h.1
signed_front Unsigned [] letters all some none = absurd (omega arith)
signed_front Unsigned (d ∷ ds) letters all some none =
    let h = front (d ∷ ds) letters all none in
    let s = no_sign d (and_parts (is_ascii_digit d) (list_all is_ascii_digit ds) all).0 in
    let unsigned : signed_power (d ∷ (ds ++ letters)) ≡ (let p : Power = record { minus = false; digits = digits_of (d ∷ (ds ++ letters)); rest = after_digits (d ∷ (ds ++ letters)) } in p) = rw s.0 (rw s.1 refl) in
    unsigned ∙ power_is false _ _ (d ∷ ds) letters h.0 h.1

some_eq : (n : ℕ) → 0 < n → (n == 0) ≡ false
some_eq n h = grind (arith, nat_tests)

exponent_front : (x : Option Exponent) (letters : List ℕ) (s : ℕ) → IsExponent x → list_all is_ascii_alphabetic letters ≡ true
    → suffix_of (map to_ascii_lowercase letters) ≡ Some s → power_of (exponent_text x ++ letters) ≡ Some (power_found x letters)
exponent_front None [] s e all h = refl
exponent_front None (b ∷ bs) s e all h =
    ap (λ (t : Bool). if t then has_digits (signed_power bs) else Some (power_found None (b ∷ bs)))
    (no_e (to_ascii_lowercase b == 101) (to_ascii_lowercase b) (map to_ascii_lowercase bs) s refl h)
exponent_front (Some x) letters s e all h =
    let text = (sign_text x.sign ++ x.digits) ++ letters in
    let none = (tail_first None letters tt all).0 in
    ap (λ (t : Bool). if t then has_digits (signed_power text) else Some (power_found None (x.mark ∷ text))) (eq-eqb (to_ascii_lowercase x.mark) 101 e.0)
    ∙ ap has_digits (signed_front x.sign x.digits letters e.1 e.2 none)
    ∙ ap (λ (t : Bool). if t then None else Some (power_found (Some x) letters)) (some_eq (length x.digits) e.2)

not_none : (a b : ℕ) → 0 < a + b → (a == 0 && b == 0) ≡ false
not_none zero b h = let e : (b == 0) ≡ false = some_eq b (omega arith) in e
not_none (suc a) b h = let e : (suc a == 0) ≡ false = some_eq (suc a) (omega arith) in ap (λ (t : Bool). t && b == 0) e

number_same : (w : List ℕ) (f : Option (List ℕ)) (x : Option Exponent) (letters : List ℕ) (s : ℕ)
    → number_at w (places_of f) (power_found x letters) s ≡ number_in (record { whole = w; fraction = f; exponent = x; letters = letters }) s
number_same w f None letters s = refl
number_same w f (Some x) letters s = refl

pub complete : (text : List ℕ) (n : Number) → IsNumber text n → number_of text ≡ Some n
complete text n r =
    let p = r.parts in
    let h = r.spelled in
    let rest = exponent_text p.exponent ++ p.letters in
    let tail = tail_first p.exponent p.letters h.exponent h.letters in
    let middle = fraction_front p.fraction rest h.places tail.0 tail.1 in
    let head = front p.whole (fraction_text p.fraction ++ rest) h.whole middle.2 in
    let suffix : unit_of p.letters ≡ Some r.suffix = rw h.letters h.begins in
    ap number_of h.spelled
    ∙ ap (λ (w : List ℕ). with_digits w (fraction_of (after_digits (text_of p))) (after_fraction (after_digits (text_of p)))) head.0
    ∙ ap (λ (t : List ℕ). with_digits p.whole (fraction_of t) (after_fraction t)) head.1
    ∙ ap (λ (f : List ℕ). with_digits p.whole f (after_fraction (fraction_text p.fraction ++ rest))) middle.0
    ∙ ap (λ (t : List ℕ). with_digits p.whole (places_of p.fraction) t) middle.1
    ∙ ap (λ (t : Bool). if t then None else with_power p.whole (places_of p.fraction) (power_of rest)) (not_none (length p.whole) (length (places_of p.fraction)) h.some)
    ∙ ap (with_power p.whole (places_of p.fraction)) (exponent_front p.exponent p.letters r.suffix h.exponent h.letters h.begins)
    ∙ found p.exponent p.whole (places_of p.fraction) p.letters r.suffix suffix
    ∙ ap Some (number_same p.whole p.fraction p.exponent p.letters r.suffix ∙ sym r.worth)
  where
    found : (x : Option Exponent) (w f letters : List ℕ) (s : ℕ) → unit_of letters ≡ Some s
        → with_power w f (Some (power_found x letters)) ≡ Some (number_at w f (power_found x letters) s)
    found None w f letters s e = ap (with_unit w f (power_found None letters)) e
    found (Some x) w f letters s e = ap (with_unit w f (power_found (Some x) letters)) e

-- the parts that the pass finds
fraction_split : (rest : List ℕ) → (f : Option (List ℕ)) × (rest ≡ fraction_text f ++ after_fraction rest) × (places_of f ≡ fraction_of rest)
fraction_split [] = (None, refl, refl)
fraction_split (b ∷ bs) = split (b == 46) refl
  where
    split : (t : Bool) → (b == 46) ≡ t → (f : Option (List ℕ)) × (b ∷ bs ≡ fraction_text f ++ (if b == 46 then after_digits bs else b ∷ bs)) × (places_of f ≡ (if b == 46 then digits_of bs else []))
    split false e = (None, rw e refl, rw e refl)
    split true e =
        let point : b ≡ 46 = eqb-true _ _ e in (
          Some (digits_of bs),
          rw e (ap (λ (k : ℕ). k ∷ bs) point ∙ ap (λ (xs : List ℕ). 46 ∷ xs) (sym (take-append-drop (prefix_len is_ascii_digit bs) bs))),
          rw e refl,
        )

fraction_digits : (rest : List ℕ) → AreDigits (fraction_of rest)
fraction_digits [] = refl
fraction_digits (b ∷ bs) = split (b == 46)
  where
    split : (t : Bool) → AreDigits (if t then digits_of bs else [])
    split false = refl
    split true = front_digits bs

-- a sign that the pass finds
pub record Signed (text : List ℕ) (p : Power) : Type 0 where
  pub sign : Sign
  pub spelled : text ≡ (sign_text sign ++ p.digits) ++ p.rest
  pub minus : is_minus sign ≡ p.minus
  pub digits : AreDigits p.digits

signed_split : (text : List ℕ) → Signed text (signed_power text)
signed_split [] = record { sign = Unsigned; spelled = refl; minus = refl; digits = refl }
signed_split (b ∷ bs) = split (b == 43) (b == 45) refl refl
  where
    split : (t u : Bool) → (b == 43) ≡ t → (b == 45) ≡ u → Signed (b ∷ bs) (signed_power (b ∷ bs))
    split true u e f = rw e (record {
      sign = Plus;
      spelled = ap (λ (k : ℕ). k ∷ bs) (eqb-true b 43 e) ∙ ap (λ (xs : List ℕ). 43 ∷ xs) (sym (take-append-drop (prefix_len is_ascii_digit bs) bs));
      minus = refl;
      digits = front_digits bs;
    })
    split false true e f = rw e (rw f (record {
      sign = Minus;
      spelled = ap (λ (k : ℕ). k ∷ bs) (eqb-true b 45 f) ∙ ap (λ (xs : List ℕ). 45 ∷ xs) (sym (take-append-drop (prefix_len is_ascii_digit bs) bs));
      minus = refl;
      digits = front_digits bs;
    }))
    split false false e f = rw e (rw f (record {
      sign = Unsigned;
      spelled = sym (take-append-drop (prefix_len is_ascii_digit (b ∷ bs)) (b ∷ bs));
      minus = refl;
      digits = front_digits (b ∷ bs);
    }))

-- the exponent that the pass finds
pub record Found (text : List ℕ) (p : Power) : Type 0 where
  pub exponent : Option Exponent
  pub spelled : text ≡ exponent_text exponent ++ p.rest
  pub ordered : IsExponent exponent
  pub same : power_found exponent p.rest ≡ p

has_split : (q p : Power) → has_digits q ≡ Some p → (0 < length q.digits) × (q ≡ p)
has_split q p h = split (length q.digits == 0) refl
  where
    split : (t : Bool) → (length q.digits == 0) ≡ t → (0 < length q.digits) × (q ≡ p)
    split true e = absurd (let bad = rw e at h in let none : None ≡ Some p = bad in cc)
    split false e = (grind (arith, nat_tests), same_Some q p (rw e at h))

power_split : (text : List ℕ) (p : Power) → power_of text ≡ Some p → Found text p
power_split [] p h = subst (Found []) (same_Some _ p h) (record { exponent = None; spelled = refl; ordered = tt; same = refl })
power_split (b ∷ bs) p h = split (to_ascii_lowercase b == 101) refl
  where
    split : (t : Bool) → (to_ascii_lowercase b == 101) ≡ t → Found (b ∷ bs) p
    split false e = subst (Found (b ∷ bs)) (same_Some _ p (rw e at h)) (record { exponent = None; spelled = refl; ordered = tt; same = refl })
    split true e =
        let q = signed_power bs in
        let k = has_split q p (rw e at h) in
        let s = signed_split bs in
        subst (Found (b ∷ bs)) k.1 (record {
          exponent = Some (record { mark = b; sign = s.sign; digits = q.digits });
          spelled = ap (λ (xs : List ℕ). b ∷ xs) s.spelled;
          ordered = (eqb-true _ _ e, s.digits, k.0);
          same = ap (λ (m : Bool). let x : Power = record { minus = m; digits = q.digits; rest = q.rest } in x) s.minus;
        })

unit_split : (letters : List ℕ) (s : ℕ) → unit_of letters ≡ Some s
    → (list_all is_ascii_alphabetic letters ≡ true) × (suffix_of (map to_ascii_lowercase letters) ≡ Some s)
unit_split letters s h = split (list_all is_ascii_alphabetic letters) refl
  where
    split : (t : Bool) → list_all is_ascii_alphabetic letters ≡ t → (list_all is_ascii_alphabetic letters ≡ true) × (suffix_of (map to_ascii_lowercase letters) ≡ Some s)
    split true e = (e, rw e at h)
    split false e = absurd (let bad = rw e at h in let none : None ≡ Some s = bad in cc)

-- what the pass needs to find a number
pub record Taken (whole places rest : List ℕ) (n : Number) : Type 0 where
  pub some : 0 < length whole + length places
  pub power : Power
  pub suffix : ℕ
  pub found : power_of rest ≡ Some power
  pub begins : unit_of power.rest ≡ Some suffix
  pub number : number_at whole places power suffix ≡ n

taken_of : (whole places rest : List ℕ) (n : Number) → with_digits whole places rest ≡ Some n → Taken whole places rest n
taken_of whole places rest n h = split (length whole == 0 && length places == 0) refl
  where
    units : (p : Power) (o : Option ℕ) → with_unit whole places p o ≡ Some n → (s : ℕ) × (o ≡ Some s) × (number_at whole places p s ≡ n)
    units p None e = absurd (cc)
    units p (Some s) e = (s, refl, same_Some _ n e)

    powers : (o : Option Power) → with_power whole places o ≡ Some n → (p : Power) × (o ≡ Some p) × (with_unit whole places p (unit_of p.rest) ≡ Some n)
    powers None e = absurd (cc)
    powers (Some p) e = (p, refl, e)

    some : (a b : ℕ) → (a == 0 && b == 0) ≡ false → 0 < a + b
    some zero zero e = absurd (let bad : true ≡ false = e in cc)
    some zero (suc b) e = omega arith
    some (suc a) b e = omega arith

    split : (t : Bool) → (length whole == 0 && length places == 0) ≡ t → Taken whole places rest n
    split true e = absurd (let bad = rw e at h in let none : None ≡ Some n = bad in cc)
    split false e =
        let p = powers (power_of rest) (rw e at h) in
        let u = units p.0 (unit_of p.0.rest) p.2 in
        record { some = some (length whole) (length places) e; power = p.0; suffix = u.0; found = p.1; begins = u.1; number = u.2 }

pub sound : (text : List ℕ) (n : Number) → number_of text ≡ Some n → IsNumber text n
sound text n h =
    let whole = digits_of text in
    let behind = after_digits text in
    let t = taken_of whole (fraction_of behind) (after_fraction behind) n h in
    let f = fraction_split behind in
    let x = power_split (after_fraction behind) t.power t.found in
    let u = unit_split t.power.rest t.suffix t.begins in
    record {
      parts = record { whole = whole; fraction = f.0; exponent = x.exponent; letters = t.power.rest };
      suffix = t.suffix;
      spelled = record {
        spelled = sym (take-append-drop (prefix_len is_ascii_digit text) text)
            ∙ ap (λ (r : List ℕ). whole ++ r) (f.1 ∙ ap (λ (r : List ℕ). fraction_text f.0 ++ r) x.spelled);
        whole = front_digits text;
        places = subst AreDigits (sym f.2) (fraction_digits behind);
        some = subst (λ (ds : List ℕ). 0 < length whole + length ds) (sym f.2) t.some;
        exponent = x.ordered;
        letters = u.0;
        begins = u.1;
      };
      worth = sym t.number
          ∙ ap (λ (ds : List ℕ). number_at whole ds t.power t.suffix) (sym f.2)
          ∙ ap (λ (q : Power). number_at whole (places_of f.0) q t.suffix) (sym x.same)
          ∙ number_same whole f.0 x.exponent t.power.rest t.suffix;
    }
