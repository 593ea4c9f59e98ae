-- The answer for a text's number, clause by clause.
use Rattle.std.proofs.Common.{◌≡◌, ℕ, ◌+◌, ◌^◌, ◌≤◌, List, Option, Some, None, Result, Ok, Err, refl, sym, ap, subst, ◌∙◌, arith, ◌↔◌}
use Rattle.std.proofs.Math.Nat.{mul-le-mul_right}
use Rattle.fixed_num.specs.declared.femto.Femto.{Femto}
use Rattle.fixed_num.specs.declared.femto.ValueFault.{ValueFault}
use Rattle.fixed_num.specs.declared.femto.ValueFault.TheVariants.{NotNumber, TooLarge, TooFine}
use Rattle.std.proofs.Common.{length, true, false, ◌++◌}
use Rattle.std.specs.Str.Parse.{digits_value}
use Rattle.fixed_num.specs.Values.{Number, IsWorth, IsOver, raised, in_area, OneValueLaw, OneAreaLaw, IsNumber, IsNoNumber, IsValue, IsTooLarge, IsTooFine, IsArea, IsTooLargeArea, IsTooFineArea}
use Rattle.fixed_num.specs.Scan.{Power, fraction, number_at, number_of, AnswersUpTo, Answers, in_femto, some_raised}
use Rattle.fixed_num.proofs.Spelling.{complete, sound}
use Rattle.fixed_num.proofs.Reals.{same_factor}
use Rattle.fixed_num.proofs.Stripped.{ten_positive}

-- a number is worth one whole number at most, and no number up to 10 ^ k is above that
one_worth : (n : Number) (f g : ℕ) → IsWorth n f → IsWorth n g → f ≡ g
one_worth n f g e h = same_factor f g (10 ^ n.down) (ten_positive n.down) (sym e ∙ h)

not_above : (k : ℕ) (n : Number) (f : ℕ) → IsWorth n f → f ≤ 10 ^ k → IsOver k n → ⊥
not_above k n f e le above = absurd (omega (arith, e, above, mul-le-mul_right (10 ^ n.down) le))

ok_is : (k : ℕ) (o : Option Number) (f : ℕ) → AnswersUpTo k o (Ok f) → (n : Number) × (o ≡ Some n) × IsWorth n f × (f ≤ 10 ^ k)
ok_is k None f h = absurd h
ok_is k (Some n) f h = (n, refl, h.0, h.1)

is_ok : (k : ℕ) (n : Number) (f : ℕ) (r : Result ℕ ValueFault) → IsWorth n f → f ≤ 10 ^ k → AnswersUpTo k (Some n) r → r ≡ Ok f
is_ok k n f (Ok g) e le h = let same : g ≡ f = one_worth n g f h.0 e in ap (λ (v : ℕ). let r : Result ℕ ValueFault = Ok v in r) same
is_ok k n f (Err NotNumber) e le h = absurd h
is_ok k n f (Err TooLarge) e le h = absurd (not_above k n f e le h)
is_ok k n f (Err TooFine) e le h = absurd (h.1 f e)

none_is : (k : ℕ) (o : Option Number) → AnswersUpTo k o (Err NotNumber) → o ≡ None
none_is k None h = refl
none_is k (Some n) h = absurd h

is_none : (k : ℕ) (r : Result ℕ ValueFault) → AnswersUpTo k None r → r ≡ Err NotNumber
is_none k (Ok f) h = absurd h
is_none k (Err NotNumber) h = refl
is_none k (Err TooLarge) h = absurd h
is_none k (Err TooFine) h = absurd h

large_is : (k : ℕ) (o : Option Number) → AnswersUpTo k o (Err TooLarge) → (n : Number) × (o ≡ Some n) × IsOver k n
large_is k None h = absurd h
large_is k (Some n) h = (n, refl, h)

is_large : (k : ℕ) (n : Number) (r : Result ℕ ValueFault) → IsOver k n → AnswersUpTo k (Some n) r → r ≡ Err TooLarge
is_large k n (Ok f) above h = absurd (not_above k n f h.0 h.1 above)
is_large k n (Err NotNumber) above h = absurd h
is_large k n (Err TooLarge) above h = refl
is_large k n (Err TooFine) above h = absurd (h.0 above)

fine_is : (k : ℕ) (o : Option Number) → AnswersUpTo k o (Err TooFine) → (n : Number) × (o ≡ Some n) × (IsOver k n → ⊥) × ((f : ℕ) → IsWorth n f → ⊥)
fine_is k None h = absurd h
fine_is k (Some n) h = (n, refl, h.0, h.1)

is_fine : (k : ℕ) (n : Number) (r : Result ℕ ValueFault) → (IsOver k n → ⊥) → ((f : ℕ) → IsWorth n f → ⊥) → AnswersUpTo k (Some n) r → r ≡ Err TooFine
is_fine k n (Ok f) low not h = absurd (not f h.0)
is_fine k n (Err NotNumber) low not h = absurd h
is_fine k n (Err TooLarge) low not h = absurd (low h)
is_fine k n (Err TooFine) low not h = refl

none_or : (o : Option Number) → ((n : Number) → o ≡ Some n → ⊥) → o ≡ None
none_or None h = refl
none_or (Some n) h = absurd (h n refl)

none_some : (o : Option Number) (n : Number) → o ≡ None → o ≡ Some n → ⊥
none_some o n e f = cc

some_number : (m n : Number) → Some m ≡ Some n → m ≡ n
some_number m n e = cc

-- a number of what a text is, where it is one
abbrev some_of : (Number → Number) → Option Number → Option Number
some_of f None = None
some_of f (Some n) = Some (f n)

undone : (f : Number → Number) (o : Option Number) (n : Number) → some_of f o ≡ Some n → (m : Number) × (o ≡ Some m) × (f m ≡ n)
undone f None n e = absurd (let bad : None ≡ Some n = e in cc)
undone f (Some m) n e = (m, refl, some_number (f m) n e)

undone_none : (f : Number → Number) (o : Option Number) → some_of f o ≡ None → o ≡ None
undone_none f None e = refl
undone_none f (Some m) e = absurd (let bad : Some (f m) ≡ None = e in cc)

-- answers for a text
abbrev Tells : (Number → Number) → ℕ → List ℕ → Result ℕ ValueFault → Type 0
Tells f k text r = AnswersUpTo k (some_of f (number_of text)) r

at : (f : Number → Number) (k : ℕ) (text : List ℕ) (n : Number) (r : Result ℕ ValueFault) → IsNumber text n → Tells f k text r → AnswersUpTo k (Some (f n)) r
at f k text n r read h = subst (λ (o : Option Number). AnswersUpTo k (some_of f o) r) (complete text n read) h

said : (f : Number → Number) (k : ℕ) (text : List ℕ) (r s : Result ℕ ValueFault) → r ≡ s → Tells f k text r → Tells f k text s
said f k text r s e h = subst (Tells f k text) e h

value_told : (f : Number → Number) (k : ℕ) (text : List ℕ) (r : Result ℕ ValueFault) (v : ℕ) → Tells f k text r → r ≡ Ok v → (n : Number) × IsNumber text n × IsWorth (f n) v × (v ≤ 10 ^ k)
value_told f k text r v h e =
    let o = some_of f (number_of text) in
    let w = ok_is k o v (said f k text r (Ok v) e h) in
    let m = undone f (number_of text) w.0 w.1 in
    (m.0, sound text m.0 m.1, subst (λ (n : Number). IsWorth n v) (sym m.2) w.2, w.3)

large_told : (f : Number → Number) (k : ℕ) (text : List ℕ) (r : Result ℕ ValueFault) → Tells f k text r → r ≡ Err TooLarge → (n : Number) × IsNumber text n × IsOver k (f n)
large_told f k text r h e =
    let o = some_of f (number_of text) in
    let w = large_is k o (said f k text r (Err TooLarge) e h) in
    let m = undone f (number_of text) w.0 w.1 in
    (m.0, sound text m.0 m.1, subst (IsOver k) (sym m.2) w.2)

fine_told : (f : Number → Number) (k : ℕ) (text : List ℕ) (r : Result ℕ ValueFault) → Tells f k text r → r ≡ Err TooFine
    → (n : Number) × IsNumber text n × (IsOver k (f n) → ⊥) × ((v : ℕ) → IsWorth (f n) v → ⊥)
fine_told f k text r h e =
    let o = some_of f (number_of text) in
    let w = fine_is k o (said f k text r (Err TooFine) e h) in
    let m = undone f (number_of text) w.0 w.1 in
    (m.0, sound text m.0 m.1, subst (λ (n : Number). IsOver k n → ⊥) (sym m.2) w.2, subst (λ (n : Number). (v : ℕ) → IsWorth n v → ⊥) (sym m.2) w.3)

none_told : (f : Number → Number) (k : ℕ) (text : List ℕ) (r : Result ℕ ValueFault) → Tells f k text r → (r ≡ Err NotNumber) ↔ IsNoNumber text
none_told f k text r h = (
  (λ e n read. none_some (number_of text) n (undone_none f (number_of text) (none_is k (some_of f (number_of text)) (said f k text r (Err NotNumber) e h))) (complete text n read)),
  (λ v. is_none k r (subst (λ (o : Option Number). AnswersUpTo k (some_of f o) r) (none_or (number_of text) (λ n e. v n (sound text n e))) h)),
)

-- by the raised number of the specs
as_raised : (tens k : ℕ) (o : Option Number) (r : Result ℕ ValueFault) → AnswersUpTo k (some_raised tens o) r → AnswersUpTo k (some_of (raised tens) o) r
as_raised tens k None r h = h
as_raised tens k (Some n) r h = h

area_told : (text : List ℕ) (r : Result ℕ ValueFault) → AnswersUpTo 30 (some_raised 9 (number_of text)) r → Tells in_area 30 text r
area_told text r h = as_raised 9 30 (number_of text) r h

-- areas
pub area : (text : List ℕ) (r : Result ℕ ValueFault) → AnswersUpTo 30 (some_raised 9 (number_of text)) r → (v : ℕ) → (r ≡ Ok v) ↔ (IsArea text v × (v ≤ 10 ^ 30))
area text r h v = (
  (λ e. let k = value_told in_area 30 text r v (area_told text r h) e in (record { number = k.0; read = k.1; worth = k.2 }, k.3)),
  (λ w. is_ok 30 (in_area w.0.number) v r w.0.worth w.1 (at in_area 30 text w.0.number r w.0.read (area_told text r h))),
)

pub no_area : (text : List ℕ) (r : Result ℕ ValueFault) → AnswersUpTo 30 (some_raised 9 (number_of text)) r → (r ≡ Err NotNumber) ↔ IsNoNumber text
no_area text r h = none_told in_area 30 text r (area_told text r h)

pub large_area : (text : List ℕ) (r : Result ℕ ValueFault) → AnswersUpTo 30 (some_raised 9 (number_of text)) r → (r ≡ Err TooLarge) ↔ IsTooLargeArea text
large_area text r h = (
  (λ e. let k = large_told in_area 30 text r (area_told text r h) e in record { number = k.0; read = k.1; above = k.2 }),
  (λ v. is_large 30 (in_area v.number) r v.above (at in_area 30 text v.number r v.read (area_told text r h))),
)

pub fine_area : (text : List ℕ) (r : Result ℕ ValueFault) → AnswersUpTo 30 (some_raised 9 (number_of text)) r → (r ≡ Err TooFine) ↔ IsTooFineArea text
fine_area text r h = (
  (λ e. let k = fine_told in_area 30 text r (area_told text r h) e in record { number = k.0; read = k.1; small = k.2; broken = k.3 }),
  (λ v. is_fine 30 (in_area v.number) r v.small v.broken (at in_area 30 text v.number r v.read (area_told text r h))),
)

-- lengths
same_raised : (n : Number) → raised 0 n ≡ n
same_raised n = let z : 0 + n.up ≡ n.up = omega arith in ap (λ (u : ℕ). let k : Number = record { mantissa = n.mantissa; up = u; down = n.down } in k) z

unraised : (o : Option Number) (r : Result ℕ ValueFault) → AnswersUpTo 18 (some_raised 0 o) r → AnswersUpTo 18 o r
unraised None r h = h
unraised (Some n) r h = subst (λ (m : Number). AnswersUpTo 18 (Some m) r) (same_raised n) h

abbrev same : Number → Number
same n = n

length_told : (o : Option Number) (r : Result ℕ ValueFault) → AnswersUpTo 18 o r → AnswersUpTo 18 (some_of same o) r
length_told None r h = h
length_told (Some n) r h = h

pub length_ok : (o : Option Number) (r : Result ℕ ValueFault) (f : ℕ) → r ≡ Ok f → AnswersUpTo 18 (some_raised 0 o) r → AnswersUpTo 18 o (Ok f)
length_ok o r f e h = subst (AnswersUpTo 18 o) e (unraised o r h)

pub length_err : (o : Option Number) (r : Result ℕ ValueFault) (x : ValueFault) → r ≡ Err x → AnswersUpTo 18 (some_raised 0 o) r → AnswersUpTo 18 o (Err x)
length_err o r x e h = subst (AnswersUpTo 18 o) e (unraised o r h)

ok_inj : (a b : ℕ) → (let r : Result ℕ ValueFault = Ok a in r) ≡ Ok b → a ≡ b
ok_inj a b e = cc

err_inj : (a b : ValueFault) → (let r : Result ℕ ValueFault = Err a in r) ≡ Err b → a ≡ b
err_inj a b e = cc

err_ok : (x : ValueFault) (a : ℕ) → (let r : Result ℕ ValueFault = Err x in r) ≡ Ok a → ⊥
err_ok x a e = cc

femto_ok : (r : Result Femto ValueFault) (f : Femto) → in_femto r ≡ Ok f.0 → r ≡ Ok f
femto_ok (Ok g) f e = ap (λ (v : ℕ). let k : Femto = record { 0 = v } in let r : Result Femto ValueFault = Ok k in r) (ok_inj g.0 f.0 e)
femto_ok (Err x) f e = absurd (err_ok x f.0 e)

femto_err : (r : Result Femto ValueFault) (x : ValueFault) → in_femto r ≡ Err x → r ≡ Err x
femto_err (Ok g) x e = absurd (err_ok x g.0 (sym e))
femto_err (Err y) x e = ap (λ (z : ValueFault). let r : Result Femto ValueFault = Err z in r) (err_inj y x e)

pub value : (text : List ℕ) (r : Result Femto ValueFault) → Answers (number_of text) r → (f : Femto) → (r ≡ Ok f) ↔ (IsValue text f.0 × (f.0 ≤ 10 ^ 18))
value text r h f =
    let told = length_told (number_of text) (in_femto r) h in (
      (λ e. let k = value_told same 18 text (in_femto r) f.0 told (ap in_femto e) in (record { number = k.0; read = k.1; worth = k.2 }, k.3)),
      (λ v. femto_ok r f (is_ok 18 v.0.number f.0 (in_femto r) v.0.worth v.1 (at same 18 text v.0.number (in_femto r) v.0.read told))),
    )

pub not_number : (text : List ℕ) (r : Result Femto ValueFault) → Answers (number_of text) r → (r ≡ Err NotNumber) ↔ IsNoNumber text
not_number text r h =
    let k = none_told same 18 text (in_femto r) (length_told (number_of text) (in_femto r) h) in
    ((λ e. k.0 (ap in_femto e)), (λ v. femto_err r NotNumber (k.1 v)))

pub too_large : (text : List ℕ) (r : Result Femto ValueFault) → Answers (number_of text) r → (r ≡ Err TooLarge) ↔ IsTooLarge text
too_large text r h =
    let told = length_told (number_of text) (in_femto r) h in (
      (λ e. let k = large_told same 18 text (in_femto r) told (ap in_femto e) in record { number = k.0; read = k.1; above = k.2 }),
      (λ v. femto_err r TooLarge (is_large 18 v.number (in_femto r) v.above (at same 18 text v.number (in_femto r) v.read told))),
    )

pub too_fine : (text : List ℕ) (r : Result Femto ValueFault) → Answers (number_of text) r → (r ≡ Err TooFine) ↔ IsTooFine text
too_fine text r h =
    let told = length_told (number_of text) (in_femto r) h in (
      (λ e. let k = fine_told same 18 text (in_femto r) told (ap in_femto e) in record { number = k.0; read = k.1; small = k.2; broken = k.3 }),
      (λ v. femto_err r TooFine (is_fine 18 v.number (in_femto r) v.small v.broken (at same 18 text v.number (in_femto r) v.read told))),
    )

-- the number of the parts, raised
assoc : (a b c : ℕ) → (a + b) + c ≡ a + (b + c)
assoc a b c = omega arith

pub minus_at : (tens k : ℕ) (whole places : List ℕ) (p : Power) (unit : ℕ) (r : Result ℕ ValueFault) → p.minus ≡ true
    → AnswersUpTo k (Some (fraction (digits_value 10 (whole ++ places)) (tens + unit) (length places + digits_value 10 p.digits))) r
    → AnswersUpTo k (Some (raised tens (number_at whole places p unit))) r
minus_at tens k whole places p unit r e h =
    let z : tens + unit ≡ tens + (unit + 0) = omega arith in
    rw e (subst (λ (u : ℕ). AnswersUpTo k (Some (fraction (digits_value 10 (whole ++ places)) u (length places + digits_value 10 p.digits))) r) z h)

pub plus_at : (tens k : ℕ) (whole places : List ℕ) (p : Power) (unit : ℕ) (r : Result ℕ ValueFault) → p.minus ≡ false
    → AnswersUpTo k (Some (fraction (digits_value 10 (whole ++ places)) ((tens + unit) + digits_value 10 p.digits) (length places))) r
    → AnswersUpTo k (Some (raised tens (number_at whole places p unit))) r
plus_at tens k whole places p unit r e h =
    let z : length places ≡ length places + 0 = omega arith in
    let s = assoc tens unit (digits_value 10 p.digits) in
    rw e (subst (λ (u : ℕ). AnswersUpTo k (Some (fraction (digits_value 10 (whole ++ places)) u (length places + 0))) r) s
    (subst (λ (d : ℕ). AnswersUpTo k (Some (fraction (digits_value 10 (whole ++ places)) ((tens + unit) + digits_value 10 p.digits) d)) r) z h))

pub one_value : OneValueLaw
one_value text f g v w =
    let same : w.number ≡ v.number = some_number w.number v.number (sym (complete text w.number w.read) ∙ complete text v.number v.read) in
    one_worth v.number f g v.worth (subst (λ (n : Number). IsWorth n g) same w.worth)

pub one_area : OneAreaLaw
one_area text f g v w =
    let same : w.number ≡ v.number = some_number w.number v.number (sym (complete text w.number w.read) ∙ complete text v.number v.read) in
    one_worth (in_area v.number) f g v.worth (subst (λ (n : Number). IsWorth (in_area n) g) same w.worth)
