-- Names that are read, and trees that read them.
use Rattle.std.proofs.Common.{◌≡◌, ◌⊎◌, inl, inr, ℕ, suc, ◌<◌, ◌≤◌, ◌+◌, ℤ, Bool, true, false, List, [], ◌∷◌, ◌++◌, Some, refl, sym, ap, ◌∙◌, subst, arith, length, length-append, get_or, slice_get}
use Rattle.base_laws.proofs.Items.{push_old, get_last}
use Rattle.std.proofs.Math.Decide.{ℕ_discrete}
use Rattle.std.proofs.lemmas.Bool.{cases_lt, false≢true}
use Rattle.std.proofs.lemmas.List.{get_or_append_left, get_or_push, get_or_past}
use Rattle.std.proofs.lemmas.Option.{get_or_from_slice_get, slice_get-get_or, slice_get_within, same_Some}
use Rattle.geo_base.specs.declared.layer.LayerKey.{LayerKey}
use Rattle.geo_base.specs.declared.layer.Op.{Op}
use Rattle.flat_layout.specs.Layers.{Formula, Input, Empty, Binary, Sized, reach}
use Rattle.rule_text.specs.declared.rules.LayerForm.{LayerForm}
use Rattle.rule_text.specs.declared.rules.LayerForm.TheVariants as form
use Rattle.rule_text.specs.declared.rules.LayerRule.{LayerRule}
use Rattle.rule_text.specs.declared.rules.MosRule.{MosRule}
use Rattle.rule_text.specs.declared.rules.MoreRule.{MoreRule}
use Rattle.rule_layers.specs.Formulas.{formulas, formula_by, formulas_behind}
use Rattle.rule_layers.specs.Reads.{AreMarked, AreRead, IsRead, IsReadAs, Reads, read_form}

read_as : (P : Type 0) (f seen : LayerForm) (b : Bool) → (b ≡ true → P) → (P → b ≡ true) → seen ≡ read_form b f → IsReadAs P f seen
read_as P f seen true to from is = inl (to refl, is)
read_as P f seen false to from is = inr ((λ h. false≢true (from h)), is)

-- the names up to one
pub record AreReadTo (names : List LayerRule) (devices : List MosRule) (further : List MoreRule) (n : ℕ) (read : List LayerRule) : Type 0 where
  pub count : length read ≡ n
  pub each : (k : ℕ) (rule : LayerRule) → k < n → slice_get names k ≡ Some rule → (seen : LayerRule) × (slice_get read k ≡ Some seen) × IsReadAs (IsRead names devices further k) rule.form seen.form

pub read_more : (names : List LayerRule) (devices : List MosRule) (further : List MoreRule) (marks : List Bool) (n : ℕ) (rule seen : LayerRule) (read : List LayerRule) → n < length marks → AreMarked (IsRead names devices further) marks → slice_get names n ≡ Some rule
    → seen.form ≡ read_form (get_or marks n false) rule.form → AreReadTo names devices further n read → AreReadTo names devices further (n + 1) (read ++ seen ∷ [])
read_more names devices further marks n rule seen read lt are at is h = record {
  count = length-append read (seen ∷ []) ∙ ap (λ (k : ℕ). k + 1) h.count;
  each = λ k r below there. elim (ℕ_discrete k n) [
    | yes e ↦
        let same : r ≡ rule = same_Some r rule (sym there ∙ subst (λ j. slice_get names j ≡ Some rule) (sym e) at) in
        let as_seen : IsReadAs (IsRead names devices further n) rule.form seen.form = read_as (IsRead names devices further n) rule.form seen.form (get_or marks n false) (are n lt).0 (are n lt).1 is in (
          seen,
          subst (λ j. slice_get (read ++ seen ∷ []) j ≡ Some seen) (h.count ∙ sym e) (get_last read seen),
          subst (λ j. IsReadAs (IsRead names devices further j) r.form seen.form) (sym e) (subst (λ (v : LayerRule). IsReadAs (IsRead names devices further n) v.form seen.form) (sym same) as_seen),
        )
    | no not ↦ let o = h.each k r (omega (arith, below, not)) there in (o.0, push_old read seen o.0 k o.1, o.2)
  ];
}

pub read_all : (names : List LayerRule) (devices : List MosRule) (further : List MoreRule) (n : ℕ) (read : List LayerRule) → n ≡ length names → AreReadTo names devices further n read → AreRead names devices further read
read_all names devices further n read e h = record {
  count = h.count ∙ e;
  each = λ k rule at. let lt = slice_get_within names k rule at in h.each k rule (omega (arith, lt, e)) at;
}

-- an input layer among the names as they are seen is one of the names, and is read
pub input_read : (P : Type 0) (f seen : LayerForm) (key : LayerKey) → IsReadAs P f seen → seen ≡ form.Input key → P × (f ≡ form.Input key)
input_read P f seen key (inl h) is = (h.0, sym h.1 ∙ is)
input_read P f seen key (inr h) is = absurd (no_input f key (sym h.1 ∙ is))
  where
    no_input : (f : LayerForm) (key : LayerKey) → read_form false f ≡ form.Input key → ⊥
    no_input (form.Input k) key e = cc
    no_input (form.Labels k) key e = cc
    no_input form.Empty key e = cc
    no_input (form.Binary op a b) key e = cc
    no_input (form.Sized a by) key e = cc

-- trees that are one, but for input layers that aren't read

abbrev IsAlike : Type 0 → Formula → Formula → Type 0
IsAlike P x y = ((x ≡ y) × ((key : LayerKey) → y ≡ Input key → P)) ⊎ ((P → ⊥) × (y ≡ Empty) × ((key : LayerKey) × (x ≡ Input key)))

no_key : {P : Type 0} (y : Formula) (key : LayerKey) → y ≡ Empty → y ≡ Input key → P
no_key y key e h = absurd (let z : Empty ≡ Input key = sym e ∙ h in let w : ⊥ = cc in w)

-- it is no input layer
abbrev pub IsOther : Formula → Type 0
IsOther x = (key : LayerKey) → x ≡ Input key → ⊥

binary_other : (op : Op) (a b : Formula) → IsOther (Binary op a b)
binary_other op a b key e = cc

sized_other : (by : ℤ) (a : Formula) → IsOther (Sized by a)
sized_other by a key e = cc

no_derived : {P : Type 0} (x y : Formula) (key : LayerKey) → IsOther x → y ≡ x → y ≡ Input key → P
no_derived x y key other e h = absurd (other key (sym e ∙ h))

record AreAlike (names : List LayerRule) (devices : List MosRule) (further : List MoreRule) (xs ys : List Formula) : Type 0 where
  pub long : length xs ≡ length ys
  pub each : (i : ℕ) → IsAlike (IsRead names devices further i) (get_or xs i Empty) (get_or ys i Empty)

operand : (names : List LayerRule) (devices : List MosRule) (further : List MoreRule) (xs ys : List Formula) (n : ℕ) (rule : LayerRule) (a : ℕ) → AreAlike names devices further xs ys → slice_get names n ≡ Some rule → Reads rule.form a → get_or xs a Empty ≡ get_or ys a Empty
operand names devices further xs ys n rule a h at reads = elim (h.each a) [
  | inl e ↦ e.0
  | inr u ↦ absurd (u.0 (inl (record { at = n; rule = rule; at_in = slice_get_within names n rule at; there = at; reads = reads })))
]

form_same : (names : List LayerRule) (devices : List MosRule) (further : List MoreRule) (xs ys : List Formula) (n : ℕ) (rule : LayerRule) (f : LayerForm) → rule.form ≡ f → AreAlike names devices further xs ys → slice_get names n ≡ Some rule → formula_by xs f ≡ formula_by ys f
form_same names devices further xs ys n rule (form.Input key) e h at = refl
form_same names devices further xs ys n rule (form.Labels key) e h at = refl
form_same names devices further xs ys n rule form.Empty e h at = refl
form_same names devices further xs ys n rule (form.Binary op a b) e h at =
    let first = operand names devices further xs ys n rule a h at (subst (λ g. Reads g a) (sym e) (inl refl)) in
    let second = operand names devices further xs ys n rule b h at (subst (λ g. Reads g b) (sym e) (inr refl)) in
    ap (λ x. Binary op x (get_or xs b Empty)) first ∙ ap (Binary op (get_or ys a Empty)) second
form_same names devices further xs ys n rule (form.Sized a by) e h at = ap (Sized by) (operand names devices further xs ys n rule a h at (subst (λ g. Reads g a) (sym e) refl))

unread_alike : (P : Type 0) (xs ys : List Formula) (f seen : LayerForm) → formula_by xs f ≡ formula_by ys f → (P → ⊥) → seen ≡ read_form false f → IsAlike P (formula_by xs f) (formula_by ys seen)
unread_alike P xs ys (form.Input key) seen same not is = inr (not, ap (formula_by ys) is, (key, refl))
unread_alike P xs ys (form.Labels key) seen same not is = inl (same ∙ ap (formula_by ys) (sym is), λ k e. no_key (formula_by ys seen) k (ap (formula_by ys) is) e)
unread_alike P xs ys form.Empty seen same not is = inl (same ∙ ap (formula_by ys) (sym is), λ k e. no_key (formula_by ys seen) k (ap (formula_by ys) is) e)
unread_alike P xs ys (form.Binary op a b) seen same not is = inl (same ∙ ap (formula_by ys) (sym is), λ k e. no_derived (formula_by ys (form.Binary op a b)) (formula_by ys seen) k (binary_other op (get_or ys a Empty) (get_or ys b Empty)) (ap (formula_by ys) is) e)
unread_alike P xs ys (form.Sized a by) seen same not is = inl (same ∙ ap (formula_by ys) (sym is), λ k e. no_derived (formula_by ys (form.Sized a by)) (formula_by ys seen) k (sized_other by (get_or ys a Empty)) (ap (formula_by ys) is) e)

form_alike : (names : List LayerRule) (devices : List MosRule) (further : List MoreRule) (xs ys : List Formula) (n : ℕ) (rule seen : LayerRule) → AreAlike names devices further xs ys → slice_get names n ≡ Some rule → IsReadAs (IsRead names devices further n) rule.form seen.form
    → IsAlike (IsRead names devices further n) (formula_by xs rule.form) (formula_by ys seen.form)
form_alike names devices further xs ys n rule seen h at (inl r) = inl (form_same names devices further xs ys n rule rule.form refl h at ∙ ap (formula_by ys) (sym r.1), λ k e. r.0)
form_alike names devices further xs ys n rule seen h at (inr u) = unread_alike (IsRead names devices further n) xs ys rule.form seen.form (form_same names devices further xs ys n rule rule.form refl h at) u.0 u.1

alike_more : (names : List LayerRule) (devices : List MosRule) (further : List MoreRule) (xs ys : List Formula) (x y : Formula) → AreAlike names devices further xs ys → IsAlike (IsRead names devices further (length xs)) x y → AreAlike names devices further (xs ++ x ∷ []) (ys ++ y ∷ [])
alike_more names devices further xs ys x y h is = record {
  long = length-append xs (x ∷ []) ∙ ap (λ (k : ℕ). k + 1) h.long ∙ sym (length-append ys (y ∷ []));
  each = λ i. elim (cases_lt i (length xs)) [
    | inl lt ↦
        let long = h.long in
        subst (λ v. IsAlike (IsRead names devices further i) v (get_or (ys ++ y ∷ []) i Empty)) (sym (get_or_append_left xs (x ∷ []) Empty i lt))
        (subst (IsAlike (IsRead names devices further i) (get_or xs i Empty)) (sym (get_or_append_left ys (y ∷ []) Empty i (omega (arith, lt, long)))) (h.each i))
    | inr from ↦ elim (ℕ_discrete i (length xs)) [
      | yes e ↦
          subst (λ v. IsAlike (IsRead names devices further i) v (get_or (ys ++ y ∷ []) i Empty)) (sym (get_or_push xs x Empty i (sym e)))
          (subst (IsAlike (IsRead names devices further i) x) (sym (get_or_push ys y Empty i (sym h.long ∙ sym e))) (subst (λ j. IsAlike (IsRead names devices further j) x y) (sym e) is))
      | no n ↦
          let long = h.long in
          let a : length (xs ++ x ∷ []) ≤ i = (let m = length-append xs (x ∷ []) in omega arith) in
          let b : length (ys ++ y ∷ []) ≤ i = (let m = length-append ys (y ∷ []) in omega arith) in
          inl (get_or_past (xs ++ x ∷ []) i Empty a ∙ sym (get_or_past (ys ++ y ∷ []) i Empty b), λ k e. no_key (get_or (ys ++ y ∷ []) i Empty) k (get_or_past (ys ++ y ∷ []) i Empty b) e)
    ]
  ];
}

abbrev AreBehind : List LayerRule → List MosRule → List MoreRule → ℕ → List LayerRule → List LayerRule → Type 0
AreBehind names devices further n rest read = (k : ℕ) (rule : LayerRule) → slice_get rest k ≡ Some rule → (slice_get names (n + k) ≡ Some rule) × (seen : LayerRule) × (slice_get read k ≡ Some seen) × IsReadAs (IsRead names devices further (n + k)) rule.form seen.form

alike_behind : (names : List LayerRule) (devices : List MosRule) (further : List MoreRule) (rest read : List LayerRule) (n : ℕ) (xs ys : List Formula) → length read ≡ length rest → length xs ≡ n → AreBehind names devices further n rest read → AreAlike names devices further xs ys → AreAlike names devices further (formulas_behind xs rest) (formulas_behind ys read)
alike_behind names devices further [] [] n xs ys e long f h = h
alike_behind names devices further [] (s ∷ read) n xs ys e long f h = absurd (let z : ⊥ = omega (arith, e) in z)
alike_behind names devices further (r ∷ rest) [] n xs ys e long f h = absurd (let z : ⊥ = omega (arith, e) in z)
alike_behind names devices further (r ∷ rest) (s ∷ read) n xs ys e long f h =
    let zero_on : n + 0 ≡ n = omega arith in
    let first = f 0 r refl in
    let at : slice_get names n ≡ Some r = subst (λ i. slice_get names i ≡ Some r) zero_on first.0 in
    let same : first.1 ≡ s = same_Some first.1 s (sym first.2) in
    let as_seen : IsReadAs (IsRead names devices further n) r.form s.form = subst (λ (v : LayerRule). IsReadAs (IsRead names devices further n) r.form v.form) same (subst (λ i. IsReadAs (IsRead names devices further i) r.form first.1.form) zero_on first.3) in
    let is : IsAlike (IsRead names devices further (length xs)) (formula_by xs r.form) (formula_by ys s.form) = subst (λ i. IsAlike (IsRead names devices further i) (formula_by xs r.form) (formula_by ys s.form)) (sym long) (form_alike names devices further xs ys n r s h at as_seen) in
    alike_behind names devices further rest read (n + 1) (xs ++ formula_by xs r.form ∷ []) (ys ++ formula_by ys s.form ∷ []) (omega (arith, e)) (length-append xs (formula_by xs r.form ∷ []) ∙ ap (λ (k : ℕ). k + 1) long)
    (λ k rule there.
    let o = f (suc k) rule there in
    let z : n + suc k ≡ (n + 1) + k = omega arith in
    (subst (λ i. slice_get names i ≡ Some rule) z o.0, o.1, o.2, subst (λ i. IsReadAs (IsRead names devices further i) rule.form o.1.form) z o.3))
    (alike_more names devices further xs ys (formula_by xs r.form) (formula_by ys s.form) h is)

alike : (names : List LayerRule) (devices : List MosRule) (further : List MoreRule) (read : List LayerRule) → AreRead names devices further read → AreAlike names devices further (formulas names) (formulas read)
alike names devices further read are =
    alike_behind names devices further names read 0 [] [] are.count refl (λ j rule there. let o = are.each j rule there in let z : j ≡ 0 + j = omega arith in (subst (λ i. slice_get names i ≡ Some rule) z there, o.0, o.1, subst (λ i. IsReadAs (IsRead names devices further i) rule.form o.0.form) z o.2))
    (record { long = refl; each = λ i. inl (refl, λ k e. no_key Empty k refl e) })

-- as many trees as names that are seen
pub same_count : (names : List LayerRule) (devices : List MosRule) (further : List MoreRule) (read : List LayerRule) → AreRead names devices further read → length (formulas names) ≡ length (formulas read)
same_count names devices further read are = (alike names devices further read are).long

-- a name that is read has one tree over the names, and over them as they are seen
pub read_tree : (names : List LayerRule) (devices : List MosRule) (further : List MoreRule) (read : List LayerRule) (k : ℕ) → AreRead names devices further read → IsRead names devices further k → get_or (formulas names) k Empty ≡ get_or (formulas read) k Empty
read_tree names devices further read k are is = elim ((alike names devices further read are).each k) [ inl e ↦ e.0 | inr u ↦ absurd (u.0 is) ]

-- and so has a name that is no input layer
pub other_tree : (names : List LayerRule) (devices : List MosRule) (further : List MoreRule) (read : List LayerRule) (k : ℕ) (x : Formula) → IsOther x → AreRead names devices further read → get_or (formulas names) k Empty ≡ x → get_or (formulas names) k Empty ≡ get_or (formulas read) k Empty
other_tree names devices further read k x other are tree = elim ((alike names devices further read are).each k) [
  | inl e ↦ e.0
  | inr u ↦ absurd (other u.2.0 (sym tree ∙ u.2.1))
]

pub other_there : (names : List LayerRule) (devices : List MosRule) (further : List MoreRule) (read : List LayerRule) (k : ℕ) (x : Formula) → IsOther x → AreRead names devices further read → slice_get (formulas names) k ≡ Some x → slice_get (formulas read) k ≡ Some x
other_there names devices further read k x other are at =
    let tree : get_or (formulas names) k Empty ≡ x = get_or_from_slice_get (formulas names) k x Empty at in
    let lt = slice_get_within (formulas names) k x at in
    let long = same_count names devices further read are in
    slice_get-get_or (formulas read) k Empty (omega (arith, lt, long)) ∙ ap Some (sym (other_tree names devices further read k x other are tree) ∙ tree)

-- and so has a derived name
pub derived_tree : (names : List LayerRule) (devices : List MosRule) (further : List MoreRule) (read : List LayerRule) (k : ℕ) (op : Op) (a b : Formula) → AreRead names devices further read → get_or (formulas names) k Empty ≡ Binary op a b → get_or (formulas names) k Empty ≡ get_or (formulas read) k Empty
derived_tree names devices further read k op a b are tree = other_tree names devices further read k (Binary op a b) (binary_other op a b) are tree

pub same_tree : (names : List LayerRule) (devices : List MosRule) (further : List MoreRule) (read : List LayerRule) (k : ℕ) (op : Op) (a b : Formula) → AreRead names devices further read → slice_get (formulas names) k ≡ Some (Binary op a b) → slice_get (formulas read) k ≡ Some (Binary op a b)
same_tree names devices further read k op a b are at = other_there names devices further read k (Binary op a b) (binary_other op a b) are at

pub sized_tree : (names : List LayerRule) (devices : List MosRule) (further : List MoreRule) (read : List LayerRule) (k : ℕ) (by : ℤ) (a : Formula) → AreRead names devices further read → get_or (formulas names) k Empty ≡ Sized by a → get_or (formulas names) k Empty ≡ get_or (formulas read) k Empty
sized_tree names devices further read k by a are tree = other_tree names devices further read k (Sized by a) (sized_other by a) are tree

pub same_sized_tree : (names : List LayerRule) (devices : List MosRule) (further : List MoreRule) (read : List LayerRule) (k : ℕ) (by : ℤ) (a : Formula) → AreRead names devices further read → slice_get (formulas names) k ≡ Some (Sized by a) → slice_get (formulas read) k ≡ Some (Sized by a)
same_sized_tree names devices further read k by a are at = other_there names devices further read k (Sized by a) (sized_other by a) are at

-- no name reaches further as it is seen
pub seen_reach : (names : List LayerRule) (devices : List MosRule) (further : List MoreRule) (read : List LayerRule) (k : ℕ) → AreRead names devices further read → reach (get_or (formulas read) k Empty) ≤ reach (get_or (formulas names) k Empty)
seen_reach names devices further read k are = elim ((alike names devices further read are).each k) [
  | inl e ↦ let same = ap reach e.0 in omega (arith, same)
  | inr u ↦ let none = ap reach u.1 in omega (arith, none)
]

-- an input layer among the trees as they are seen is one of the trees, and is read
pub seen_input : (names : List LayerRule) (devices : List MosRule) (further : List MoreRule) (read : List LayerRule) (k : ℕ) (key : LayerKey) → AreRead names devices further read → slice_get (formulas read) k ≡ Some (Input key) → (slice_get (formulas names) k ≡ Some (Input key)) × IsRead names devices further k
seen_input names devices further read k key are at =
    let tree : get_or (formulas read) k Empty ≡ Input key = get_or_from_slice_get (formulas read) k (Input key) Empty at in
    let lt = slice_get_within (formulas read) k (Input key) at in
    let long = same_count names devices further read are in
    elim ((alike names devices further read are).each k) [
      | inl e ↦ (slice_get-get_or (formulas names) k Empty (omega (arith, lt, long)) ∙ ap Some (e.0 ∙ tree), e.1 key tree)
      | inr u ↦ absurd (let z : Input key ≡ Empty = sym tree ∙ u.1 in let w : ⊥ = cc in w)
    ]
