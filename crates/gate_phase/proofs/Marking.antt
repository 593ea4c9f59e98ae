-- Marks on what a device rule reads.
use Rattle.std.proofs.Common.{◌≡◌, ◌⊎◌, inl, inr, ℕ, suc, ◌<◌, ◌+◌, Bool, true, false, List, [], ◌∷◌, ◌++◌, Option, Some, None, refl, sym, ap, ◌∙◌, subst, arith, length, length-append, get_or, slice_get, slice_index_or, take}
use Rattle.base_laws.proofs.Items.{push_cases}
use Rattle.std.proofs.Math.Decide.{ℕ_discrete}
use Rattle.std.proofs.lemmas.Bool.{cases_lt}
use Rattle.std.proofs.lemmas.List.{get_or_past}
use Rattle.std.proofs.lemmas.Option.{slice_get-get_or, none-some}
use Rattle.geo_base.specs.declared.layer.LayerKey.{LayerKey}
use Rattle.flat_layout.specs.Layers.{Formula, Empty, inputs}
use Rattle.flat_layout.specs.Layout.{Some_of}
use Rattle.rule_text.specs.declared.rules.LayerForm.{LayerForm}
use Rattle.rule_text.specs.declared.rules.LayerForm.TheVariants as form
use Rattle.rule_text.specs.declared.rules.LayerRule.{LayerRule}
use Rattle.rule_layers.specs.Formulas.{formulas, formula_by, formulas_behind}
use Rattle.gate_phase.specs.Devices.{layer_in, region_of}
use Rattle.gate_phase.specs.Reads.{AreClosed, AreRead, IsMarked, IsMarkedInput, IsOfDevice, IsOfRegion, IsOfSome, IsReadBy, MarksMore}
use Rattle.gate_phase.specs.declared.device.Device.{Device}
use Rattle.gate_phase.specs.declared.device.Region.{Region}
use Rattle.gate_phase.specs.declared.device.Region.TheVariants.{One, Both}

pub some_split : {A : Type 0} (P : A → Type 0) (xs ys : List A) → Some_of P (xs ++ ys) → Some_of P xs ⊎ Some_of P ys
some_split P [] ys h = inr h
some_split P (x ∷ xs) ys (inl h) = inl (inl h)
some_split P (x ∷ xs) ys (inr h) = elim (some_split P xs ys h) [ inl g ↦ inl (inr g) | inr g ↦ inr g ]

-- what marked trees read are marked input layers
abbrev Known : List LayerRule → List Bool → List Formula → Type 0
Known all marks trees = (i : ℕ) (x : Formula) → slice_get trees i ≡ Some x → IsMarked marks i → (key : LayerKey) → Some_of (λ k. k ≡ key) (inputs x) → (j : ℕ) × IsMarkedInput all marks j key

tree_at : (all : List LayerRule) (marks : List Bool) (before : List Formula) (a : ℕ) (key : LayerKey) → Known all marks before → (a < length before → IsMarked marks a) → Some_of (λ k. k ≡ key) (inputs (get_or before a Empty))
    → (j : ℕ) × IsMarkedInput all marks j key
tree_at all marks before a key known marked listed = elim (cases_lt a (length before)) [
  | inl lt ↦ known a (get_or before a Empty) (slice_get-get_or before a Empty lt) (marked lt) key listed
  | inr le ↦ absurd (subst (λ x. Some_of (λ k. k ≡ key) (inputs x)) (get_or_past before a Empty (omega (arith, le))) listed)
]

form_known : (all : List LayerRule) (marks : List Bool) (before : List Formula) (n : ℕ) (rule : LayerRule) (f : LayerForm) (key : LayerKey) → rule.form ≡ f → slice_get all n ≡ Some rule → n ≡ length before → IsMarked marks n
    → ((k : ℕ) → IsReadBy f k → k < n → IsMarked marks k) → Known all marks before → Some_of (λ k. k ≡ key) (inputs (formula_by before f)) → (j : ℕ) × IsMarkedInput all marks j key
form_known all marks before n rule (form.Input k) key e at len marked closed known (inl same) = (n, (rule, at, e ∙ ap form.Input same, marked))
form_known all marks before n rule (form.Input k) key e at len marked closed known (inr none) = absurd none
form_known all marks before n rule (form.Labels k) key e at len marked closed known listed = absurd listed
form_known all marks before n rule form.Empty key e at len marked closed known listed = absurd listed
form_known all marks before n rule (form.Binary op a b) key e at len marked closed known listed = elim (some_split (λ k. k ≡ key) (inputs (get_or before a Empty)) (inputs (get_or before b Empty)) listed) [
  | inl h ↦ tree_at all marks before a key known (λ lt. closed a (inl refl) (omega arith)) h
  | inr h ↦ tree_at all marks before b key known (λ lt. closed b (inr refl) (omega arith)) h
]
form_known all marks before n rule (form.Sized a by) key e at len marked closed known listed = tree_at all marks before a key known (λ lt. closed a refl (omega arith)) listed

known_behind : (all : List LayerRule) (marks : List Bool) (before : List Formula) (rest : List LayerRule) (n : ℕ) → n ≡ length before → AreClosed all 0 marks → ((k : ℕ) (rule : LayerRule) → slice_get rest k ≡ Some rule → slice_get all (n + k) ≡ Some rule)
    → Known all marks before → Known all marks (formulas_behind before rest)
known_behind all marks before [] n len closed at known = known
known_behind all marks before (rule ∷ rest) n len closed at known =
    let here : slice_get all n ≡ Some rule = (let z : n + 0 ≡ n = omega arith in subst (λ i. slice_get all i ≡ Some rule) z (at 0 rule refl)) in
    let longer = length-append before (formula_by before rule.form ∷ []) in
    known_behind all marks (before ++ formula_by before rule.form ∷ []) rest (n + 1) (omega arith) closed
    (λ k r e. let z : n + suc k ≡ (n + 1) + k = omega arith in subst (λ i. slice_get all i ≡ Some r) z (at (suc k) r e))
    (λ i x e marked key listed. elim (push_cases before (formula_by before rule.form) x i e) [
      | inl old ↦ known i x old marked key listed
      | inr new ↦
          let same : i ≡ n = new.0 ∙ sym len in
          let is_marked : IsMarked marks n = subst (IsMarked marks) same marked in
          form_known all marks before n rule rule.form key refl here len is_marked (λ k reads lt. closed n k rule is_marked here reads lt (λ none. let z : ⊥ = omega (arith, none) in z)) known
          (subst (λ t. Some_of (λ k. k ≡ key) (inputs t)) (sym new.1) listed)
    ])

pub count_behind : (before : List Formula) (names : List LayerRule) → length (formulas_behind before names) ≡ length before + length names
count_behind before [] = omega arith
count_behind before (n ∷ names) = let r = count_behind (before ++ formula_by before n.form ∷ []) names in let m = length-append before (formula_by before n.form ∷ []) in omega arith

module _ (names : List LayerRule) (x : Device) (marks : List Bool) (closed : AreClosed names 0 marks) (roots : (i : ℕ) → IsOfDevice x i → i < length names → IsMarked marks i) where
  all_known : Known names marks (formulas names)
  all_known = known_behind names marks [] names 0 refl closed (λ k rule e. let z : k ≡ 0 + k = omega arith in subst (λ n. slice_get names n ≡ Some rule) z e) (λ j y e. absurd (none-some y e))

  abbrev IsFound : LayerKey → Type 0
  IsFound key = (j : ℕ) × IsMarkedInput names marks j key

  root : (i : ℕ) (key : LayerKey) → IsOfDevice x i → Some_of (λ k. k ≡ key) (inputs (get_or (formulas names) i Empty)) → IsFound key
  root i key is listed = tree_at names marks (formulas names) i key all_known (λ lt. roots i is (let n = count_behind [] names in omega arith)) listed

  some_root : (o : Option ℕ) (key : LayerKey) → ((i : ℕ) → IsOfSome o i → IsOfDevice x i) → Some_of (λ k. k ≡ key) (inputs (layer_in (formulas names) o)) → IsFound key
  some_root None key of listed = absurd listed
  some_root (Some a) key of listed = root a key (of a refl) listed

  region_root : (g : Region) (key : LayerKey) → ((i : ℕ) → IsOfRegion g i → IsOfDevice x i) → Some_of (λ k. k ≡ key) (inputs (region_of (formulas names) g)) → IsFound key
  region_root (One a) key of listed = root a key (of a refl) listed
  region_root (Both a b) key of listed = elim (some_split (λ k. k ≡ key) (inputs (get_or (formulas names) a Empty)) (inputs (get_or (formulas names) b Empty)) listed) [
    | inl h ↦ root a key (of a (inl refl)) h
    | inr h ↦ root b key (of b (inr refl)) h
  ]

  pub read_law : AreRead names x marks
  read_law key listed = elim (some_split (λ k. k ≡ key) (inputs (layer_in (formulas names) x.ends)) _ listed) [
    | inl h ↦ some_root x.ends key (λ i is. inl is) h
    | inr t ↦ elim (some_split (λ k. k ≡ key) (inputs (region_of (formulas names) x.region)) _ t) [
      | inl h ↦ region_root x.region key (λ i is. inr (inl is)) h
      | inr t2 ↦ elim (some_split (λ k. k ≡ key) (inputs (layer_in (formulas names) x.well)) _ t2) [
        | inl h ↦ some_root x.well key (λ i is. inr (inr (inl is))) h
        | inr t3 ↦ elim (some_split (λ k. k ≡ key) (inputs (get_or (formulas names) x.ts Empty)) _ t3) [
          | inl h ↦ root x.ts key (inr (inr (inr (inl refl)))) h
          | inr t4 ↦ elim (some_split (λ k. k ≡ key) (inputs (get_or (formulas names) x.tg Empty)) _ t4) [
            | inl h ↦ root x.tg key (inr (inr (inr (inr (inl refl))))) h
            | inr h ↦ root x.tb key (inr (inr (inr (inr (inr refl))))) h
          ]
        ]
      ]
    ]
  ]

-- one step of the walk down: what a marked name reads is marked
pub closed_more : (names : List LayerRule) (from : ℕ) (rule : LayerRule) (old new : List Bool) → slice_get names from ≡ Some rule → IsMarked old from → MarksMore (λ i. IsReadBy rule.form i × (i < from)) old new
    → AreClosed names (from + 1) old → AreClosed names from new
closed_more names from rule old new at marked more closed j k r is there reads lt beyond = elim (ℕ_discrete j from) [
  | yes e ↦
      let same : r ≡ rule = one (slice_get names from) r rule (subst (λ n. slice_get names n ≡ Some r) e there) at in
      more.here k (subst (λ (x : LayerRule). IsReadBy x.form k) same reads, subst (λ n. k < n) e lt)
  | no n ↦ elim (more.fresh j is) [
    | inl was ↦ more.stay k (closed j k r was there reads lt (λ below. beyond (omega (arith, below, n))))
    | inr f ↦ absurd (beyond f.1)
  ]
]
  where
    one : (o : Option LayerRule) (a b : LayerRule) → o ≡ Some a → o ≡ Some b → a ≡ b
    one o a b e f = let g : Some a ≡ Some b = sym e ∙ f in cc

-- and of one that isn't marked nothing need be
pub closed_past : (names : List LayerRule) (from : ℕ) (marks : List Bool) → (IsMarked marks from → ⊥) → AreClosed names (from + 1) marks → AreClosed names from marks
closed_past names from marks off closed j k r is there reads lt beyond = elim (ℕ_discrete j from) [
  | yes e ↦ absurd (off (subst (IsMarked marks) e is))
  | no n ↦ closed j k r is there reads lt (λ below. beyond (omega (arith, below, n)))
]

-- marks one after another
pub one_after : (P Q : ℕ → Type 0) (o a n : List Bool) → MarksMore P o a → MarksMore Q a n → MarksMore (λ i. P i ⊎ Q i) o n
one_after P Q o a n h g = record {
  count = g.count ∙ h.count;
  stay = λ i m. g.stay i (h.stay i m);
  here = λ i k. elim k [ inl p ↦ g.stay i (h.here i p) | inr q ↦ g.here i q ];
  fresh = λ i m. elim (g.fresh i m) [
    | inl was ↦ elim (h.fresh i was) [ inl w ↦ inl w | inr p ↦ inr (inl p) ]
    | inr q ↦ inr (inr q)
  ];
}

marks_as : (P Q : ℕ → Type 0) (o n : List Bool) → ((i : ℕ) → P i → Q i) → ((i : ℕ) → Q i → P i) → MarksMore P o n → MarksMore Q o n
marks_as P Q o n to from h = record {
  count = h.count;
  stay = h.stay;
  here = λ i q. h.here i (from i q);
  fresh = λ i m. elim (h.fresh i m) [ inl was ↦ inl was | inr p ↦ inr (to i p) ];
}

-- of each of two below a bound, and of one of the two below it
either_below : (P Q : ℕ → Type 0) (n i : ℕ) → (P i × (i < n)) ⊎ (Q i × (i < n)) → (P i ⊎ Q i) × (i < n)
either_below P Q n i (inl h) = (inl h.0, h.1)
either_below P Q n i (inr h) = (inr h.0, h.1)

below_either : (P Q : ℕ → Type 0) (n i : ℕ) → (P i ⊎ Q i) × (i < n) → (P i × (i < n)) ⊎ (Q i × (i < n))
below_either P Q n i (inl h, lt) = inl (h, lt)
below_either P Q n i (inr h, lt) = inr (h, lt)

pub both_marks : (P Q : ℕ → Type 0) (b : ℕ) (o a n : List Bool) → MarksMore (λ i. P i × (i < b)) o a → MarksMore (λ i. Q i × (i < b)) a n → MarksMore (λ i. (P i ⊎ Q i) × (i < b)) o n
both_marks P Q b o a n h g =
    marks_as (λ i. (P i × (i < b)) ⊎ (Q i × (i < b))) (λ i. (P i ⊎ Q i) × (i < b)) o n (either_below P Q b) (below_either P Q b) (one_after (λ i. P i × (i < b)) (λ i. Q i × (i < b)) o a n h g)

-- the six layers of a device rule
pub all_six : (x : Device) (o a b c d e n : List Bool) → MarksMore (λ i. IsOfSome x.ends i × (i < length o)) o a → MarksMore (λ i. IsOfRegion x.region i × (i < length o)) a b → MarksMore (λ i. IsOfSome x.well i × (i < length o)) b c
    → MarksMore (λ i. (i ≡ x.ts) × (i < length o)) c d → MarksMore (λ i. (i ≡ x.tg) × (i < length o)) d e → MarksMore (λ i. (i ≡ x.tb) × (i < length o)) e n → MarksMore (λ i. IsOfDevice x i × (i < length o)) o n
all_six x o a b c d e n h1 h2 h3 h4 h5 h6 =
    let m = length o in
    let p5 = both_marks (λ i. i ≡ x.tg) (λ i. i ≡ x.tb) m d e n h5 h6 in
    let p4 = both_marks (λ i. i ≡ x.ts) (λ i. (i ≡ x.tg) ⊎ (i ≡ x.tb)) m c d n h4 p5 in
    let p3 = both_marks (λ i. IsOfSome x.well i) (λ i. (i ≡ x.ts) ⊎ ((i ≡ x.tg) ⊎ (i ≡ x.tb))) m b c n h3 p4 in
    let p2 = both_marks (λ i. IsOfRegion x.region i) (λ i. IsOfSome x.well i ⊎ ((i ≡ x.ts) ⊎ ((i ≡ x.tg) ⊎ (i ≡ x.tb)))) m a b n h2 p3 in
    both_marks (λ i. IsOfSome x.ends i) (λ i. IsOfRegion x.region i ⊎ (IsOfSome x.well i ⊎ ((i ≡ x.ts) ⊎ ((i ≡ x.tg) ⊎ (i ≡ x.tb))))) m o a n h1 p2

-- a slice written back
pub written : {A : Type 0} (xs ys : List A) (n : ℕ) → n ≡ length xs → take n (xs ++ ys) ≡ xs
written xs ys n e = ap (λ k. take k (xs ++ ys)) e ∙ first xs ys
  where
    first : {A : Type 0} (xs ys : List A) → take (length xs) (xs ++ ys) ≡ xs
    first [] ys = refl
    first (x ∷ xs) ys = ap (λ zs. x ∷ zs) (first xs ys)

-- what holds of the first marked input layers, one name on
pub inputs_more : (names : List LayerRule) (marks : List Bool) (i : ℕ) (rule : LayerRule) (P : ℕ → LayerKey → Type 0) → slice_get names i ≡ Some rule → i < length marks
    → ((k : ℕ) (key : LayerKey) → k < i → IsMarkedInput names marks k key → P k key) → ((key : LayerKey) → slice_index_or marks i false ≡ true → rule.form ≡ form.Input key → P i key)
    → (k : ℕ) (key : LayerKey) → k < i + 1 → IsMarkedInput names marks k key → P k key
inputs_more names marks i rule P at inside had here k key lt is = elim (ℕ_discrete k i) [
  | yes e ↦
      let same : is.0 ≡ rule = one_rule (slice_get names i) is.0 rule (subst (λ n. slice_get names n ≡ Some is.0) e is.1) at in
      let marked : slice_get marks i ≡ Some true = subst (λ n. slice_get marks n ≡ Some true) e is.3 in
      let read : slice_index_or marks i false ≡ true = (let f : Some (slice_index_or marks i false) ≡ Some true = sym (slice_get-get_or marks i false inside) ∙ marked in cc) in
      subst (λ n. P n key) (sym e) (here key read (ap (λ (r : LayerRule). r.form) (sym same) ∙ is.2))
  | no n ↦ had k key (omega arith) is
]
  where
    one_rule : (o : Option LayerRule) (a b : LayerRule) → o ≡ Some a → o ≡ Some b → a ≡ b
    one_rule o a b e f = let g : Some a ≡ Some b = sym e ∙ f in cc
