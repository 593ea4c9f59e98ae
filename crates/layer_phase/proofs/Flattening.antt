-- Flat squares of names among those looked at.
use Rattle.std.proofs.Common.{◌≡◌, ◌⊎◌, ◌↔◌, inl, inr, ℕ, zero, suc, ◌<◌, ◌≤◌, ◌+◌, ℤ, pos, negsuc, max, unsigned_abs, Bool, true, false, ◌==◌, List, [], ◌∷◌, ◌++◌, Option, Some, refl, sym, ap, ◌∙◌, subst, arith, drop, length, length-append, get_or, slice_get}
use Rattle.base_laws.proofs.Items.{push_cases, push_old, get_last}
use Rattle.std.proofs.Math.Decide.{ℕ_discrete}
use Rattle.std.proofs.lemmas.Int.{ints}
use Rattle.std.proofs.Math.Nat.{le-max_left, le-max_right}
use Rattle.std.proofs.lemmas.Bool.{cases_lt, eqb-true}
use Rattle.std.proofs.lemmas.List.{at_drop_more, get_or_append_left, get_or_push, get_or_past}
use Rattle.std.proofs.lemmas.Option.{get_or_from_slice_get, slice_get-get_or, none-some}
use Rattle.geo_base.specs.declared.layer.LayerKey.{LayerKey}
use Rattle.geo_base.specs.declared.layer.Op.{Op}
use Rattle.geo_base.specs.declared.layer.Op.TheVariants.{And, Or, Not, Xor}
use Rattle.geo_base.specs.declared.shapes.Rect.{Rect}
use Rattle.geo_base.specs.declared.shapes.Square.{Square}
use Rattle.rect_sets.specs.Rects.{covers}
use Rattle.geo_base.specs.Layers.{combined}
use Rattle.flat_layout.specs.Layers.{Formula, Input, Empty, Binary, Sized, inputs, reach, InFlat, Combines}
use Rattle.flat_layout.specs.Layout.{InFlatInput, Some_of}
use Rattle.flat_layout.specs.Plane.{AreWithin, IsSized}
use Rattle.flat_layout.specs.Values.{IsLocalLayer}
use Rattle.flat_laws.proofs.Moves.{farther, wider, within_none, within_same}
use Rattle.sized_layers.specs.Sizes.{IsSetWithin, IsSize, growth}
use Rattle.cell_graph.specs.Linked.{Linked, IsSound, cell_at, own_of, places_at, plain}
use Rattle.cell_context.proofs.Gathering.{over_flat}
use Rattle.rule_text.specs.declared.rules.LayerForm.{LayerForm}
use Rattle.rule_text.specs.declared.rules.LayerForm.TheVariants as form
use Rattle.rule_text.specs.declared.rules.LayerRule.{LayerRule}
use Rattle.rule_layers.specs.Formulas.{formulas, formula_by, formulas_behind}
use Rattle.layer_phase.specs.Looks.{IsInput}
use Rattle.cell_context.specs.Placed.{Grows}
use Rattle.layer_phase.specs.Names.{AreFlats, AreLocals, IsFlatIn}
use Rattle.layer_phase.proofs.Around.{wider_set}

-- one operator on squares among those looked at
op_to : (op : Op) (L A B : Type 0) (a b : Bool) → (a ≡ true → L × A) → (L × A → a ≡ true) → (b ≡ true → L × B) → (L × B → b ≡ true) → combined op a b ≡ true → L × Combines op A B
op_to And L A B true true fa ga fb gb e = ((fa refl).0, ((fa refl).1, (fb refl).1))
op_to And L A B true false fa ga fb gb e = absurd (let z : ⊥ = cc in z)
op_to And L A B false b fa ga fb gb e = absurd (let z : ⊥ = cc in z)
op_to Or L A B true b fa ga fb gb e = ((fa refl).0, inl (fa refl).1)
op_to Or L A B false true fa ga fb gb e = ((fb refl).0, inr (fb refl).1)
op_to Or L A B false false fa ga fb gb e = absurd (let z : ⊥ = cc in z)
op_to Not L A B true true fa ga fb gb e = absurd (let z : ⊥ = cc in z)
op_to Not L A B true false fa ga fb gb e = ((fa refl).0, ((fa refl).1, λ h. let f : false ≡ true = gb ((fa refl).0, h) in let z : ⊥ = cc in z))
op_to Not L A B false b fa ga fb gb e = absurd (let z : ⊥ = cc in z)
op_to Xor L A B true true fa ga fb gb e = absurd (let z : ⊥ = cc in z)
op_to Xor L A B true false fa ga fb gb e = ((fa refl).0, inl ((fa refl).1, λ h. let f : false ≡ true = gb ((fa refl).0, h) in let z : ⊥ = cc in z))
op_to Xor L A B false true fa ga fb gb e = ((fb refl).0, inr ((fb refl).1, λ h. let f : false ≡ true = ga ((fb refl).0, h) in let z : ⊥ = cc in z))
op_to Xor L A B false false fa ga fb gb e = absurd (let z : ⊥ = cc in z)

op_from : (op : Op) (L A B : Type 0) (a b : Bool) → (a ≡ true → L × A) → (L × A → a ≡ true) → (b ≡ true → L × B) → (L × B → b ≡ true) → L × Combines op A B → combined op a b ≡ true
op_from And L A B true true fa ga fb gb h = refl
op_from And L A B true false fa ga fb gb h = gb (h.0, h.1.1)
op_from And L A B false b fa ga fb gb h = ga (h.0, h.1.0)
op_from Or L A B true b fa ga fb gb h = refl
op_from Or L A B false true fa ga fb gb h = refl
op_from Or L A B false false fa ga fb gb h = elim h.1 [ inl x ↦ ga (h.0, x) | inr y ↦ gb (h.0, y) ]
op_from Not L A B true true fa ga fb gb h = absurd (h.1.1 (fb refl).1)
op_from Not L A B true false fa ga fb gb h = refl
op_from Not L A B false b fa ga fb gb h = ga (h.0, h.1.0)
op_from Xor L A B true true fa ga fb gb h = elim h.1 [ inl x ↦ absurd (x.1 (fb refl).1) | inr y ↦ absurd (y.1 (fa refl).1) ]
op_from Xor L A B true false fa ga fb gb h = refl
op_from Xor L A B false true fa ga fb gb h = refl
op_from Xor L A B false false fa ga fb gb h = elim h.1 [ inl x ↦ ga (h.0, x.0) | inr y ↦ gb (h.0, y.0) ]

op_some : (op : Op) (a b : Bool) → combined op a b ≡ true → (a ≡ true) ⊎ (b ≡ true)
op_some op true b e = inl refl
op_some op false true e = inr refl
op_some And false false e = absurd (let z : ⊥ = cc in z)
op_some Or false false e = absurd (let z : ⊥ = cc in z)
op_some Not false false e = absurd (let z : ⊥ = cc in z)
op_some Xor false false e = absurd (let z : ⊥ = cc in z)

no_more : (n m : ℕ) → n ≤ m → m ≡ 0 → n ≡ 0
no_more n m le e = omega arith

pub flat_of_two : (d : Linked) (cell : ℕ) (looks : List Rect) (op : Op) (x y : Formula) (a b r : List Rect) → ((s : Square) → covers r s ≡ combined op (covers a s) (covers b s))
    → IsFlatIn d cell looks x a → IsFlatIn d cell looks y b → IsFlatIn d cell looks (Binary op x y) r
flat_of_two d cell looks op x y a b r e h g = record {
  right = λ q held.
      let one = h.right q (λ z near. held z (wider (reach x) (max (reach x) (reach y)) z q (le-max_left (reach x) (reach y)) near)) in
      let two = g.right q (λ z near. held z (wider (reach y) (max (reach x) (reach y)) z q (le-max_right (reach x) (reach y)) near)) in
      let A = InFlat (plain d) cell x q in let B = InFlat (plain d) cell y q in (
        (λ c. (op_to op (Unit {0}) A B (covers a q) (covers b q) (λ i. (tt, one.0 i)) (λ p. one.1 p.1) (λ i. (tt, two.0 i)) (λ p. two.1 p.1) (sym (e q) ∙ c)).1),
        (λ c. e q ∙ op_from op (Unit {0}) A B (covers a q) (covers b q) (λ i. (tt, one.0 i)) (λ p. one.1 p.1) (λ i. (tt, two.0 i)) (λ p. two.1 p.1) (tt, c)),
      );
  inside = λ none q c. elim (op_some op (covers a q) (covers b q) (sym (e q) ∙ c)) [
    | inl i ↦ h.inside (no_more (reach x) (max (reach x) (reach y)) (le-max_left (reach x) (reach y)) none) q i
    | inr i ↦ g.inside (no_more (reach y) (max (reach x) (reach y)) (le-max_right (reach x) (reach y)) none) q i
  ];
  range = λ m near q c. elim (op_some op (covers a q) (covers b q) (sym (e q) ∙ c)) [
    | inl i ↦ wider_set (m + reach x) (m + max (reach x) (reach y)) a (let le = le-max_left (reach x) (reach y) in omega arith) (h.range m near) q i
    | inr i ↦ wider_set (m + reach y) (m + max (reach x) (reach y)) b (let le = le-max_right (reach x) (reach y) in omega arith) (g.range m near) q i
  ];
}

-- sets that are one wherever it counts are one when sized
sized_same : (by : ℤ) (A B : Square → Type 0) (q : Square) → ((z : Square) → AreWithin (unsigned_abs by) z q → A z ↔ B z) → IsSized by A q ↔ IsSized by B q
sized_same (pos n) A B q same = (
  (λ h. record { square = h.square; within = h.within; has = (same h.square h.within).0 h.has }),
  (λ h. record { square = h.square; within = h.within; has = (same h.square h.within).1 h.has }),
)
sized_same (negsuc n) A B q same = ((λ h z near. (same z near).0 (h z near)), (λ h z near. (same z near).1 (h z near)))

sized_inside : (by : ℤ) (n : ℕ) (a places : List Rect) (q : Square) → n + unsigned_abs by ≡ 0 → (n ≡ 0 → Grows a places) → IsSized by (λ (s : Square). covers a s ≡ true) q → covers places q ≡ true
sized_inside (pos k) n a places q none inside h =
    let here : k ≡ 0 = omega (arith, none) in
    let same : h.square ≡ q = within_none h.square q (subst (λ m. AreWithin m h.square q) here h.within) in
    inside (omega (arith, none)) q (subst (λ (s : Square). covers a s ≡ true) same h.has)
sized_inside (negsuc k) n a places q none inside h = absurd (let z : ⊥ = omega (arith, none) in z)

growth_most : (by : ℤ) → growth by ≤ unsigned_abs by
growth_most (pos n) = omega arith
growth_most (negsuc n) = omega arith

pub sized_flats : (d : Linked) (cell : ℕ) (places : List Rect) (by : ℤ) (x : Formula) (a r : List Rect) → ((s : Square) → (covers r s ≡ true) ↔ IsSized by (λ (q : Square). covers a q ≡ true) s)
    → ((n : ℕ) → IsSetWithin n a → IsSetWithin (n + growth by) r) → IsFlatIn d cell places x a → IsFlatIn d cell places (Sized by x) r
sized_flats d cell places by x a r is range h = record {
  right = λ q held.
      let same = sized_same by (λ (s : Square). covers a s ≡ true) (InFlat (plain d) cell x) q
      (λ z near. h.right z (λ w close. held w (farther (reach x) (unsigned_abs by) w z q close near))) in
      ((λ c. same.0 ((is q).0 c)), (λ f. (is q).1 (same.1 f)));
  inside = λ none q c. sized_inside by (reach x) a places q none h.inside ((is q).0 c);
  range = λ m near. wider_set ((m + reach x) + growth by) (m + (reach x + unsigned_abs by)) r (let le = growth_most by in omega (arith, le)) (range (m + reach x) (h.range m near));
}

-- how far a layer may be sized, by how far the name reaches
pub is_size : (by : ℤ) (n : ℕ) → n + unsigned_abs by ≤ 10000 → IsSize by
is_size (pos k) n le = record { low = omega (arith, ints); high = omega (arith, ints) }
is_size (negsuc k) n le = record { low = omega (arith, ints); high = omega (arith, ints) }

-- nothing is flat for an empty name
pub no_flat : (d : Linked) (cell : ℕ) (looks : List Rect) → IsFlatIn d cell looks Empty []
no_flat d cell looks = record {
  right = λ q held. ((λ e. let f : false ≡ true = e in absurd (let z : ⊥ = cc in z)), (λ h. absurd h));
  inside = λ none q e. let f : false ≡ true = e in absurd (let z : ⊥ = cc in z);
  range = λ m near q e. let f : false ≡ true = e in absurd (let z : ⊥ = cc in z);
}

-- an input layer reaches no further than its squares
pub input_flats : (d : Linked) (cell : ℕ) (key : LayerKey) (places set : List Rect) → ((q : Square) → (covers set q ≡ true) ↔ ((covers places q ≡ true) × InFlatInput (plain d) cell key q)) → IsFlatIn d cell places (Input key) set
input_flats d cell key places set is = record {
  right = λ q held. ((λ e. ((is q).0 e).1), (λ h. (is q).1 (held q (within_same 0 q), h)));
  inside = λ none q e. ((is q).0 e).0;
  range = λ m near. wider_set m (m + 0) set (omega arith) (λ q e. near q ((is q).0 e).0);
}

pub flats_more : (d : Linked) (cell : ℕ) (looks : List Rect) (trees : List Formula) (tree : Formula) (sets : List (List Rect)) (set : List Rect) → length sets ≡ length trees
    → AreFlats d cell looks trees sets → IsFlatIn d cell looks tree set → AreFlats d cell looks (trees ++ tree ∷ []) (sets ++ set ∷ [])
flats_more d cell looks trees tree sets set count h is k = elim (cases_lt k (length trees)) [
  | inl below ↦
      subst (λ t. IsFlatIn d cell looks t (get_or (sets ++ set ∷ []) k [])) (sym (get_or_append_left trees (tree ∷ []) Empty k below))
      (subst (IsFlatIn d cell looks (get_or trees k Empty)) (sym (get_or_append_left sets (set ∷ []) [] k (subst (λ n. k < n) (sym count) below))) (h k))
  | inr from ↦ elim (ℕ_discrete k (length trees)) [
    | yes e ↦
        subst (λ t. IsFlatIn d cell looks t (get_or (sets ++ set ∷ []) k [])) (sym (get_or_push trees tree Empty k (sym e)))
        (subst (IsFlatIn d cell looks tree) (sym (get_or_push sets set [] k (count ∙ sym e))) is)
    | no n ↦
        let a : length (trees ++ tree ∷ []) ≤ k = (let m = length-append trees (tree ∷ []) in omega arith) in
        let b : length (sets ++ set ∷ []) ≤ k = (let m = length-append sets (set ∷ []) in omega arith) in
        subst (λ t. IsFlatIn d cell looks t (get_or (sets ++ set ∷ []) k [])) (sym (get_or_past (trees ++ tree ∷ []) k Empty a))
        (subst (IsFlatIn d cell looks Empty) (sym (get_or_past (sets ++ set ∷ []) k [] b)) (no_flat d cell looks))
  ]
]

-- names before stay where they are
pub behind_stays : (before : List Formula) (names : List LayerRule) (k : ℕ) (x : Formula) → slice_get before k ≡ Some x → slice_get (formulas_behind before names) k ≡ Some x
behind_stays before [] k x e = e
behind_stays before (n ∷ names) k x e = behind_stays (before ++ formula_by before n.form ∷ []) names k x (push_old before (formula_by before n.form) x k e)

-- the trees of what is left of the names
pub one_on : (trees : List Formula) (names : List LayerRule) (i : ℕ) (rule : LayerRule) → i < length names → get_or names i rule ≡ rule
    → formulas_behind (trees ++ formula_by trees rule.form ∷ []) (drop (i + 1) names) ≡ formulas_behind trees (drop i names)
one_on trees names i rule lt is =
    sym (at_drop_more (formulas_behind trees) names i rule lt
    ∙ ap (λ (r : LayerRule). formulas_behind (trees ++ formula_by trees r.form ∷ []) (drop (i + 1) names)) is)

-- how far the next form reaches, where no tree reaches further
pub form_reach : (before : List Formula) (names rest : List LayerRule) (name : ℕ) (f : LayerForm) (a : ℕ) (by : ℤ) → length before ≡ name → formulas_behind (before ++ formula_by before f ∷ []) rest ≡ formulas names → f ≡ form.Sized a by
    → ((k : ℕ) → reach (get_or (formulas names) k Empty) ≤ 10000) → reach (get_or before a Empty) + unsigned_abs by ≤ 10000
form_reach before names rest name f a by count on is near =
    let tree = formula_by before f in
    let there : slice_get (formulas names) (length before) ≡ Some tree = subst (λ (l : List Formula). slice_get l (length before) ≡ Some tree) on (behind_stays (before ++ tree ∷ []) rest (length before) tree (get_last before tree)) in
    let at : get_or (formulas names) (length before) Empty ≡ tree = get_or_from_slice_get (formulas names) (length before) tree Empty there in
    subst (λ (x : LayerForm). reach (formula_by before x) ≤ 10000) is (subst (λ (t : Formula). reach t ≤ 10000) at (near (length before)))

-- each name has a tree
pub count_behind : (before : List Formula) (names : List LayerRule) → length (formulas_behind before names) ≡ length before + length names
count_behind before [] = omega arith
count_behind before (n ∷ names) = let r = count_behind (before ++ formula_by before n.form ∷ []) names in let m = length-append before (formula_by before n.form ∷ []) in omega arith

-- the tree of an input layer
pub input_tree : (before : List Formula) (names : List LayerRule) (k : ℕ) (key : LayerKey) → IsInput names k key → slice_get (formulas_behind before names) (length before + k) ≡ Some (Input key)
input_tree before [] k key is = absurd (none-some is.0 is.1)
input_tree before (n ∷ names) zero key is =
    let same : n ≡ is.0 = (let e : Some n ≡ Some is.0 = is.1 in cc) in
    let tree : formula_by before n.form ≡ Input key = ap (λ (r : LayerRule). formula_by before r.form) same ∙ ap (formula_by before) is.2 in
    let place : length before ≡ length before + 0 = omega arith in
    behind_stays (before ++ formula_by before n.form ∷ []) names (length before + 0) (Input key)
    (subst (λ i. slice_get (before ++ formula_by before n.form ∷ []) i ≡ Some (Input key)) place (get_last before (formula_by before n.form) ∙ ap Some tree))
input_tree before (n ∷ names) (suc k) key is =
    let m = length-append before (formula_by before n.form ∷ []) in
    let place : length (before ++ formula_by before n.form ∷ []) + k ≡ length before + suc k = omega arith in
    subst (λ i. slice_get (formulas_behind (before ++ formula_by before n.form ∷ []) names) i ≡ Some (Input key)) place (input_tree (before ++ formula_by before n.form ∷ []) names k key is)

-- what trees read are input layers among the names
abbrev Known : List LayerRule → List Formula → Type 0
Known all trees = (i : ℕ) (x : Formula) → slice_get trees i ≡ Some x → (key : LayerKey) → Some_of (λ k. k ≡ key) (inputs x) → (j : ℕ) × IsInput all j key

some_split : {A : Type 0} (P : A → Type 0) (xs ys : List A) → Some_of P (xs ++ ys) → Some_of P xs ⊎ Some_of P ys
some_split P [] ys h = inr h
some_split P (x ∷ xs) ys (inl h) = inl (inl h)
some_split P (x ∷ xs) ys (inr h) = elim (some_split P xs ys h) [ inl g ↦ inl (inr g) | inr g ↦ inr g ]

tree_at : (all : List LayerRule) (before : List Formula) (a : ℕ) (key : LayerKey) → Known all before → Some_of (λ k. k ≡ key) (inputs (get_or before a Empty)) → (j : ℕ) × IsInput all j key
tree_at all before a key known listed = elim (cases_lt a (length before)) [
  | inl lt ↦ known a (get_or before a Empty) (slice_get-get_or before a Empty lt) key listed
  | inr le ↦ absurd (subst (λ x. Some_of (λ k. k ≡ key) (inputs x)) (get_or_past before a Empty (omega (arith, le))) listed)
]

form_known : (all : List LayerRule) (before : List Formula) (n : ℕ) (rule : LayerRule) (f : LayerForm) (key : LayerKey) → rule.form ≡ f → slice_get all n ≡ Some rule → Known all before
    → Some_of (λ k. k ≡ key) (inputs (formula_by before f)) → (j : ℕ) × IsInput all j key
form_known all before n rule (form.Input k) key e at known (inl same) = (n, (rule, at, e ∙ ap form.Input same))
form_known all before n rule (form.Input k) key e at known (inr none) = absurd none
form_known all before n rule (form.Labels k) key e at known listed = absurd listed
form_known all before n rule form.Empty key e at known listed = absurd listed
form_known all before n rule (form.Binary op a b) key e at known listed = elim (some_split (λ k. k ≡ key) (inputs (get_or before a Empty)) (inputs (get_or before b Empty)) listed) [
  | inl h ↦ tree_at all before a key known h
  | inr h ↦ tree_at all before b key known h
]
form_known all before n rule (form.Sized a by) key e at known listed = tree_at all before a key known listed

known_behind : (all : List LayerRule) (before : List Formula) (rest : List LayerRule) (n : ℕ) → ((k : ℕ) (rule : LayerRule) → slice_get rest k ≡ Some rule → slice_get all (n + k) ≡ Some rule) → Known all before → Known all (formulas_behind before rest)
known_behind all before [] n at known = known
known_behind all before (rule ∷ rest) n at known =
    let here : slice_get all n ≡ Some rule = (let z : n + 0 ≡ n = omega arith in subst (λ i. slice_get all i ≡ Some rule) z (at 0 rule refl)) in
    known_behind all (before ++ formula_by before rule.form ∷ []) rest (n + 1)
    (λ k r e. let z : n + suc k ≡ (n + 1) + k = omega arith in subst (λ i. slice_get all i ≡ Some r) z (at (suc k) r e))
    (λ i x e key listed. elim (push_cases before (formula_by before rule.form) x i e) [
      | inl old ↦ known i x old key listed
      | inr new ↦ form_known all before n rule rule.form key refl here known (subst (λ t. Some_of (λ k. k ≡ key) (inputs t)) (sym new.1) listed)
    ])

pub known : (names : List LayerRule) (i : ℕ) (x : Formula) (key : LayerKey) → slice_get (formulas names) i ≡ Some x → Some_of (λ k. k ≡ key) (inputs x) → (j : ℕ) × IsInput names j key
known names i x key at listed =
    known_behind names [] names 0 (λ k rule e. let z : k ≡ 0 + k = omega arith in subst (λ n. slice_get names n ≡ Some rule) z e) (λ j y e. absurd (none-some y e)) i x at key listed

pub named : (names : List LayerRule) (k : ℕ) (key : LayerKey) → IsInput names k key → slice_get (formulas names) k ≡ Some (Input key)
named names k key is = let z : 0 + k ≡ k = omega arith in subst (λ n. slice_get (formulas names) n ≡ Some (Input key)) z (input_tree [] names k key is)

pub any_default : {A : Type 0} (xs : List A) (k : ℕ) (a b : A) → k < length xs → get_or xs k a ≡ get_or xs k b
any_default [] k a b lt = absurd (let z : ⊥ = omega arith in z)
any_default (x ∷ xs) zero a b lt = refl
any_default (x ∷ xs) (suc k) a b lt = any_default xs k a b (omega arith)

one_tree : (o : Option Formula) (a b : Formula) → o ≡ Some a → o ≡ Some b → a ≡ b
one_tree o a b e f = let g : Some a ≡ Some b = sym e ∙ f in cc

pub locals_more : (d : Linked) (cell : ℕ) (all : List Formula) (x : Formula) (sets : List (List Rect)) (set : List Rect) → slice_get all (length sets) ≡ Some x → AreLocals d cell all sets
    → IsLocalLayer (plain d) x cell set → AreLocals d cell all (sets ++ set ∷ [])
locals_more d cell all x sets set at h is k y s there found = elim (push_cases sets set s k found) [
  | inl old ↦ h k y s there old
  | inr new ↦
      let same : y ≡ x = one_tree (slice_get all (length sets)) y x (subst (λ i. slice_get all i ≡ Some y) new.0 there) at in
      subst (λ t. IsLocalLayer (plain d) t cell s) (sym same) (subst (IsLocalLayer (plain d) x cell) new.1 is)
]

no_items : {A : Type 0} (xs : List A) → (length xs == 0) ≡ true → xs ≡ []
no_items [] e = refl
no_items (x ∷ xs) e = let z : suc (length xs) ≡ 0 = eqb-true _ _ e in absurd (let w : ⊥ = omega arith in w)

-- a cell that places no other has its own squares alone
pub leaf_flat : (d : Linked) (cell : ℕ) (key : LayerKey) (looks set : List Rect) → IsSound d → (length (places_at (cell_at d cell)) == 0) ≡ true → Grows (own_of (cell_at d cell) key) looks
    → ((q : Square) → covers set q ≡ covers (own_of (cell_at d cell) key) q) → IsFlatIn d cell looks (Input key) set
leaf_flat d cell key looks set sound none grows same =
    let empty = no_items (places_at (cell_at d cell)) none in
    input_flats d cell key looks set (λ q.
    let over = over_flat d sound cell key q in (
      (λ e. let o = sym (same q) ∙ e in (grows q o, over.0 (inl o))),
      (λ h. same q ∙ elim (over.1 h.1) [
        | inl o ↦ o
        | inr t ↦ absurd (none-some t.from (subst (λ l. slice_get l t.index ≡ Some t.from) empty t.step.there))
      ]),
    ))
