-- Lists made name by name, each entry from those of the names before it.
use Rattle.std.proofs.Common.{◌≡◌, inl, inr, ℕ, zero, suc, ◌+◌, ◌<◌, None, List, [], ◌∷◌, ◌++◌, Some, refl, sym, ap, ◌∙◌, subst, arith, length, length-append, get_or, slice_get, max}
use Rattle.base_laws.proofs.Items.{get_last, get_left}
use Rattle.std.proofs.lemmas.List.{get_or_append_left}
use Rattle.std.proofs.lemmas.Option.{get_or_from_slice_get}
use Rattle.flat_layout.specs.Layers.{Formula, Empty, Binary, Sized}
use Rattle.rule_text.specs.declared.rules.LayerForm.{LayerForm}
use Rattle.rule_text.specs.declared.rules.LayerForm.TheVariants as form
use Rattle.rule_text.specs.declared.rules.LayerRule.{LayerRule}
use Rattle.rule_text.specs.declared.rules.SelectRule.{SelectRule}
use Rattle.rule_layers.specs.Formulas.{formulas, formulas_behind, formula_by}
use Rattle.rule_layers.specs.Reads.{Reads}
use Rattle.rule_stages.specs.Depths.{select_at, form_depth, depth_by, depths_behind}

abbrev fold : {A : Type 0} → (List A → LayerRule → A) → List A → List LayerRule → List A
fold step before [] = before
fold step before (n ∷ names) = fold step (before ++ step before n ∷ []) names

fold_front : {A : Type 0} (step : List A → LayerRule → A) (before : List A) (names : List LayerRule) (i : ℕ) (d : A) → i < length before → get_or (fold step before names) i d ≡ get_or before i d
fold_front step before [] i d lt = refl
fold_front step before (n ∷ names) i d lt =
    let long = length-append before (step before n ∷ []) in
    fold_front step (before ++ step before n ∷ []) names i d (omega (arith, lt, long)) ∙ get_or_append_left before (step before n ∷ []) d i lt

fold_keeps : {A : Type 0} (step : List A → LayerRule → A) (before : List A) (names : List LayerRule) (i : ℕ) (x : A) → slice_get before i ≡ Some x → slice_get (fold step before names) i ≡ Some x
fold_keeps step before [] i x at = at
fold_keeps step before (n ∷ names) i x at = fold_keeps step (before ++ step before n ∷ []) names i x (get_left before (step before n ∷ []) i x at)

fold_long : {A : Type 0} (step : List A → LayerRule → A) (before : List A) (names : List LayerRule) → length (fold step before names) ≡ length before + length names
fold_long step before [] = omega arith
fold_long step before (n ∷ names) =
    let long = length-append before (step before n ∷ []) in let rest = fold_long step (before ++ step before n ∷ []) names in omega (arith, long, rest)

-- an entry, by a list that has the entries before it
record IsStep {A : Type 0} (step : List A → LayerRule → A) (all : List A) (n : LayerRule) (k : ℕ) : Type 0 where
  pub before : List A
  pub long : length before ≡ k
  pub front : (i : ℕ) (d : A) → i < k → get_or all i d ≡ get_or before i d
  pub value : slice_get all k ≡ Some (step before n)

fold_step : {A : Type 0} (step : List A → LayerRule → A) (before : List A) (names : List LayerRule) (k : ℕ) (n : LayerRule) → slice_get names k ≡ Some n → IsStep step (fold step before names) n (length before + k)
fold_step step before [] k n at = absurd (let w : ⊥ = cc in w)
fold_step step before (m ∷ names) zero n at =
    let same : m ≡ n = cc in
    let zero_on : length before + 0 ≡ length before = omega arith in
    record {
      before = before;
      long = sym zero_on;
      front = λ i d lt. let in_ : i < length before = omega (arith, lt) in fold_front step before (m ∷ names) i d in_;
      value = subst (λ j. slice_get (fold step before (m ∷ names)) j ≡ Some (step before n)) (sym zero_on)
          (fold_keeps step (before ++ step before m ∷ []) names (length before) (step before n) (get_last before (step before m) ∙ ap (λ (x : LayerRule). Some (step before x)) same));
    }
fold_step step before (m ∷ names) (suc k) n at =
    let long = length-append before (step before m ∷ []) in
    let on : length (before ++ step before m ∷ []) + k ≡ length before + suc k = omega (arith, long) in
    subst (λ j. IsStep step (fold step before (m ∷ names)) n j) on (fold_step step (before ++ step before m ∷ []) names k n at)

-- of all names
fold_at : {A : Type 0} (step : List A → LayerRule → A) (names : List LayerRule) (k : ℕ) (n : LayerRule) → slice_get names k ≡ Some n → IsStep step (fold step [] names) n k
fold_at {A} step names k n at =
    let zero_on : length {A = A} [] + k ≡ k = omega arith in
    subst (λ j. IsStep step (fold step [] names) n j) zero_on (fold_step step [] names k n at)

-- trees

abbrev tree_step : List Formula → LayerRule → Formula
tree_step before n = formula_by before n.form

trees_are : (before : List Formula) (names : List LayerRule) → formulas_behind before names ≡ fold tree_step before names
trees_are before [] = refl
trees_are before (n ∷ names) = trees_are (before ++ formula_by before n.form ∷ []) names

-- a form has one tree over lists that agree on what it reads
pub form_tree : (xs ys : List Formula) (f : LayerForm) → ((j : ℕ) → Reads f j → get_or xs j Empty ≡ get_or ys j Empty) → formula_by xs f ≡ formula_by ys f
form_tree xs ys (form.Input key) h = refl
form_tree xs ys (form.Labels key) h = refl
form_tree xs ys form.Empty h = refl
form_tree xs ys (form.Binary op a b) h = ap (λ x. Binary op x (get_or xs b Empty)) (h a (inl refl)) ∙ ap (Binary op (get_or ys a Empty)) (h b (inr refl))
form_tree xs ys (form.Sized a by) h = ap (Sized by) (h a refl)

pub tree_there : (names : List LayerRule) (k : ℕ) (n : LayerRule) → slice_get names k ≡ Some n → ((j : ℕ) → Reads n.form j → j < k) → slice_get (formulas names) k ≡ Some (formula_by (formulas names) n.form)
tree_there names k n at below =
    let s = fold_at tree_step names k n at in
    let is = trees_are [] names in
    let value : slice_get (formulas names) k ≡ Some (formula_by s.before n.form) = ap (λ (l : List Formula). slice_get l k) is ∙ s.value in
    value ∙ ap Some (form_tree s.before (formulas names) n.form (λ j reads. sym (ap (λ (l : List Formula). get_or l j Empty) is ∙ s.front j Empty (below j reads))))

pub tree_at : (names : List LayerRule) (k : ℕ) (n : LayerRule) → slice_get names k ≡ Some n → ((j : ℕ) → Reads n.form j → j < k) → get_or (formulas names) k Empty ≡ formula_by (formulas names) n.form
tree_at names k n at below = get_or_from_slice_get (formulas names) k (formula_by (formulas names) n.form) Empty (tree_there names k n at below)

pub trees_long : (names : List LayerRule) → length (formulas names) ≡ length names
trees_long names = ap length (trees_are [] names) ∙ fold_long tree_step [] names ∙ (let z : length {A = Formula} [] + length names ≡ length names = omega arith in z)

-- depths

abbrev depth_step : List SelectRule → List ℕ → LayerRule → ℕ
depth_step selects before n = depth_by before (select_at selects (length before)) n.form

depths_are : (selects : List SelectRule) (before : List ℕ) (names : List LayerRule) → depths_behind selects before names ≡ fold (depth_step selects) before names
depths_are selects before [] = refl
depths_are selects before (n ∷ names) = depths_are selects (before ++ depth_by before (select_at selects (length before)) n.form ∷ []) names

pub same_depth : (xs ys : List ℕ) (f : LayerForm) → ((j : ℕ) → Reads f j → get_or xs j 0 ≡ get_or ys j 0) → form_depth xs f ≡ form_depth ys f
same_depth xs ys (form.Input key) h = refl
same_depth xs ys (form.Labels key) h = refl
same_depth xs ys form.Empty h = refl
same_depth xs ys (form.Binary op a b) h = ap (λ n. max n (get_or xs b 0)) (h a (inl refl)) ∙ ap (λ n. max (get_or ys a 0) n) (h b (inr refl))
same_depth xs ys (form.Sized a by) h = h a refl

-- that of a name that is no selection
pub plain_depth : (selects : List SelectRule) (names : List LayerRule) (k : ℕ) (n : LayerRule) → slice_get names k ≡ Some n → select_at selects k ≡ None → ((j : ℕ) → Reads n.form j → j < k)
    → get_or (depths_behind selects [] names) k 0 ≡ form_depth (depths_behind selects [] names) n.form
plain_depth selects names k n at none below =
    let s = fold_at (depth_step selects) names k n at in
    let is = depths_are selects [] names in
    ap (λ (l : List ℕ). get_or l k 0) is
    ∙ get_or_from_slice_get (fold (depth_step selects) [] names) k _ 0 s.value
    ∙ ap (λ o. depth_by s.before o n.form) (ap (select_at selects) s.long ∙ none)
    ∙ same_depth s.before (depths_behind selects [] names) n.form (λ j reads. sym (ap (λ (l : List ℕ). get_or l j 0) is ∙ s.front j 0 (below j reads)))

-- and of one that is
pub select_depth : (selects : List SelectRule) (names : List LayerRule) (k : ℕ) (n : LayerRule) (x : SelectRule) → slice_get names k ≡ Some n → select_at selects k ≡ Some x → x.region < k → x.other < k
    → get_or (depths_behind selects [] names) k 0 ≡ max (get_or (depths_behind selects [] names) x.region 0) (get_or (depths_behind selects [] names) x.other 0) + 1
select_depth selects names k n x at is_select region other =
    let s = fold_at (depth_step selects) names k n at in
    let is = depths_are selects [] names in
    let front : (j : ℕ) → j < k → get_or s.before j 0 ≡ get_or (depths_behind selects [] names) j 0 = λ j lt. sym (ap (λ (l : List ℕ). get_or l j 0) is ∙ s.front j 0 lt) in
    ap (λ (l : List ℕ). get_or l k 0) is
    ∙ get_or_from_slice_get (fold (depth_step selects) [] names) k _ 0 s.value
    ∙ ap (λ o. depth_by s.before o n.form) (ap (select_at selects) s.long ∙ is_select)
    ∙ ap (λ m. max m (get_or s.before x.other 0) + 1) (front x.region region)
    ∙ ap (λ m. max (get_or (depths_behind selects [] names) x.region 0) m + 1) (front x.other other)
