-- What lies over names and what is left for them, one name on.
use Rattle.std.proofs.Common.{◌≡◌, inl, inr, ◌<◌, ◌≤◌, ◌+◌, ◌-◌, ℕ, zero, suc, refl, None, true, false, List, [], ◌∷◌, ◌++◌, map, take, append_assoc, Some, sym, ap, ◌∙◌, subst, arith, drop, length, length-append, get_or, slice_get, Option}
use Rattle.base_laws.proofs.Items.{push_cases, push_old, get_last}
use Rattle.std.specs.List.{All}
use Rattle.std.proofs.lemmas.Bool.{cases_lt}
use Rattle.std.proofs.lemmas.List.{at_drop_all, at_drop_more, get_or_append_left, get_or_push, get_or_past, map-append, take_all, take_more}
use Rattle.std.proofs.lemmas.Option.{get_or_from_slice_get, slice_get-get_or, slice_get_within}
use Rattle.std.proofs.Math.Decide.{ℕ_discrete}
use Rattle.geo_base.specs.declared.shapes.Rect.{Rect}
use Rattle.rect_sets.specs.Rects.{IsCanonical}
use Rattle.flat_layout.specs.Layers.{Formula, Input, Empty, inputs}
use Rattle.flat_laws.proofs.Shut.{shut_none}
use Rattle.geo_base.specs.declared.layer.LayerKey.{LayerKey}
use Rattle.cell_graph.specs.Linked.{Linked, plain}
use Rattle.rule_text.specs.declared.rules.LayerForm.{LayerForm}
use Rattle.rule_text.specs.declared.rules.LayerForm.TheVariants as form
use Rattle.rule_text.specs.declared.rules.LayerRule.{LayerRule}
use Rattle.rule_layers.specs.Formulas.{formula_by, formulas, formulas_behind}
use Rattle.deep_tables.specs.declared.zones.CellZones.{CellZones}
use Rattle.deep_tables.specs.Frames.{IsFramedOpen}
use Rattle.zone_phase.specs.declared.uses.Use.{Use}
use Rattle.zone_phase.specs.Names.{AreDeviceOpens, AreNameOpens, AreInputsKept, ForInput, ForInputs, HaveForm, HaveInputs, IsFormKept, names_inputs}

-- for no layers nothing is left
pub framed_none : (margin : ℕ) (d : Linked) (cell : ℕ) → IsFramedOpen margin d [] cell []
framed_none margin d cell = record {
  inside = λ q e. absurd (let f : false ≡ true = e in let z : ⊥ = cc in z);
  shut = λ q inner e. shut_none d.way (plain d) cell q;
}

pub no_names : (margin : ℕ) (d : Linked) (cell : ℕ) → AreNameOpens margin d cell [] []
no_names margin d cell k = framed_none margin d cell

pub names_more : (margin : ℕ) (d : Linked) (cell : ℕ) (trees : List Formula) (tree : Formula) (sets : List (List Rect)) (set : List Rect) → length sets ≡ length trees
    → AreNameOpens margin d cell trees sets → IsFramedOpen margin d (inputs tree) cell set → AreNameOpens margin d cell (trees ++ tree ∷ []) (sets ++ set ∷ [])
names_more margin d cell trees tree sets set count h is k = elim (cases_lt k (length trees)) [
  | inl below ↦
      subst (λ t. IsFramedOpen margin d (inputs t) cell (get_or (sets ++ set ∷ []) k [])) (sym (get_or_append_left trees (tree ∷ []) Empty k below))
      (subst (IsFramedOpen margin d (inputs (get_or trees k Empty)) cell) (sym (get_or_append_left sets (set ∷ []) [] k (subst (λ n. k < n) (sym count) below))) (h k))
  | inr from ↦ elim (ℕ_discrete k (length trees)) [
    | yes e ↦
        subst (λ t. IsFramedOpen margin d (inputs t) cell (get_or (sets ++ set ∷ []) k [])) (sym (get_or_push trees tree Empty k (sym e)))
        (subst (IsFramedOpen margin d (inputs tree) cell) (sym (get_or_push sets set [] k (count ∙ sym e))) is)
    | no n ↦
        let a : length (trees ++ tree ∷ []) ≤ k = (let m = length-append trees (tree ∷ []) in omega arith) in
        let b : length (sets ++ set ∷ []) ≤ k = (let m = length-append sets (set ∷ []) in omega arith) in
        subst (λ t. IsFramedOpen margin d (inputs t) cell (get_or (sets ++ set ∷ []) k [])) (sym (get_or_past (trees ++ tree ∷ []) k Empty a))
        (subst (IsFramedOpen margin d [] cell) (sym (get_or_past (sets ++ set ∷ []) k [] b)) (framed_none margin d cell))
  ]
]

-- names before stay where they are
pub behind_stays : (before : List Formula) (names : List LayerRule) (k : ℕ) (x : Formula) → slice_get before k ≡ Some x → slice_get (formulas_behind before names) k ≡ Some x
behind_stays before [] k x e = e
behind_stays before (n ∷ names) k x e = behind_stays (before ++ formula_by before n.form ∷ []) names k x (push_old before (formula_by before n.form) x k e)

-- the trees of what is left of the names
pub one_on : (trees : List Formula) (names : List LayerRule) (i : ℕ) (rule : LayerRule) → i < length names → get_or names i rule ≡ rule
    → formulas_behind (trees ++ formula_by trees rule.form ∷ []) (drop (i + 1) names) ≡ formulas_behind trees (drop i names)
one_on trees names i rule lt is =
    sym (at_drop_more (formulas_behind trees) names i rule lt
    ∙ ap (λ (r : LayerRule). formulas_behind (trees ++ formula_by trees r.form ∷ []) (drop (i + 1) names)) is)

-- the entries of the form that is next
pub form_entries : (margin : ℕ) (d : Linked) (value : ℕ → Option CellZones) (trees : List Formula) (all : List Formula) (name : ℕ) (uses : List Use) (f : LayerForm) → length trees ≡ name
    → ((k : ℕ) (x : Formula) → slice_get (trees ++ formula_by trees f ∷ []) k ≡ Some x → slice_get all k ≡ Some x) → HaveInputs margin d value all uses → HaveForm margin d value name uses f
form_entries margin d value trees all name uses (form.Input key) count behind h = h name key (behind name (Input key) (subst (λ n. slice_get (trees ++ Input key ∷ []) n ≡ Some (Input key)) count (get_last trees (Input key))))
form_entries margin d value trees all name uses (form.Labels key) count behind h = tt
form_entries margin d value trees all name uses form.Empty count behind h = tt
form_entries margin d value trees all name uses (form.Binary op a b) count behind h = tt
form_entries margin d value trees all name uses (form.Sized a by) count behind h = tt

-- as many trees as names
pub count_behind : (before : List Formula) (names : List LayerRule) → length (formulas_behind before names) ≡ length before + length names
count_behind before [] = omega arith
count_behind before (n ∷ names) = let r = count_behind (before ++ formula_by before n.form ∷ []) names in let m = length-append before (formula_by before n.form ∷ []) in omega arith

-- the sets of a list are canonical
pub canonical_at : (sets : List (List Rect)) (k : ℕ) (set : List Rect) → All IsCanonical sets → slice_get sets k ≡ Some set → IsCanonical set
canonical_at sets k set all at = subst IsCanonical (get_or_from_slice_get sets k set [] at) (all k [] (slice_get_within sets k set at))

pub set_canonical : (sets : List (List Rect)) (k n : ℕ) → All IsCanonical sets → length sets ≡ n → k < n → IsCanonical (get_or sets k [])
set_canonical sets k n all count lt = canonical_at sets k (get_or sets k []) all (slice_get-get_or sets k [] (omega (arith, count, lt)))

-- a set that was added is canonical
pub last_set : (sets new : List (List Rect)) (set : List Rect) → new ≡ sets ++ set ∷ [] → All IsCanonical new → IsCanonical set
last_set sets new set e all = subst IsCanonical (get_or_push sets set [] (length sets) refl) ((subst (λ (l : List (List Rect)). All IsCanonical l) e all) (length sets) [] (let m = length-append sets (set ∷ []) in omega arith))

-- the item that is given next
pub given_at : (all xs rest ys : List (List Rect)) (y : List Rect) → all ≡ xs ++ rest → rest ≡ y ∷ ys → get_or all (length xs) [] ≡ y
given_at all xs rest ys y e f = ap (λ (l : List (List Rect)). get_or l (length xs) []) (e ∙ ap (λ (r : List (List Rect)). xs ++ r) f) ∙ at xs
  where
    at : (xs : List (List Rect)) → get_or (xs ++ y ∷ ys) (length xs) [] ≡ y
    at [] = refl
    at (x ∷ xs) = at xs

-- what was given before is less than all
pub some_given : (names : List LayerRule) (all xs rest ys : List (List Rect)) (y : List Rect) (count : ℕ) → length all ≡ length (formulas names) → length xs ≡ count → all ≡ xs ++ rest → rest ≡ y ∷ ys → count < length names
some_given names all xs rest ys y count long is e f =
    let parts = ap length e ∙ length-append xs rest in let one = ap length f in let trees = count_behind [] names in
    omega (arith, long, is, parts, one, trees)

-- and once all are given all names have their trees
pub all_given : (names : List LayerRule) (trees : List Formula) (all xs rest : List (List Rect)) (count : ℕ) → length all ≡ length (formulas names) → length xs ≡ count → all ≡ xs ++ rest → length rest ≡ 0 → formulas_behind trees (drop count names) ≡ formulas names → trees ≡ formulas names
all_given names trees all xs rest count long is e none on =
    let parts = ap length e ∙ length-append xs rest in let many = count_behind [] names in
    sym (at_drop_all (formulas_behind trees) names count (omega (arith, long, is, parts, none, many))) ∙ on

-- ---- the sets of input layers

-- where a form's tree is an input layer, so is the form
input_form : (P : LayerKey → List Rect → Type 0) (trees : List Formula) (f : LayerForm) (key : LayerKey) (set : List Rect) → formula_by trees f ≡ Input key → ForInput P f set → P key set
input_form P trees (form.Input k) key set e h = let same : k ≡ key = cc in subst (λ j. P j set) same h
input_form P trees (form.Labels k) key set e h = let z : ⊥ = cc in absurd z
input_form P trees form.Empty key set e h = let z : ⊥ = cc in absurd z
input_form P trees (form.Binary op a b) key set e h = let z : ⊥ = cc in absurd z
input_form P trees (form.Sized a by) key set e h = let z : ⊥ = cc in absurd z

pub no_inputs : (P : LayerKey → List Rect → Type 0) → ForInputs P [] []
no_inputs P = record { count = refl; each = λ k key at. absurd (let z : ⊥ = cc in z) }

pub inputs_more : (P : LayerKey → List Rect → Type 0) (trees : List Formula) (f : LayerForm) (sets : List (List Rect)) (set : List Rect) → ForInputs P trees sets → ForInput P f set → ForInputs P (trees ++ formula_by trees f ∷ []) (sets ++ set ∷ [])
inputs_more P trees f sets set h is = record {
  count = length-append sets (set ∷ []) ∙ ap (λ (n : ℕ). n + 1) h.count ∙ sym (length-append trees (formula_by trees f ∷ []));
  each = λ k key at. elim (push_cases trees (formula_by trees f) (Input key) k at) [
    | inl old ↦
        let lt = slice_get_within trees k (Input key) old in let count = h.count in
        subst (P key) (sym (get_or_append_left sets (set ∷ []) [] k (omega (arith, lt, count)))) (h.each k key old)
    | inr new ↦ subst (P key) (sym (get_or_push sets set [] k (h.count ∙ sym new.0))) (input_form P trees f key set new.1 is)
  ];
}

-- the set of the form that is next
pub input_here : (P : LayerKey → List Rect → Type 0) (trees all : List Formula) (name : ℕ) (f : LayerForm) (sets : List (List Rect)) → length trees ≡ name
    → ((k : ℕ) (x : Formula) → slice_get (trees ++ formula_by trees f ∷ []) k ≡ Some x → slice_get all k ≡ Some x) → ForInputs P all sets → ForInput P f (get_or sets name [])
input_here P trees all name (form.Input key) sets count behind h = h.each name key (behind name (Input key) (subst (λ n. slice_get (trees ++ Input key ∷ []) n ≡ Some (Input key)) count (get_last trees (Input key))))
input_here P trees all name (form.Labels key) sets count behind h = tt
input_here P trees all name form.Empty sets count behind h = tt
input_here P trees all name (form.Binary op a b) sets count behind h = tt
input_here P trees all name (form.Sized a by) sets count behind h = tt

-- the sets of input layers stay as they are given
pub none_kept : (given : List (List Rect)) → AreInputsKept [] given []
none_kept given k key at = absurd (let z : ⊥ = cc in z)

pub kept_more : (trees : List Formula) (f : LayerForm) (given sets : List (List Rect)) (set : List Rect) → length sets ≡ length trees → AreInputsKept trees given sets → IsFormKept f (get_or given (length trees) []) set → AreInputsKept (trees ++ formula_by trees f ∷ []) given (sets ++ set ∷ [])
kept_more trees f given sets set count h is k key at = elim (push_cases trees (formula_by trees f) (Input key) k at) [
  | inl old ↦
      let lt = slice_get_within trees k (Input key) old in
      get_or_append_left sets (set ∷ []) [] k (omega (arith, lt, count)) ∙ h k key old
  | inr new ↦
      get_or_push sets set [] k (count ∙ sym new.0) ∙ input_form (λ j v. v ≡ get_or given (length trees) []) trees f key set new.1 is
      ∙ ap (λ (n : ℕ). get_or given n []) (sym new.0)
]

-- ---- the zones of device rules

pub no_zones : (margin : ℕ) (d : Linked) (cell : ℕ) (trees : List Formula) → AreDeviceOpens margin d cell trees [] []
no_zones margin d cell trees = record { count = refl; opens = λ k names set there found. absurd (none_some names there) }
  where
    none_some : {A : Type 0} (u : A) → None ≡ Some u → ⊥
    none_some u e = cc

-- what some names read is what the first reads, and the others
pub split_first : (trees : List Formula) (names : List ℕ) → 1 ≤ length names
    → names_inputs trees names ≡ inputs (get_or trees (get_or names 0 0) Empty) ++ names_inputs trees (take (length names - 1) (drop 1 names))
split_first trees [] h = absurd (omega (arith, h))
split_first trees (n ∷ ns) h =
    let count : length (n ∷ ns) - 1 ≡ length ns = omega arith in
    ap (λ (ms : List ℕ). inputs (get_or trees n Empty) ++ names_inputs trees ms) (sym (take_all (length ns) ns (omega arith)) ∙ ap (λ (k : ℕ). take k ns) (sym count))

-- the names of one rule more
pub taken_more : {A B : Type 0} (f : A → B) (lists : List B) (xs : List A) (i : ℕ) (x : A) → i < length xs → x ≡ get_or xs i x → (lists ++ map f (take i xs)) ++ f x ∷ [] ≡ lists ++ map f (take (i + 1) xs)
taken_more {A = A} {B = B} f lists xs i x lt e =
    append_assoc lists (map f (take i xs)) (f x ∷ [])
    ∙ ap (λ (ys : List B). lists ++ ys)
    (sym (map-append f (take i xs) (x ∷ [])) ∙ ap (λ (y : A). map f (take i xs ++ y ∷ [])) e ∙ ap (λ (ys : List A). map f ys) (sym (take_more xs i x lt)))

-- one rule on
pub zones_more : (margin : ℕ) (d : Linked) (cell : ℕ) (trees : List Formula) (lists : List (List ℕ)) (names : List ℕ) (sets : List (List Rect)) (set : List Rect)
    → AreDeviceOpens margin d cell trees lists sets → IsFramedOpen margin d (names_inputs trees names) cell set → AreDeviceOpens margin d cell trees (lists ++ names ∷ []) (sets ++ set ∷ [])
zones_more margin d cell trees lists names sets set h is = record {
  count = length-append sets (set ∷ []) ∙ ap (λ (n : ℕ). n + 1) h.count ∙ sym (length-append lists (names ∷ []));
  opens = λ k ns s there found. elim (push_cases sets set s k found) [
    | inl old ↦
        let lt = slice_get_within sets k s old in
        let count = h.count in
        let below : k < length lists = omega (arith, lt, count) in
        h.opens k ns s (old_place lists names ns k below there) old
    | inr new ↦
        let at : slice_get (lists ++ names ∷ []) (length lists) ≡ Some ns = subst (λ i. slice_get (lists ++ names ∷ []) i ≡ Some ns) (new.0 ∙ h.count) there in
        let same : names ≡ ns = one_some names ns (sym (get_last lists names) ∙ at) in
        subst (λ (x : List ℕ). IsFramedOpen margin d (names_inputs trees x) cell s) same (subst (IsFramedOpen margin d (names_inputs trees names) cell) new.1 is)
  ];
}
  where
    one_some : {A : Type 0} (a b : A) → Some a ≡ Some b → a ≡ b
    one_some a b e = cc

    old_place : {A : Type 0} (xs : List A) (x u : A) (k : ℕ) → k < length xs → slice_get (xs ++ x ∷ []) k ≡ Some u → slice_get xs k ≡ Some u
    old_place [] x u k lt e = absurd (omega arith)
    old_place (y ∷ xs) x u zero lt e = e
    old_place (y ∷ xs) x u (suc k) lt e = old_place xs x u k (omega arith) e
