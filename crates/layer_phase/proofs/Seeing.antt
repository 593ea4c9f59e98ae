-- Names as a group of derived names sees them.
use Rattle.std.proofs.Common.{◌≡◌, inl, inr, ℕ, suc, ◌<◌, ◌≤◌, ◌+◌, Bool, true, false, List, [], ◌∷◌, ◌++◌, Option, Some, refl, sym, ap, ◌∙◌, subst, arith, length, length-append, get_or, slice_get}
use Rattle.base_laws.proofs.Tests.{true_or_not}
use Rattle.std.proofs.Math.Decide.{ℕ_discrete}
use Rattle.std.proofs.lemmas.Bool.{cases_lt}
use Rattle.std.proofs.lemmas.List.{get_or_append_left, get_or_push, get_or_past}
use Rattle.std.proofs.lemmas.Option.{get_or_from_slice_get, slice_get-get_or, slice_get_within, same_Some}
use Rattle.geo_base.specs.declared.layer.LayerKey.{LayerKey}
use Rattle.flat_layout.specs.Layers.{Formula, Empty, Binary, Sized, reach}
use Rattle.deep_laws.specs.Layers.{IsDerived}
use Rattle.rule_text.specs.Rules.{Rules}
use Rattle.rule_text.specs.Sound as rules
use Rattle.rule_text.specs.declared.rules.LayerForm.{LayerForm}
use Rattle.rule_text.specs.declared.rules.LayerForm.TheVariants as form
use Rattle.rule_text.specs.declared.rules.LayerRule.{LayerRule}
use Rattle.rule_layers.specs.Formulas.{formula_by, formulas, formulas_behind}
use Rattle.rule_layers.specs.Reads.{IsRead, Reads}
use Rattle.cell_graph.specs.Linked.{Linked, plain}
use Rattle.deep_tables.specs.declared.zones.CellZones.{CellZones}
use Rattle.deep_tables.proofs.Reading.{zone_entry}
use Rattle.layer_phase.specs.Keeps.{HasEntry}
use Rattle.layer_phase.specs.Names.{IsReady}
use Rattle.layer_phase.specs.Groups.{AreNeeded, AreSeen, IsGroup, IsMember, is_derived, seen_form}
use Rattle.layer_phase.specs.Looks.{IsInput}
use Rattle.layer_phase.specs.declared.groups.Group.{Group}
use Rattle.layer_phase.proofs.Grouping.{near_tree, of_is, tree_count}

-- trees that are one where they are marked; of the second ones the others are empty
record AreSame (marks : List Bool) (xs ys : List Formula) : Type 0 where
  pub long : length xs ≡ length ys
  pub each : (i : ℕ) → get_or marks i false ≡ true → get_or xs i Empty ≡ get_or ys i Empty
  pub none : (i : ℕ) → (get_or marks i false ≡ true → ⊥) → get_or ys i Empty ≡ Empty

operand : (members : List Bool) (names : List LayerRule) (marks : List Bool) (xs ys : List Formula) (n : ℕ) (rule : LayerRule) (a : ℕ) → AreNeeded members names marks → AreSame marks xs ys → length xs ≤ length names → slice_get names n ≡ Some rule → get_or marks n false ≡ true → Reads rule.form a
    → get_or xs a Empty ≡ get_or ys a Empty
operand members names marks xs ys n rule a needed same below at marked reads = elim (cases_lt a (length names)) [
  | inl lt ↦ same.each a ((needed.each a lt).1 (inr (record { at = n; rule = rule; there = at; marked = marked; reads = reads })))
  | inr past ↦ let long = same.long in get_or_past xs a Empty (omega (arith, past, below)) ∙ sym (get_or_past ys a Empty (omega (arith, past, below, long)))
]

form_same : (members : List Bool) (names : List LayerRule) (marks : List Bool) (xs ys : List Formula) (n : ℕ) (rule : LayerRule) (f : LayerForm) → rule.form ≡ f → AreNeeded members names marks → AreSame marks xs ys → length xs ≤ length names → slice_get names n ≡ Some rule
    → get_or marks n false ≡ true → formula_by xs f ≡ formula_by ys f
form_same members names marks xs ys n rule (form.Input key) e needed same below at marked = refl
form_same members names marks xs ys n rule (form.Labels key) e needed same below at marked = refl
form_same members names marks xs ys n rule form.Empty e needed same below at marked = refl
form_same members names marks xs ys n rule (form.Binary op a b) e needed same below at marked =
    let first = operand members names marks xs ys n rule a needed same below at marked (subst (λ g. Reads g a) (sym e) (inl refl)) in
    let second = operand members names marks xs ys n rule b needed same below at marked (subst (λ g. Reads g b) (sym e) (inr refl)) in
    ap (λ x. Binary op x (get_or xs b Empty)) first ∙ ap (Binary op (get_or ys a Empty)) second
form_same members names marks xs ys n rule (form.Sized a by) e needed same below at marked =
    ap (Sized by) (operand members names marks xs ys n rule a needed same below at marked (subst (λ g. Reads g a) (sym e) refl))

same_more : (marks : List Bool) (xs ys : List Formula) (x y : Formula) → AreSame marks xs ys → (get_or marks (length xs) false ≡ true → x ≡ y) → ((get_or marks (length xs) false ≡ true → ⊥) → y ≡ Empty) → AreSame marks (xs ++ x ∷ []) (ys ++ y ∷ [])
same_more marks xs ys x y h here none = record {
  long = length-append xs (x ∷ []) ∙ ap (λ (k : ℕ). k + 1) h.long ∙ sym (length-append ys (y ∷ []));
  each = λ i m. let long = h.long in elim (cases_lt i (length xs)) [
    | inl lt ↦ get_or_append_left xs (x ∷ []) Empty i lt ∙ h.each i m ∙ sym (get_or_append_left ys (y ∷ []) Empty i (omega (arith, lt, long)))
    | inr from ↦ elim (ℕ_discrete i (length xs)) [
      | yes e ↦ get_or_push xs x Empty i (sym e) ∙ here (subst (λ j. get_or marks j false ≡ true) e m) ∙ sym (get_or_push ys y Empty i (sym h.long ∙ sym e))
      | no n ↦
          let a : length (xs ++ x ∷ []) ≤ i = (let l = length-append xs (x ∷ []) in omega arith) in
          let b : length (ys ++ y ∷ []) ≤ i = (let l = length-append ys (y ∷ []) in omega arith) in
          get_or_past (xs ++ x ∷ []) i Empty a ∙ sym (get_or_past (ys ++ y ∷ []) i Empty b)
    ]
  ];
  none = λ i m. let long = h.long in elim (cases_lt i (length ys)) [
    | inl lt ↦ get_or_append_left ys (y ∷ []) Empty i lt ∙ h.none i m
    | inr from ↦ elim (ℕ_discrete i (length ys)) [
      | yes e ↦ get_or_push ys y Empty i (sym e) ∙ none (λ t. m (subst (λ j. get_or marks j false ≡ true) (long ∙ sym e) t))
      | no n ↦ get_or_past (ys ++ y ∷ []) i Empty (let l = length-append ys (y ∷ []) in omega arith)
    ]
  ];
}

abbrev AreBehind : List LayerRule → List Bool → ℕ → List LayerRule → List LayerRule → Type 0
AreBehind names marks n rest seen = (k : ℕ) (rule : LayerRule) → slice_get rest k ≡ Some rule → (slice_get names (n + k) ≡ Some rule) × (other : LayerRule) × (slice_get seen k ≡ Some other) × (other.form ≡ seen_form (get_or marks (n + k) false) rule.form)

marked_form : (b : Bool) (f g : LayerForm) → b ≡ true → g ≡ seen_form b f → g ≡ f
marked_form true f g e h = h
marked_form false f g e h = let z : ⊥ = cc in absurd z

other_form : (b : Bool) (f g : LayerForm) → (b ≡ true → ⊥) → g ≡ seen_form b f → g ≡ form.Empty
other_form true f g e h = absurd (e refl)
other_form false f g e h = h

same_behind : (members : List Bool) (names : List LayerRule) (marks : List Bool) (rest seen : List LayerRule) (n : ℕ) (xs ys : List Formula) → AreNeeded members names marks → length seen ≡ length rest → length xs ≡ n → n + length rest ≤ length names → AreBehind names marks n rest seen → AreSame marks xs ys
    → AreSame marks (formulas_behind xs rest) (formulas_behind ys seen)
same_behind members names marks [] [] n xs ys needed e long below f h = h
same_behind members names marks [] (s ∷ seen) n xs ys needed e long below f h = absurd (let z : ⊥ = omega (arith, e) in z)
same_behind members names marks (r ∷ rest) [] n xs ys needed e long below f h = absurd (let z : ⊥ = omega (arith, e) in z)
same_behind members names marks (r ∷ rest) (s ∷ seen) n xs ys needed e long below f h =
    let zero_on : n + 0 ≡ n = omega arith in
    let first = f 0 r refl in
    let at : slice_get names n ≡ Some r = subst (λ i. slice_get names i ≡ Some r) zero_on first.0 in
    let same : first.1 ≡ s = same_Some first.1 s (sym first.2) in
    let b = get_or marks n false in
    let as_seen : s.form ≡ seen_form b r.form = subst (λ (v : LayerRule). v.form ≡ seen_form b r.form) same (subst (λ i. first.1.form ≡ seen_form (get_or marks i false) r.form) zero_on first.3) in
    let here : get_or marks (length xs) false ≡ true → formula_by xs r.form ≡ formula_by ys s.form = (λ m.
    let marked : b ≡ true = subst (λ i. get_or marks i false ≡ true) long m in
    form_same members names marks xs ys n r r.form refl needed h (omega (arith, long, below)) at marked ∙ ap (formula_by ys) (sym (marked_form b r.form s.form marked as_seen))) in
    let none : (get_or marks (length xs) false ≡ true → ⊥) → formula_by ys s.form ≡ Empty = (λ m. ap (formula_by ys) (other_form b r.form s.form (λ t. m (subst (λ i. get_or marks i false ≡ true) (sym long) t)) as_seen)) in
    same_behind members names marks rest seen (n + 1) (xs ++ formula_by xs r.form ∷ []) (ys ++ formula_by ys s.form ∷ []) needed (omega (arith, e)) (length-append xs (formula_by xs r.form ∷ []) ∙ ap (λ (k : ℕ). k + 1) long) (omega (arith, below))
    (λ k rule there.
    let o = f (suc k) rule there in
    let z : n + suc k ≡ (n + 1) + k = omega arith in
    (subst (λ i. slice_get names i ≡ Some rule) z o.0, o.1, o.2, subst (λ i. o.1.form ≡ seen_form (get_or marks i false) rule.form) z o.3))
    (same_more marks xs ys (formula_by xs r.form) (formula_by ys s.form) h here none)

same : (members : List Bool) (names : List LayerRule) (marks : List Bool) (seen : List LayerRule) → AreNeeded members names marks → AreSeen names marks seen → AreSame marks (formulas names) (formulas seen)
same members names marks seen needed are =
    same_behind members names marks names seen 0 [] [] needed are.count refl (omega arith)
    (λ j rule there. let o = are.each j rule there in let z : j ≡ 0 + j = omega arith in (subst (λ i. slice_get names i ≡ Some rule) z there, o.0, o.1, subst (λ i. o.0.form ≡ seen_form (get_or marks i false) rule.form) z o.2))
    (record { long = refl; each = λ i m. refl; none = λ i m. refl })

-- as many names are seen as there are
pub seen_count : (names : List LayerRule) (g : Group) → IsGroup names g → length (formulas g.names.items) ≡ length (formulas names)
seen_count names g group = sym (same g.members.items names group.marks g.names.items group.needed group.seen).long

-- one of the group has its tree
pub there_too : (names : List LayerRule) (g : Group) (k : ℕ) (x : Formula) → IsGroup names g → IsDerived x → reach x ≡ g.reach → slice_get (formulas names) k ≡ Some x → slice_get (formulas g.names.items) k ≡ Some x
there_too names g k x group derived far at =
    let trees = tree_count names in
    let lt = slice_get_within (formulas names) k x at in
    let inside : k < length names = omega (arith, trees, lt) in
    let count = group.count in
    let member : IsMember names g.reach k = record { tree = x; at = at; derived = derived; far_is = far } in
    let marked = (group.needed.each k inside).1 (inl ((group.members k (omega (arith, count, inside))).1 member)) in
    let all = same g.members.items names group.marks g.names.items group.needed group.seen in
    let long = all.long in
    slice_get-get_or (formulas g.names.items) k Empty (omega (arith, long, lt)) ∙ ap Some (sym (all.each k marked) ∙ get_or_from_slice_get (formulas names) k x Empty at)

-- an input layer that the group sees is one of the names, and one of these is made of it
input_seen : (b : Bool) (f : LayerForm) (key : LayerKey) → seen_form b f ≡ form.Input key → (b ≡ true) × (f ≡ form.Input key)
input_seen true f key e = (refl, e)
input_seen false f key e = let z : ⊥ = cc in absurd z

input_plain : (key : LayerKey) (f : LayerForm) → f ≡ form.Input key → is_derived f ≡ true → ⊥
input_plain key f e h = let z : false ≡ true = sym (ap is_derived e) ∙ h in let w : ⊥ = cc in w

pub input_too : (names : List LayerRule) (g : Group) (k : ℕ) (key : LayerKey) → IsGroup names g → IsInput g.names.items k key → IsInput names k key × IsRead names [] [] k
input_too names g k key group is =
    let lt = slice_get_within g.names.items k is.0 is.1 in
    let count = group.seen.count in
    let within : k < length names = omega (arith, lt, count) in
    let rule = get_or names k is.0 in
    let at : slice_get names k ≡ Some rule = slice_get-get_or names k is.0 within in
    let o = group.seen.each k rule at in
    let same_rule : o.0 ≡ is.0 = same_Some o.0 is.0 (sym o.1 ∙ is.1) in
    let form_is : seen_form (get_or group.marks k false) rule.form ≡ form.Input key = sym o.2 ∙ ap (λ (r : LayerRule). r.form) same_rule ∙ is.2 in
    let h = input_seen (get_or group.marks k false) rule.form key form_is in
    let some = group.count in (
      (rule, at, h.1),
      elim ((group.needed.each k within).0 h.0) [
        | inl member ↦
            let m = (group.members k (omega (arith, some, within))).0 member in
            absurd (input_plain key rule.form h.1 (of_is names k rule m.tree at m.at m.derived))
        | inr by ↦ inl (record { at = by.at; rule = by.rule; at_in = slice_get_within names by.at by.rule by.there; there = by.there; reads = by.reads })
      ],
    )

-- no name that the group sees reaches further than names may
pub seen_near : (r : Rules) (g : Group) (k : ℕ) → rules.IsSound r → IsGroup r.names g → reach (get_or (formulas g.names.items) k Empty) ≤ 10000
seen_near r g k sound group =
    let all = same g.members.items r.names group.marks g.names.items group.needed group.seen in
    elim (true_or_not (get_or group.marks k false)) [
      | inl m ↦ subst (λ (t : Formula). reach t ≤ 10000) (all.each k m) (near_tree r k sound)
      | inr n ↦ let e = ap reach (all.none k n) in omega (arith, e)
    ]

-- a member is marked
pub member_marked : (names : List LayerRule) (g : Group) (k : ℕ) (x : Formula) → IsGroup names g → IsDerived x → reach x ≡ g.reach → slice_get (formulas names) k ≡ Some x → (k < length g.members.items) × (get_or g.members.items k false ≡ true)
member_marked names g k x group derived far at =
    let trees = tree_count names in
    let lt = slice_get_within (formulas names) k x at in
    let count = group.count in
    let inside : k < length g.members.items = omega (arith, trees, lt, count) in
    (inside, (group.members k inside).1 (record { tree = x; at = at; derived = derived; far_is = far }))

-- and has its entry in the table of disturbed squares
pub marked_entry : (d : Linked) (r : Rules) (z : List (Option CellZones)) (cell : ℕ) (g : Group) (k : ℕ) → IsReady d r z cell → IsGroup r.names g → k < length g.members.items → get_or g.members.items k false ≡ true → HasEntry z cell k
marked_entry d r z cell g k ready group lt mark =
    let m = (group.members k lt).0 mark in
    let h = zone_entry (plain d) r z cell k m.tree ready.zones ready.reached m.at in
    (h.0, h.1)
