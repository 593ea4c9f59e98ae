-- Names and all that they are made of.
use Rattle.std.proofs.Common.{◌≡◌, ◌⊎◌, ◌↔◌, inl, inr, ℕ, ◌<◌, ◌≤◌, ◌+◌, Bool, true, false, List, [], ◌∷◌, ◌++◌, Some, sym, ◌∙◌, ap, subst, arith, length, length-append, get_or, slice_get}
use Rattle.base_laws.proofs.Items.{push_old, get_last}
use Rattle.std.proofs.Math.Decide.{ℕ_discrete}
use Rattle.std.proofs.lemmas.List.{get_or_append_left, get_or_push}
use Rattle.std.proofs.lemmas.Option.{slice_get_within, same_Some}
use Rattle.rule_text.specs.Rules.{Rules}
use Rattle.rule_text.specs.Sound.{AreOperands, IsSound}
use Rattle.rule_text.specs.declared.rules.LayerForm.{LayerForm}
use Rattle.rule_text.specs.declared.rules.LayerForm.TheVariants as form
use Rattle.rule_text.specs.declared.rules.LayerRule.{LayerRule}
use Rattle.rule_layers.specs.Reads.{Marks, Reads}
use Rattle.layer_phase.specs.Groups.{AreBefore, AreNeeded, AreSeen, seen_form}

-- one of the names from a number on is marked and made of it
pub record IsByFrom (names : List LayerRule) (marks : List Bool) (from k : ℕ) : Type 0 where
  pub at : ℕ
  pub rule : LayerRule
  pub at_from : from ≤ at
  pub there : slice_get names at ≡ Some rule
  pub marked : get_or marks at false ≡ true
  pub reads : Reads rule.form k

pub record AreNeededFrom (members : List Bool) (names : List LayerRule) (marks : List Bool) (from : ℕ) : Type 0 where
  pub count : length marks ≡ length names
  pub each : (k : ℕ) → k < length names → (get_or marks k false ≡ true) ↔ ((get_or members k false ≡ true) ⊎ IsByFrom names marks from k)

pub needed_none : (members : List Bool) (names : List LayerRule) (marks : List Bool) → marks ≡ members → length members ≡ length names → AreNeededFrom members names marks (length names)
needed_none members names marks e count =
    subst (λ (l : List Bool). AreNeededFrom members names l (length names)) (sym e) (record {
      count = count;
      each = λ k lt. (
        inl,
        (λ h. elim h [
          | inl m ↦ m
          | inr by ↦ absurd (let within = slice_get_within names by.at by.rule by.there in let from = by.at_from in let z : ⊥ = omega (arith, within, from) in z)
        ]),
      );
    })

-- a name that isn't marked
pub needed_skip : (members : List Bool) (names : List LayerRule) (old new : List Bool) (name : ℕ) → new ≡ old → (get_or old name false ≡ true → ⊥) → AreNeededFrom members names old (name + 1) → AreNeededFrom members names new name
needed_skip members names old new name e not had =
    subst (λ (l : List Bool). AreNeededFrom members names l name) (sym e) (record {
      count = had.count;
      each = λ k lt. (
        (λ m. elim ((had.each k lt).0 m) [
          | inl h ↦ inl h
          | inr by ↦ let from = by.at_from in inr (record { at = by.at; rule = by.rule; at_from = omega (arith, from); there = by.there; marked = by.marked; reads = by.reads })
        ]),
        (λ h. (had.each k lt).1 (elim h [
          | inl m ↦ inl m
          | inr by ↦ let from = by.at_from in elim (ℕ_discrete by.at name) [
            | yes same ↦ absurd (not (subst (λ j. get_or old j false ≡ true) same by.marked))
            | no other ↦ inr (record { at = by.at; rule = by.rule; at_from = omega (arith, from, other); there = by.there; marked = by.marked; reads = by.reads })
          ]
        ])),
      );
    })

-- a name that is
pub needed_more : (members : List Bool) (names : List LayerRule) (old new : List Bool) (name : ℕ) (rule : LayerRule) → AreBefore names → slice_get names name ≡ Some rule → get_or old name false ≡ true → Marks (Reads rule.form) old new → AreNeededFrom members names old (name + 1)
    → AreNeededFrom members names new name
needed_more members names old new name rule before at marked marks had =
    let count = had.count in
    let long = marks.long in
    let name_in = slice_get_within names name rule at in
    record {
      count = long ∙ count;
      each = λ k lt. let inside : k < length old = omega (arith, count, lt) in (
        (λ m. elim ((marks.each k inside).0 m) [
          | inl o ↦ elim ((had.each k lt).0 o) [
            | inl h ↦ inl h
            | inr by ↦
                let from = by.at_from in let within = slice_get_within names by.at by.rule by.there in
                inr (record { at = by.at; rule = by.rule; at_from = omega (arith, from); there = by.there; marked = (marks.each by.at (omega (arith, within, count))).1 (inl by.marked); reads = by.reads })
          ]
          | inr r ↦ inr (record { at = name; rule = rule; at_from = omega arith; there = at; marked = (marks.each name (omega (arith, name_in, count))).1 (inl marked); reads = r })
        ]),
        (λ h. (marks.each k inside).1 (elim h [
          | inl m ↦ inl ((had.each k lt).1 (inl m))
          | inr by ↦
              let from = by.at_from in let within = slice_get_within names by.at by.rule by.there in
              elim (ℕ_discrete by.at name) [
                | yes same ↦
                    let one : by.rule ≡ rule = same_Some by.rule rule (sym by.there ∙ subst (λ j. slice_get names j ≡ Some rule) (sym same) at) in
                    inr (subst (λ (v : LayerRule). Reads v.form k) one by.reads)
                | no other ↦ elim ((marks.each by.at (omega (arith, within, count))).0 by.marked) [
                  | inl o ↦ inl ((had.each k lt).1 (inr (record { at = by.at; rule = by.rule; at_from = omega (arith, from, other); there = by.there; marked = o; reads = by.reads })))
                  | inr r ↦ absurd (let lower = before name rule at by.at r in let z : ⊥ = omega (arith, lower, from) in z)
                ]
              ]
        ])),
      );
    }

pub needed_all : (members : List Bool) (names : List LayerRule) (marks : List Bool) (from : ℕ) → from ≡ 0 → AreNeededFrom members names marks from → AreNeeded members names marks
needed_all members names marks from e had = record {
  count = had.count;
  each = λ k lt. (
    (λ m. elim ((had.each k lt).0 m) [
      | inl h ↦ inl h
      | inr by ↦ inr (record { at = by.at; rule = by.rule; there = by.there; marked = by.marked; reads = by.reads })
    ]),
    (λ h. (had.each k lt).1 (elim h [
      | inl m ↦ inl m
      | inr by ↦ inr (record { at = by.at; rule = by.rule; at_from = omega (arith, e); there = by.there; marked = by.marked; reads = by.reads })
    ])),
  );
}

-- one name's mark more
pub marked_more : (P : ℕ → Type 0) (old new : List Bool) (n : ℕ) (b : Bool) → new ≡ old ++ b ∷ [] → length old ≡ n → (b ≡ true → P n) → (P n → b ≡ true) → ((k : ℕ) → k < n → (get_or old k false ≡ true) ↔ P k)
    → (length new ≡ n + 1) × ((k : ℕ) → k < n + 1 → (get_or new k false ≡ true) ↔ P k)
marked_more P old new n b e long to back had =
    subst (λ (l : List Bool). (length l ≡ n + 1) × ((k : ℕ) → k < n + 1 → (get_or l k false ≡ true) ↔ P k)) (sym e) (
      length-append old (b ∷ []) ∙ ap (λ (m : ℕ). m + 1) long,
      λ k lt. elim (ℕ_discrete k n) [
        | yes same ↦
            let here : get_or (old ++ b ∷ []) k false ≡ b = get_or_push old b false k (long ∙ sym same) in
            ((λ t. subst P (sym same) (to (sym here ∙ t))), (λ p. here ∙ back (subst P same p)))
        | no other ↦
            let before : get_or (old ++ b ∷ []) k false ≡ get_or old k false = get_or_append_left old (b ∷ []) false k (omega (arith, lt, long, other)) in
            let h = had k (omega (arith, lt, other)) in
            ((λ t. h.0 (sym before ∙ t)), (λ p. before ∙ h.1 p))
      ],
    )

-- names as they are seen, up to one
pub record AreSeenTo (names : List LayerRule) (marks : List Bool) (n : ℕ) (seen : List LayerRule) : Type 0 where
  pub count : length seen ≡ n
  pub each : (k : ℕ) (rule : LayerRule) → k < n → slice_get names k ≡ Some rule → (other : LayerRule) × (slice_get seen k ≡ Some other) × (other.form ≡ seen_form (get_or marks k false) rule.form)

pub seen_more : (names : List LayerRule) (marks : List Bool) (n : ℕ) (rule other : LayerRule) (seen : List LayerRule) → slice_get names n ≡ Some rule → other.form ≡ seen_form (get_or marks n false) rule.form → AreSeenTo names marks n seen → AreSeenTo names marks (n + 1) (seen ++ other ∷ [])
seen_more names marks n rule other seen at is h = record {
  count = length-append seen (other ∷ []) ∙ ap (λ (k : ℕ). k + 1) h.count;
  each = λ k r below there. elim (ℕ_discrete k n) [
    | yes e ↦
        let same : r ≡ rule = same_Some r rule (sym there ∙ subst (λ j. slice_get names j ≡ Some rule) (sym e) at) in (
          other,
          subst (λ j. slice_get (seen ++ other ∷ []) j ≡ Some other) (h.count ∙ sym e) (get_last seen other),
          subst (λ j. other.form ≡ seen_form (get_or marks j false) r.form) (sym e) (subst (λ (v : LayerRule). other.form ≡ seen_form (get_or marks n false) v.form) (sym same) is),
        )
    | no not ↦ let o = h.each k r (omega (arith, below, not)) there in (o.0, push_old seen other o.0 k o.1, o.2)
  ];
}

pub seen_all : (names : List LayerRule) (marks : List Bool) (n : ℕ) (seen : List LayerRule) → n ≡ length names → AreSeenTo names marks n seen → AreSeen names marks seen
seen_all names marks n seen e h = record {
  count = h.count ∙ e;
  each = λ k rule at. let lt = slice_get_within names k rule at in h.each k rule (omega (arith, lt, e)) at;
}

-- names of sound rules are made of names before them
read_before : (names : List LayerRule) (k a : ℕ) (f : LayerForm) → AreOperands names k f → Reads f a → a < k
read_before names k a (form.Input key) h r = absurd r
read_before names k a (form.Labels key) h r = absurd r
read_before names k a form.Empty h r = absurd r
read_before names k a (form.Binary op x y) h (inl e) = subst (λ n. n < k) e h.0
read_before names k a (form.Binary op x y) h (inr e) = subst (λ n. n < k) e h.1
read_before names k a (form.Sized x by) h r = subst (λ n. n < k) r h.0

pub all_before : (r : Rules) → IsSound r → AreBefore r.names
all_before r sound k rule at a reads = read_before r.names k a rule.form (sound.formed.operands k rule at) reads
