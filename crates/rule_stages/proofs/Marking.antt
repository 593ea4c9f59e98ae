-- Marks of the names that some selections read, from the last name back.
use Rattle.std.proofs.Common.{◌≡◌, inl, inr, ℕ, ◌+◌, ◌<◌, ◌≤◌, Bool, true, false, List, ◌∷◌, [], ◌++◌, Option, Some, None, refl, sym, ap, ◌∙◌, subst, arith, length, length-append, get_or, slice_get}
use Rattle.base_laws.proofs.Items.{item_at, get_last, push_old}
use Rattle.std.proofs.Math.Decide.{ℕ_discrete}
use Rattle.std.proofs.lemmas.Bool.{false≢true}
use Rattle.std.proofs.lemmas.Option.{slice_get_within, same_Some}
use Rattle.rule_text.specs.declared.rules.LayerForm.{LayerForm}
use Rattle.rule_text.specs.declared.rules.LayerRule.{LayerRule}
use Rattle.rule_text.specs.declared.rules.SelectRule.{SelectRule}
use Rattle.rule_text.specs.Rules.{Rules}
use Rattle.rule_text.specs.Sound.{IsFormed}
use Rattle.rule_layers.specs.Reads.{IsByName, Marks, Reads}
use Rattle.rule_stages.specs.Depths.{select_at}
use Rattle.rule_stages.specs.Marks.{stage_form, AreBelow, AreMarkedFrom, AreFormedTo}
use Rattle.rule_stages.specs.StageRules.{AreStageNames, IsStageForm}
use Rattle.rule_stages.specs.Stages.{AreSelectsOf}
use Rattle.rule_stages.proofs.Knowing.{found, select_rule_of, below_of}

-- names read names before them

pub are_below : (r : Rules) (selected : List SelectRule) → IsFormed r → AreSelectsOf r selected → AreBelow r.names selected
are_below r selected h of k rule at read j reads = by (select_at selected k) read refl reads
  where
    by : (o : Option SelectRule) (b : Bool) → select_at selected k ≡ o → Reads (stage_form o b rule.form) j → j < k
    by (Some s) b e (inl is) = let f = found selected k s e in let g = of f.1.at s f.1.there in let known = select_rule_of r s h (record { at = g.0; there = g.1 }) in subst (λ i. i < k) is (subst (λ i. s.region < i) f.0 known.before.0)
    by (Some s) b e (inr is) = let f = found selected k s e in let g = of f.1.at s f.1.there in let known = select_rule_of r s h (record { at = g.0; there = g.1 }) in subst (λ i. i < k) is (subst (λ i. s.other < i) f.0 known.before.1)
    by None true e is = below_of r h k rule at j is
    by None false e is = absurd is

-- marks

pub none_marked : (names : List LayerRule) (selected : List SelectRule) (marks : List Bool) → length marks ≡ length names → ((k : ℕ) → get_or marks k false ≡ false) → AreMarkedFrom names selected (length names) marks
none_marked names selected marks long none = record {
  long = long;
  each = λ j lt. (
    (λ e. absurd (false≢true (sym (none j) ∙ e))),
    (λ m. let in_ = slice_get_within names m.at m.rule m.there in let from = m.behind in absurd (let w : ⊥ = omega (arith, in_, from) in w)),
  );
}

-- marks of what one name reads leave those behind it as they are
not_marked : (b c : Bool) → (c ≡ true → b ≡ true) → (b ≡ true → c ≡ true) → c ≡ b
not_marked true true f g = refl
not_marked true false f g = g refl
not_marked false true f g = sym (f refl)
not_marked false false f g = refl

later : (names : List LayerRule) (selected : List SelectRule) (k j : ℕ) (rule : LayerRule) (old new : List Bool) → AreBelow names selected → length old ≡ length names → slice_get names k ≡ Some rule
    → Marks (Reads (stage_form (select_at selected k) (get_or old k false) rule.form)) old new → k ≤ j → j < length names → get_or new j false ≡ get_or old j false
later names selected k j rule old new below long at marks le lt =
    not_marked (get_or old j false) (get_or new j false)
    (λ e. elim ((marks.each j (omega (arith, lt, long))).0 e) [
      | inl o ↦ o
      | inr reads ↦ let less = below k rule at (get_or old k false) j reads in absurd (let w : ⊥ = omega (arith, less, le) in w)
    ])
    (λ e. (marks.each j (omega (arith, lt, long))).1 (inl e))

still : (names : List LayerRule) (selected : List SelectRule) (k : ℕ) (rule : LayerRule) (old new : List Bool) → AreBelow names selected → length old ≡ length names → slice_get names k ≡ Some rule
    → Marks (Reads (stage_form (select_at selected k) (get_or old k false) rule.form)) old new → (m j : ℕ) (n : LayerRule) → k ≤ m → slice_get names m ≡ Some n
    → Reads (stage_form (select_at selected m) (get_or old m false) n.form) j → Reads (stage_form (select_at selected m) (get_or new m false) n.form) j
still names selected k rule old new below long at marks m j n le there reads =
    subst (λ b. Reads (stage_form (select_at selected m) b n.form) j) (sym (later names selected k m rule old new below long at marks le (slice_get_within names m n there))) reads

pub marked_more : (names : List LayerRule) (selected : List SelectRule) (k : ℕ) (rule : LayerRule) (old new : List Bool) → AreBelow names selected → slice_get names k ≡ Some rule
    → Marks (Reads (stage_form (select_at selected k) (get_or old k false) rule.form)) old new → AreMarkedFrom names selected (k + 1) old → AreMarkedFrom names selected k new
marked_more names selected k rule old new below at marks h = record {
  long = marks.long ∙ h.long;
  each = λ j lt.
      let long = h.long in
      let in_ : j < length old = omega (arith, lt, long) in (
        (λ e. elim ((marks.each j in_).0 e) [
          | inl o ↦
              let m = (h.each j lt).0 o in let le = m.behind in
              let k_le : k ≤ m.at = omega (arith, le) in
              record { at = m.at; rule = m.rule; behind = k_le; there = m.there; reads = still names selected k rule old new below long at marks m.at j m.rule k_le m.there m.reads }
          | inr reads ↦ record { at = k; rule = rule; behind = omega arith; there = at; reads = still names selected k rule old new below long at marks k j rule (omega arith) at reads }
        ]),
        (λ m.
            let le = m.behind in
            let same = later names selected k m.at rule old new below long at marks le (slice_get_within names m.at m.rule m.there) in
            let reads = subst (λ b. Reads (stage_form (select_at selected m.at) b m.rule.form) j) same m.reads in
            (marks.each j in_).1 (elim (ℕ_discrete m.at k) [
              | yes e ↦
                  let one : m.rule ≡ rule = same_Some m.rule rule (sym m.there ∙ ap (slice_get names) e ∙ at) in
                  inr (subst (λ (n : LayerRule). Reads (stage_form (select_at selected k) (get_or old k false) n.form) j) one (subst (λ i. Reads (stage_form (select_at selected i) (get_or old i false) m.rule.form) j) e reads))
              | no n ↦ inl ((h.each j lt).1 (record { at = m.at; rule = m.rule; behind = omega (arith, le, n); there = m.there; reads = reads }))
            ])),
      );
}

-- names

pub none_formed : (names : List LayerRule) (selected : List SelectRule) (marks : List Bool) → AreFormedTo names selected marks 0 []
none_formed names selected marks = record { count = refl; each = λ k rule lt at. absurd (let w : ⊥ = omega (arith, lt) in w) }

pub formed_more : (names : List LayerRule) (selected : List SelectRule) (marks : List Bool) (n : ℕ) (rule seen : LayerRule) (staged : List LayerRule) → slice_get names n ≡ Some rule → seen.name ≡ rule.name
    → seen.form ≡ stage_form (select_at selected n) (get_or marks n false) rule.form → AreFormedTo names selected marks n staged → AreFormedTo names selected marks (n + 1) (staged ++ seen ∷ [])
formed_more names selected marks n rule seen staged at name is h = record {
  count = length-append staged (seen ∷ []) ∙ ap (λ k. k + 1) h.count;
  each = λ k r below there. elim (ℕ_discrete k n) [
    | yes e ↦
        let same : rule ≡ r = same_Some rule r (sym at ∙ ap (slice_get names) (sym e) ∙ there) in (
          seen,
          subst (λ j. slice_get (staged ++ seen ∷ []) j ≡ Some seen) (h.count ∙ sym e) (get_last staged seen),
          name ∙ ap (λ (v : LayerRule). v.name) same,
          subst (λ j. seen.form ≡ stage_form (select_at selected j) (get_or marks j false) r.form) (sym e) (subst (λ (v : LayerRule). seen.form ≡ stage_form (select_at selected n) (get_or marks n false) v.form) same is),
        )
    | no not ↦ let o = h.each k r (omega (arith, below, not)) there in (o.0, push_old staged seen o.0 k o.1, o.2, o.3)
  ];
}

-- each name is seen by whether a name that is seen reads it

as_read : (P : Type 0) (o : Option SelectRule) (b : Bool) (f seen : LayerForm) → (b ≡ true → P) → (P → b ≡ true) → seen ≡ stage_form o b f → IsStageForm o P f seen
as_read P (Some s) b f seen to from is = is
as_read P None true f seen to from is = inl (to refl, is)
as_read P None false f seen to from is = inr ((λ h. false≢true (from h)), is)

pub stage_names : (names : List LayerRule) (selected : List SelectRule) (marks : List Bool) (staged : List LayerRule) → AreMarkedFrom names selected 0 marks → AreFormedTo names selected marks (length names) staged → AreStageNames names selected staged
stage_names names selected marks staged m h = record {
  count = h.count;
  each = λ k rule at.
      let lt = slice_get_within names k rule at in
      let o = h.each k rule lt at in (
        o.0,
        o.1,
        o.2,
        as_read (IsByName staged (length staged) k) (select_at selected k) (get_or marks k false) rule.form o.0.form
            (λ e.
            let b = (m.each k lt).0 e in
            let in_ = slice_get_within names b.at b.rule b.there in
            let s = h.each b.at b.rule in_ b.there in
            let count = h.count in
            record { at = b.at; rule = s.0; at_in = omega (arith, in_, count); there = s.1; reads = subst (λ g. Reads g k) (sym s.3) b.reads })
            (λ b.
            let count = h.count in let in_ = b.at_in in
            let n = item_at names b.at (omega (arith, in_, count)) in
            let s = h.each b.at n.0 (omega (arith, in_, count)) n.1 in
            let same : b.rule ≡ s.0 = same_Some b.rule s.0 (sym b.there ∙ s.1) in
            (m.each k lt).1 (record { at = b.at; rule = n.0; behind = omega arith; there = n.1; reads = subst (λ g. Reads g k) (ap (λ (v : LayerRule). v.form) same ∙ s.3) b.reads }))
            o.3,
      );
}

-- the same of lists that are those
pub told_names : (names one other : List LayerRule) (selected : List SelectRule) (marks seen : List Bool) (staged : List LayerRule) → one ≡ names → other ≡ names → seen ≡ marks → AreMarkedFrom one selected 0 marks
    → AreFormedTo other selected seen (length other) staged → AreStageNames names selected staged
told_names names one other selected marks seen staged e f g m h =
    stage_names names selected marks staged (subst (λ (l : List LayerRule). AreMarkedFrom l selected 0 marks) e m)
    (subst (λ (bs : List Bool). AreFormedTo names selected bs (length names) staged) g (subst (λ (l : List LayerRule). AreFormedTo l selected seen (length l) staged) f h))
