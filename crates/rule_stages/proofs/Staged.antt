-- Over the names as the selections of a depth see them each of these means what it means over all.
use Rattle.std.proofs.Common.{◌≡◌, ◌⊎◌, inl, inr, ℕ, zero, suc, ◌+◌, ◌<◌, ◌≤◌, List, Option, Some, None, refl, sym, ap, ◌∙◌, subst, arith, length, get_or, slice_get}
use Rattle.base_laws.proofs.Items.{item_at}
use Rattle.std.proofs.lemmas.Option.{slice_get_within, same_Some}
use Rattle.flat_layout.specs.Layers.{Formula, Empty}
use Rattle.flat_layout.specs.Parts.{Corners}
use Rattle.select_laws.specs.Selects.{Select}
use Rattle.rule_text.specs.declared.rules.LayerRule.{LayerRule}
use Rattle.rule_text.specs.declared.rules.SelectRule.{SelectRule}
use Rattle.rule_text.specs.Rules.{Rules}
use Rattle.rule_text.specs.Sound.{IsFormed}
use Rattle.rule_layers.specs.Formulas.{formulas, formula_by}
use Rattle.rule_layers.specs.Reads.{IsByName, Reads}
use Rattle.rule_stages.specs.Depths.{select_at, depths}
use Rattle.rule_stages.specs.Selections.{ask_of, side_of, sight_form}
use Rattle.rule_stages.specs.StageRules.{AreStageNames, IsStageForm, StageSelectLaw}
use Rattle.rule_stages.specs.Stages.{at_depth}
use Rattle.rule_stages.proofs.Folds.{form_tree, tree_at, tree_there, trees_long}
use Rattle.rule_stages.proofs.Knowing.{IsAmong, found, own_found, select_rule_of, below_of, operand_depth, region_depth, other_depth}
use Rattle.rule_stages.proofs.Turns.{at_depth_known}

-- the selections of a depth

pub at_among : (r : Rules) (depth : ℕ) (s : SelectRule) → IsAmong (at_depth r depth) s → IsAmong r.selects s
at_among r depth s a = (at_depth_known r depth a.at s a.there).0

at_number : (r : Rules) (depth k : ℕ) (s : SelectRule) → select_at (at_depth r depth) k ≡ Some s → (s.name ≡ k) × IsAmong r.selects s × (get_or (depths r) s.name 0 ≡ depth)
at_number r depth k s e =
    let f = found (at_depth r depth) k s e in
    let a = at_depth_known r depth f.1.at s f.1.there in
    (f.0, a.0, a.1)

sight_reads : (s : SelectRule) (j : ℕ) → Reads (sight_form s) j → (s.region ≡ j) ⊎ (s.other ≡ j)
sight_reads s j reads = reads

-- a name as it is seen
pub record IsSeenAt (r : Rules) (depth : ℕ) (staged : List LayerRule) (k : ℕ) : Type 0 where
  pub rule : LayerRule
  pub seen : LayerRule
  pub there : slice_get r.names k ≡ Some rule
  pub as_seen : slice_get staged k ≡ Some seen
  pub name : seen.name ≡ rule.name
  pub form : IsStageForm (select_at (at_depth r depth) k) (IsByName staged (length staged) k) rule.form seen.form

pub seen_at : (r : Rules) (depth : ℕ) (staged : List LayerRule) (k : ℕ) → AreStageNames r.names (at_depth r depth) staged → k < length r.names → IsSeenAt r depth staged k
seen_at r depth staged k are lt =
    let n = item_at r.names k lt in
    let o = are.each k n.0 n.1 in
    record { rule = n.0; seen = o.0; there = n.1; as_seen = o.1; name = o.2; form = o.3 }

-- what is read is less deep than the selections

depth_by : (r : Rules) (depth : ℕ) (staged : List LayerRule) → IsFormed r → (m k : ℕ) (rule seen : LayerRule) (o : Option SelectRule) → select_at (at_depth r depth) m ≡ o → slice_get r.names m ≡ Some rule
    → IsStageForm o (IsByName staged (length staged) m) rule.form seen.form → Reads seen.form k → (k < m → IsByName staged (length staged) m → get_or (depths r) m 0 < depth) → get_or (depths r) k 0 < depth
depth_by r depth staged h m k rule seen (Some s) e at is reads rest =
    let a = at_number r depth m s e in
    elim (sight_reads s k (subst (λ g. Reads g k) is reads)) [
      | inl same ↦ subst (λ d. get_or (depths r) k 0 < d) a.2 (subst (λ i. get_or (depths r) i 0 < get_or (depths r) s.name 0) same (region_depth r h s a.1))
      | inr same ↦ subst (λ d. get_or (depths r) k 0 < d) a.2 (subst (λ i. get_or (depths r) i 0 < get_or (depths r) s.name 0) same (other_depth r h s a.1))
    ]
depth_by r depth staged h m k rule seen None e at (inl (read, is)) reads rest =
    let own = subst (λ g. Reads g k) is reads in
    let le = operand_depth r h m rule k at own in
    let lt = rest (below_of r h m rule at k own) read in
    omega (arith, le, lt)
depth_by r depth staged h m k rule seen None e at (inr (not, is)) reads rest = absurd (subst (λ g. Reads g k) is reads)

depth_to : (r : Rules) (depth : ℕ) (staged : List LayerRule) → IsFormed r → AreStageNames r.names (at_depth r depth) staged → (fuel k : ℕ) → length staged ≤ k + fuel → IsByName staged (length staged) k → get_or (depths r) k 0 < depth
depth_to r depth staged h are zero k fits b =
    let count = are.count in let in_ = b.at_in in
    let s = seen_at r depth staged b.at are (omega (arith, count, in_)) in
    let same : b.rule ≡ s.seen = same_Some b.rule s.seen (sym b.there ∙ s.as_seen) in
    depth_by r depth staged h b.at k s.rule s.seen (select_at (at_depth r depth) b.at) refl s.there s.form (subst (λ (n : LayerRule). Reads n.form k) same b.reads) (λ lt. absurd (let w : ⊥ = omega (arith, lt, fits, in_) in w))
depth_to r depth staged h are (suc fuel) k fits b =
    let count = are.count in let in_ = b.at_in in
    let s = seen_at r depth staged b.at are (omega (arith, count, in_)) in
    let same : b.rule ≡ s.seen = same_Some b.rule s.seen (sym b.there ∙ s.as_seen) in
    depth_by r depth staged h b.at k s.rule s.seen (select_at (at_depth r depth) b.at) refl s.there s.form (subst (λ (n : LayerRule). Reads n.form k) same b.reads) (λ lt. depth_to r depth staged h are fuel b.at (omega (arith, lt, fits)))

pub read_depth : (r : Rules) (depth : ℕ) (staged : List LayerRule) (k : ℕ) → IsFormed r → AreStageNames r.names (at_depth r depth) staged → IsByName staged (length staged) k → get_or (depths r) k 0 < depth
read_depth r depth staged k h are b = depth_to r depth staged h are (length staged) k (omega arith) b

-- so it has the form that it had
pub read_form : (r : Rules) (depth : ℕ) (staged : List LayerRule) (k : ℕ) (rule seen : LayerRule) → IsFormed r → AreStageNames r.names (at_depth r depth) staged → IsByName staged (length staged) k
    → IsStageForm (select_at (at_depth r depth) k) (IsByName staged (length staged) k) rule.form seen.form → seen.form ≡ rule.form
read_form r depth staged k rule seen h are b is = by (select_at (at_depth r depth) k) refl is
  where
    by : (o : Option SelectRule) → select_at (at_depth r depth) k ≡ o → IsStageForm o (IsByName staged (length staged) k) rule.form seen.form → seen.form ≡ rule.form
    by (Some s) e f =
        let a = at_number r depth k s e in
        let lt = read_depth r depth staged k h are b in
        let same = ap (λ i. get_or (depths r) i 0) a.0 in let deep = a.2 in
        absurd (let w : ⊥ = omega (arith, lt, same, deep) in w)
    by None e (inl f) = f.1
    by None e (inr f) = absurd (f.0 b)

-- names as they are seen read names before them
pub stage_below : (r : Rules) (depth : ℕ) (staged : List LayerRule) (k : ℕ) (rule seen : LayerRule) → IsFormed r → slice_get r.names k ≡ Some rule
    → IsStageForm (select_at (at_depth r depth) k) (IsByName staged (length staged) k) rule.form seen.form → (j : ℕ) → Reads seen.form j → j < k
stage_below r depth staged k rule seen h at is j reads = by (select_at (at_depth r depth) k) refl is
  where
    by : (o : Option SelectRule) → select_at (at_depth r depth) k ≡ o → IsStageForm o (IsByName staged (length staged) k) rule.form seen.form → j < k
    by (Some s) e f =
        let a = at_number r depth k s e in
        let known = select_rule_of r s h a.1 in
        elim (sight_reads s j (subst (λ g. Reads g j) f reads)) [
          | inl same ↦ subst (λ i. i < k) same (subst (λ i. s.region < i) a.0 known.before.0)
          | inr same ↦ subst (λ i. i < k) same (subst (λ i. s.other < i) a.0 known.before.1)
        ]
    by None e (inl f) = below_of r h k rule at j (subst (λ g. Reads g j) f.1 reads)
    by None e (inr f) = absurd (subst (λ g. Reads g j) f.1 reads)

-- what is read has one tree over both

tree_to : (r : Rules) (depth : ℕ) (staged : List LayerRule) → IsFormed r → AreStageNames r.names (at_depth r depth) staged → (m k : ℕ) → k < m → k < length r.names → IsByName staged (length staged) k
    → get_or (formulas staged) k Empty ≡ get_or (formulas r.names) k Empty
tree_to r depth staged h are zero k lt long b = absurd (let w : ⊥ = omega (arith, lt) in w)
tree_to r depth staged h are (suc m) k lt long b =
    let s = seen_at r depth staged k are long in
    let same = read_form r depth staged k s.rule s.seen h are b s.form in
    let below = stage_below r depth staged k s.rule s.seen h s.there s.form in
    tree_at staged k s.seen s.as_seen below
    ∙ form_tree (formulas staged) (formulas r.names) s.seen.form (λ j reads.
    let less = below j reads in
    tree_to r depth staged h are m j (omega (arith, less, lt)) (omega (arith, less, long))
    (record { at = k; rule = s.seen; at_in = slice_get_within staged k s.seen s.as_seen; there = s.as_seen; reads = reads }))
    ∙ ap (formula_by (formulas r.names)) same
    ∙ sym (tree_at r.names k s.rule s.there (below_of r h k s.rule s.there))

pub same_tree : (r : Rules) (depth : ℕ) (staged : List LayerRule) (k : ℕ) → IsFormed r → AreStageNames r.names (at_depth r depth) staged → IsByName staged (length staged) k
    → get_or (formulas staged) k Empty ≡ get_or (formulas r.names) k Empty
same_tree r depth staged k h are b =
    let count = are.count in let in_ = b.at_in in
    let s = seen_at r depth staged b.at are (omega (arith, count, in_)) in
    let same : b.rule ≡ s.seen = same_Some b.rule s.seen (sym b.there ∙ s.as_seen) in
    let less = stage_below r depth staged b.at s.rule s.seen h s.there s.form k (subst (λ (n : LayerRule). Reads n.form k) same b.reads) in
    tree_to r depth staged h are (suc k) k (omega arith) (omega (arith, less, count, in_)) b

-- a selection's own name
pub own_seen : (r : Rules) (depth : ℕ) (staged : List LayerRule) (s : SelectRule) → IsFormed r → AreStageNames r.names (at_depth r depth) staged → IsAmong (at_depth r depth) s
    → (seen : LayerRule) × (slice_get staged s.name ≡ Some seen) × (seen.form ≡ sight_form s)
own_seen r depth staged s h are a =
    let known = select_rule_of r s h (at_among r depth s a) in
    let o = are.each s.name known.rule known.there in
    let is = own_found r (at_depth r depth) h (at_among r depth) s a in
    (o.0, o.1, subst (λ p. IsStageForm p (IsByName staged (length staged) s.name) known.rule.form o.0.form) is o.3)

abbrev made_of : SelectRule → Formula → Formula → Select
made_of s region other = record {
  joint = Corners;
  region = region;
  other = other;
  ask = ask_of s.ask;
  side = side_of s.others;
}

pub stage_select : StageSelectLaw
stage_select r depth k staged s sound are at =
    let h = sound.formed in
    let a : IsAmong (at_depth r depth) s = record { at = k; there = at } in
    let known = select_rule_of r s h (at_among r depth s a) in
    let own = own_seen r depth staged s h are a in
    let in_ = slice_get_within staged s.name own.0 own.1 in
    let by_region : IsByName staged (length staged) s.region = record { at = s.name; rule = own.0; at_in = in_; there = own.1; reads = subst (λ g. Reads g s.region) (sym own.2) (inl refl) } in
    let by_other : IsByName staged (length staged) s.other = record { at = s.name; rule = own.0; at_in = in_; there = own.1; reads = subst (λ g. Reads g s.other) (sym own.2) (inr refl) } in
    let region = same_tree r depth staged s.region h are by_region in
    let other = same_tree r depth staged s.other h are by_other in
    let long = trees_long staged in
    let first = known.before.0 in let second = known.before.1 in
    record {
      same = ap (λ (x : Formula). made_of s x (get_or (formulas staged) s.other Empty)) region ∙ ap (λ (x : Formula). made_of s (get_or (formulas r.names) s.region Empty) x) other;
      known = record {
        region = omega (arith, long, in_, first);
        other = omega (arith, long, in_, second);
        both = tree_there staged s.name own.0 own.1 (λ j reads. elim (sight_reads s j (subst (λ g. Reads g j) own.2 reads)) [ inl same ↦ subst (λ i. i < s.name) same first | inr same ↦ subst (λ i. i < s.name) same second ])
            ∙ ap (λ g. Some (formula_by (formulas staged) g)) own.2;
      };
    }
