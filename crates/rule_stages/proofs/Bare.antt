-- The rules of a depth are sound.
use Rattle.std.proofs.Common.{◌≡◌, inl, inr, ℕ, suc, ◌<◌, ◌≤◌, max, List, [], ◌∷◌, Option, Some, None, map, refl, sym, ap, ◌∙◌, subst, arith, length, get_or, slice_get}
use Rattle.base_laws.proofs.Items.{map_from, one_list}
use Rattle.std.specs.List.{All}
use Rattle.std.proofs.lemmas.List.{length-map}
use Rattle.std.proofs.lemmas.List.Elements.{All-nil, All-cons}
use Rattle.std.proofs.lemmas.Option.{slice_get_within, same_Some, get_or_from_slice_get}
use Rattle.plain_netlist.specs.Lists.{AreApart}
use Rattle.flat_layout.specs.Layers.{Formula, Empty, reach}
use Rattle.rule_text.proofs.SoundLemmas.{none_formed}
use Rattle.rule_text.specs.declared.rules.LayerForm.{LayerForm}
use Rattle.rule_text.specs.declared.rules.LayerForm.TheVariants as form
use Rattle.rule_text.specs.declared.rules.LayerRule.{LayerRule}
use Rattle.rule_text.specs.declared.rules.SelectRule.{SelectRule}
use Rattle.rule_text.specs.Reaches.{MOST_REACH}
use Rattle.rule_text.specs.Rules.{Rules, names_of, are_texts, is_text_rule}
use Rattle.rule_text.specs.Sound.{Each, IsLayer, AreOperands, IsReadable, IsFormed, IsSound}
use Rattle.rule_layers.specs.Formulas.{formulas, formula_by, greatest_reach}
use Rattle.rule_layers.specs.Reads.{IsByName, Reads}
use Rattle.rule_layers.proofs.Reaching.{reach_law, reach_in, near}
use Rattle.rule_stages.specs.Depths.{select_at}
use Rattle.rule_stages.specs.Selections.{sight_form}
use Rattle.rule_stages.specs.StageRules.{AreStageNames, IsStageForm, bare_rules, StageSoundLaw}
use Rattle.rule_stages.specs.Stages.{at_depth}
use Rattle.rule_stages.proofs.Folds.{tree_there, trees_long}
use Rattle.rule_stages.proofs.Knowing.{found, select_rule_of}
use Rattle.rule_stages.proofs.Staged.{IsSeenAt, seen_at, read_form, stage_below, same_tree, at_among}

same_names : (r : Rules) (depth : ℕ) (staged : List LayerRule) → AreStageNames r.names (at_depth r depth) staged → names_of r ≡ names_of (bare_rules staged)
same_names r depth staged are = one_list (map (λ (n : LayerRule). n.name) r.names) (map (λ (n : LayerRule). n.name) staged)
    (length-map r.names (λ (n : LayerRule). n.name) ∙ sym are.count ∙ sym (length-map staged (λ (n : LayerRule). n.name)))
    (λ k x y at there.
    let a = map_from (λ (n : LayerRule). n.name) r.names k x at in
    let b = map_from (λ (n : LayerRule). n.name) staged k y there in
    let o = are.each k a.0 a.1 in
    let same : b.0 ≡ o.0 = same_Some b.0 o.0 (sym b.1 ∙ o.1) in
    sym a.2 ∙ sym o.2 ∙ ap (λ (n : LayerRule). n.name) (sym same) ∙ b.2)

-- what is read is a layer as it was
stage_layer : (r : Rules) (depth : ℕ) (staged : List LayerRule) (j : ℕ) → IsFormed r → AreStageNames r.names (at_depth r depth) staged → IsByName staged (length staged) j → IsLayer r.names j → IsLayer staged j
stage_layer r depth staged j h are b layer =
    let s = seen_at r depth staged j are layer.below in
    let same = read_form r depth staged j s.rule s.seen h are b s.form in
    let count = are.count in let below = layer.below in
    record {
      below = omega (arith, count, below);
      plain = ap (λ o. is_text_rule o) s.as_seen ∙ ap are_texts same ∙ sym (ap (λ o. is_text_rule o) s.there) ∙ layer.plain;
    }

by_name : (staged : List LayerRule) (k j : ℕ) (seen : LayerRule) → slice_get staged k ≡ Some seen → Reads seen.form j → IsByName staged (length staged) j
by_name staged k j seen at reads = record { at = k; rule = seen; at_in = slice_get_within staged k seen at; there = at; reads = reads }

own_operands : (r : Rules) (depth : ℕ) (staged : List LayerRule) (k : ℕ) (seen : LayerRule) (f : LayerForm) → IsFormed r → AreStageNames r.names (at_depth r depth) staged → slice_get staged k ≡ Some seen → seen.form ≡ f
    → AreOperands r.names k f → AreOperands staged k f
own_operands r depth staged k seen (form.Input key) h are at is o = tt
own_operands r depth staged k seen (form.Labels key) h are at is o = tt
own_operands r depth staged k seen form.Empty h are at is o = tt
own_operands r depth staged k seen (form.Binary op a b) h are at is o = (
  o.0,
  o.1,
  stage_layer r depth staged a h are (by_name staged k a seen at (subst (λ g. Reads g a) (sym is) (inl refl))) o.2,
  stage_layer r depth staged b h are (by_name staged k b seen at (subst (λ g. Reads g b) (sym is) (inr refl))) o.3,
)
own_operands r depth staged k seen (form.Sized a by) h are at is o = (o.0, stage_layer r depth staged a h are (by_name staged k a seen at (subst (λ g. Reads g a) (sym is) refl)) o.1, o.2)

stage_operands : (r : Rules) (depth : ℕ) (staged : List LayerRule) (k : ℕ) (rule seen : LayerRule) (o : Option SelectRule) → IsFormed r → AreStageNames r.names (at_depth r depth) staged → slice_get r.names k ≡ Some rule → slice_get staged k ≡ Some seen
    → select_at (at_depth r depth) k ≡ o → IsStageForm o (IsByName staged (length staged) k) rule.form seen.form → AreOperands staged k seen.form
stage_operands r depth staged k rule seen (Some s) h are at there e is =
    let f = found (at_depth r depth) k s e in
    let known = select_rule_of r s h (at_among r depth s f.1) in
    let operands : AreOperands r.names k (sight_form s) = (subst (λ i. s.region < i) f.0 known.before.0, subst (λ i. s.other < i) f.0 known.before.1, known.layers.0, known.layers.1) in
    subst (AreOperands staged k) (sym is) (own_operands r depth staged k seen (sight_form s) h are there is operands)
stage_operands r depth staged k rule seen None h are at there e (inl (read, is)) = subst (AreOperands staged k) (sym is) (own_operands r depth staged k seen rule.form h are there is (h.operands k rule at))
stage_operands r depth staged k rule seen None h are at there e (inr (not, is)) = subst (AreOperands staged k) (sym is) tt

stage_readable : (r : Rules) (k : ℕ) (P : Type 0) (rule seen : LayerRule) (o : Option SelectRule) → IsFormed r → slice_get r.names k ≡ Some rule → IsStageForm o P rule.form seen.form → IsReadable k seen.form
stage_readable r k P rule seen (Some s) h at is = subst (IsReadable k) (sym is) tt
stage_readable r k P rule seen None h at (inl (read, is)) = subst (IsReadable k) (sym is) (h.readable k rule at)
stage_readable r k P rule seen None h at (inr (not, is)) = subst (IsReadable k) (sym is) tt

-- no name reaches further

greater : (m n limit : ℕ) → m ≤ limit → n ≤ limit → max m n ≤ limit
greater m n limit h g = grind (arith, h, g)

read_reach : (r : Rules) (depth : ℕ) (staged : List LayerRule) (k : ℕ) → IsFormed r → AreStageNames r.names (at_depth r depth) staged → IsByName staged (length staged) k → reach (get_or (formulas staged) k Empty) ≤ greatest_reach r.names
read_reach r depth staged k h are b = subst (λ (x : Formula). reach x ≤ greatest_reach r.names) (sym (same_tree r depth staged k h are b)) (reach_in r.names k)

stage_reach : (r : Rules) (depth : ℕ) (staged : List LayerRule) (k : ℕ) (rule seen : LayerRule) (o : Option SelectRule) → IsFormed r → AreStageNames r.names (at_depth r depth) staged → slice_get staged k ≡ Some seen
    → get_or (formulas staged) k Empty ≡ formula_by (formulas staged) seen.form → IsStageForm o (IsByName staged (length staged) k) rule.form seen.form → reach (get_or (formulas staged) k Empty) ≤ greatest_reach r.names
stage_reach r depth staged k rule seen (Some s) h are there tree is =
    subst (λ (x : Formula). reach x ≤ greatest_reach r.names) (sym (tree ∙ ap (formula_by (formulas staged)) is))
    (greater (reach (get_or (formulas staged) s.region Empty)) (reach (get_or (formulas staged) s.other Empty)) (greatest_reach r.names)
    (read_reach r depth staged s.region h are (by_name staged k s.region seen there (subst (λ g. Reads g s.region) (sym is) (inl refl))))
    (read_reach r depth staged s.other h are (by_name staged k s.other seen there (subst (λ g. Reads g s.other) (sym is) (inr refl)))))
stage_reach r depth staged k rule seen None h are there tree (inl (read, is)) = read_reach r depth staged k h are read
stage_reach r depth staged k rule seen None h are there tree (inr (not, is)) = subst (λ (x : Formula). reach x ≤ greatest_reach r.names) (sym (tree ∙ ap (formula_by (formulas staged)) is)) (omega arith)

none_each : {A : Type 0} (P : ℕ → A → Type 0) → Each P []
none_each P = λ k x e. absurd (let w : ⊥ = cc in w)

seen_of : (r : Rules) (depth : ℕ) (staged : List LayerRule) (k : ℕ) (n : LayerRule) → AreStageNames r.names (at_depth r depth) staged → slice_get staged k ≡ Some n → IsSeenAt r depth staged k
seen_of r depth staged k n are e = seen_at r depth staged k are (let lt = slice_get_within staged k n e in let count = are.count in omega (arith, lt, count))

form_of : (r : Rules) (depth : ℕ) (staged : List LayerRule) (k : ℕ) (n : LayerRule) (s : IsSeenAt r depth staged k) → slice_get staged k ≡ Some n
    → IsStageForm (select_at (at_depth r depth) k) (IsByName staged (length staged) k) s.rule.form n.form
form_of r depth staged k n s e =
    subst (λ (m : LayerRule). IsStageForm (select_at (at_depth r depth) k) (IsByName staged (length staged) k) s.rule.form m.form) (same_Some s.seen n (sym s.as_seen ∙ e)) s.form

near_at : (r : Rules) (depth : ℕ) (staged : List LayerRule) → IsSound r → AreStageNames r.names (at_depth r depth) staged → (k : ℕ) (x : Formula) → slice_get (formulas staged) k ≡ Some x → reach x ≤ MOST_REACH
near_at r depth staged sound are k x e =
    let lt = slice_get_within (formulas staged) k x e in
    let long = trees_long staged in let count = are.count in
    let s = seen_at r depth staged k are (omega (arith, lt, long, count)) in
    let tree = get_or_from_slice_get (formulas staged) k (formula_by (formulas staged) s.seen.form) Empty (tree_there staged k s.seen s.as_seen (stage_below r depth staged k s.rule s.seen sound.formed s.there s.form)) in
    let le = stage_reach r depth staged k s.rule s.seen (select_at (at_depth r depth) k) sound.formed are s.as_seen tree s.form in
    let same = get_or_from_slice_get (formulas staged) k x Empty e in
    let most = near r sound in
    subst (λ (y : Formula). reach y ≤ MOST_REACH) same (omega (arith, le, most))

all_from : (P : ℕ → Type 0) (xs : List ℕ) → ((k : ℕ) (x : ℕ) → slice_get xs k ≡ Some x → P x) → All P xs
all_from P [] h = All-nil P
all_from P (x ∷ xs) h = All-cons P x xs (h 0 x refl) (all_from P xs (λ k y e. h (suc k) y e))

near_all : (r : Rules) (depth : ℕ) (staged : List LayerRule) → IsSound r → AreStageNames r.names (at_depth r depth) staged → All (λ n. n ≤ MOST_REACH) (map reach (formulas staged))
near_all r depth staged sound are = all_from (λ n. n ≤ MOST_REACH) (map reach (formulas staged)) (λ k n e.
    let m = map_from reach (formulas staged) k n e in
    subst (λ i. i ≤ MOST_REACH) m.2 (near_at r depth staged sound are k m.0 m.1))

stage_formed : (r : Rules) (depth : ℕ) (staged : List LayerRule) → IsSound r → AreStageNames r.names (at_depth r depth) staged → IsFormed (bare_rules staged)
stage_formed r depth staged sound are = record {
  names = subst (λ (ws : List (List ℕ)). AreApart ws) (same_names r depth staged are) sound.formed.names;
  operands = λ k n e. let s = seen_of r depth staged k n are e in stage_operands r depth staged k s.rule n (select_at (at_depth r depth) k) sound.formed are s.there e refl (form_of r depth staged k n s e);
  near = subst (λ (l : List ℕ). All (λ n. n ≤ MOST_REACH) l) (sym (reach_law staged)) (near_all r depth staged sound are);
  readable = λ k n e. let s = seen_of r depth staged k n are e in stage_readable r k (IsByName staged (length staged) k) s.rule n (select_at (at_depth r depth) k) sound.formed s.there (form_of r depth staged k n s e);
  selects = none_each _;
  ascending = tt;
  keys = none_formed.keys;
  outputs = none_each _;
  written = none_each _;
  connects = none_each _;
  globals = none_each _;
  classes = none_formed.classes;
  others = none_formed.others;
  apart = none_formed.apart;
  strings = none_each _;
  more_strings = none_each _;
  devices = none_each _;
  more = none_each _;
  layouts = none_formed.layouts;
  schematics = none_formed.schematics;
  flat_layouts = none_formed.flat_layouts;
  flat_schematics = none_formed.flat_schematics;
  guesses = none_formed.guesses;
}

pub stage_sound : StageSoundLaw
stage_sound r depth staged sound are = record { formed = stage_formed r depth staged sound are; connected = none_each _; more_connected = none_each _ }
