-- How far names and device rules reach.
use Rattle.std.proofs.Common.{◌≡◌, inl, inr, ℕ, zero, suc, ◌+◌, ◌≤◌, max, unsigned_abs, Bool, true, false, List, [], ◌∷◌, ◌++◌, map, refl, sym, ap, subst, ◌∙◌, arith, get_or}
use Rattle.base_laws.proofs.Items.{map_from}
use Rattle.std.proofs.Math.Nat.{le-max_left, le-max_right, le_trans}
use Rattle.std.proofs.lemmas.List.{map-append}
use Rattle.std.specs.List.{All}
use Rattle.std.proofs.lemmas.List.Elements.{All-head, All-tail}
use Rattle.flat_layout.specs.Gates.{Rule, gate_reach}
use Rattle.flat_layout.specs.Layers.{Formula, Empty, reach}
use Rattle.flat_layout.specs.Regions.{formula}
use Rattle.rule_text.specs.declared.rules.LayerForm.{LayerForm}
use Rattle.rule_text.specs.declared.rules.LayerForm.TheVariants as form
use Rattle.rule_text.specs.declared.rules.LayerRule.{LayerRule}
use Rattle.rule_text.specs.declared.rules.MosRule.{MosRule}
use Rattle.rule_text.specs.declared.rules.MoreRule.{MoreRule}
use Rattle.rule_text.specs.declared.rules.MoreRule.TheVariants as more
use Rattle.rule_text.specs.Reaches.{MOST_REACH, reach_by, reaches_behind}
use Rattle.rule_text.specs.Reading.{is_conductor}
use Rattle.rule_text.specs.Rules.{Rules}
use Rattle.rule_layers.specs.Formulas.{formulas, formulas_behind, formula_by, greatest, greatest_reach}
use Rattle.rule_layers.specs.Laws.{ReachLaw, ReachInLaw, NearLaw, GateReachLaw}
use Rattle.rule_layers.specs.Meaning.{device_rule, more_rule, mos_rules, wiring_of}
use Rattle.rule_layers.proofs.Wired.{conductors, of_both}

one_reach : (xs : List Formula) (k : ℕ) → get_or (map reach xs) k 0 ≡ reach (get_or xs k Empty)
one_reach [] k = refl
one_reach (x ∷ xs) zero = refl
one_reach (x ∷ xs) (suc k) = one_reach xs k

form_reach : (before : List Formula) (f : LayerForm) → reach_by (map reach before) f ≡ reach (formula_by before f)
form_reach before (form.Input key) = refl
form_reach before (form.Labels key) = refl
form_reach before form.Empty = refl
form_reach before (form.Binary op a b) = ap (λ n. max n (get_or (map reach before) b 0)) (one_reach before a) ∙ ap (λ n. max (reach (get_or before a Empty)) n) (one_reach before b)
form_reach before (form.Sized a by) = ap (λ n. n + unsigned_abs by) (one_reach before a)

behind : (before : List Formula) (names : List LayerRule) → reaches_behind (map reach before) names ≡ map reach (formulas_behind before names)
behind before [] = refl
behind before (n ∷ names) =
    let step : map reach before ++ reach_by (map reach before) n.form ∷ [] ≡ map reach (before ++ formula_by before n.form ∷ []) =
    ap (λ m. map reach before ++ m ∷ []) (form_reach before n.form) ∙ sym (map-append reach before (formula_by before n.form ∷ [])) in
    ap (λ (l : List ℕ). reaches_behind l names) step ∙ behind (before ++ formula_by before n.form ∷ []) names

pub reach_law : ReachLaw
reach_law names = behind [] names

within : (xs : List Formula) (k : ℕ) → reach (get_or xs k Empty) ≤ greatest (map reach xs)
within [] k = omega arith
within (x ∷ xs) zero = le-max_left (reach x) (greatest (map reach xs))
within (x ∷ xs) (suc k) = le_trans (within xs k) (le-max_right (reach x) (greatest (map reach xs)))

pub reach_in : ReachInLaw
reach_in names k = within (formulas names) k

greater : (m n limit : ℕ) → m ≤ limit → n ≤ limit → max m n ≤ limit
greater m n limit h g = grind (arith, h, g)

pub all_near : (limit : ℕ) (ns : List ℕ) → All (λ n. n ≤ limit) ns → greatest ns ≤ limit
all_near limit [] h = omega arith
all_near limit (n ∷ ns) h = greater n (greatest ns) limit (All-head (λ m. m ≤ limit) n ns h) (all_near limit ns (All-tail (λ m. m ≤ limit) n ns h))

pub near : NearLaw
near r sound =
    let h = all_near MOST_REACH (map reach (formulas r.names)) (subst (λ (l : List ℕ). All (λ n. n ≤ MOST_REACH) l) (reach_law r.names) sound.formed.near) in
    omega (arith, h)

pub conductor_reach : (r : Rules) (k : ℕ) → reach (formula (wiring_of r) k) ≤ greatest_reach r.names
conductor_reach r k = by (is_conductor k r) refl
  where
    by : (b : Bool) → is_conductor k r ≡ b → reach (formula (wiring_of r) k) ≤ greatest_reach r.names
    by true e = subst (λ (x : Formula). reach x ≤ greatest_reach r.names) (sym ((conductors r k).conductor e)) (reach_in r.names k)
    by false e = subst (λ (x : Formula). reach x ≤ greatest_reach r.names) (sym ((conductors r k).none e)) (omega arith)

six : (a b c d e f limit : ℕ) → a ≤ limit → b ≤ limit → c ≤ limit → d ≤ limit → e ≤ limit → f ≤ limit → max a (max b (max c (max d (max e f)))) ≤ limit
six a b c d e f limit h1 h2 h3 h4 h5 h6 = greater a _ limit h1 (greater b _ limit h2 (greater c _ limit h3 (greater d _ limit h4 (greater e f limit h5 h6))))

mos_reach : (r : Rules) (m : MosRule) → gate_reach (wiring_of r) (device_rule r m) ≤ greatest_reach r.names
mos_reach r m = six _ _ _ _ _ _ _ (reach_in r.names m.sd) (reach_in r.names m.g) (reach_in r.names m.w) (conductor_reach r m.ts) (conductor_reach r m.tg) (conductor_reach r m.tb)

more_reach : (r : Rules) (m : MoreRule) → gate_reach (wiring_of r) (more_rule r m) ≤ greatest_reach r.names
more_reach r (more.Resistor class n c w ta tw) = six _ _ _ _ _ _ _ (reach_in r.names c) (reach_in r.names n) (reach_in r.names w) (conductor_reach r ta) (conductor_reach r tw) (conductor_reach r tw)
more_reach r (more.Diode class p n ta tc) =
    six _ _ _ _ _ _ _ (omega arith) (greater (reach (get_or (formulas r.names) p Empty)) (reach (get_or (formulas r.names) n Empty)) _ (reach_in r.names p) (reach_in r.names n)) (omega arith) (conductor_reach r ta) (conductor_reach r tc) (conductor_reach r tc)

pub gate_reaches : GateReachLaw
gate_reaches r n u h = elim (of_both (mos_rules r) (map (more_rule r) r.more) n u h) [
  | inl g ↦
      let m = map_from (device_rule r) r.devices n u g in
      subst (λ (v : Rule). gate_reach (wiring_of r) v ≤ greatest_reach r.names) m.2 (mos_reach r m.0)
  | inr (k, g) ↦
      let m = map_from (more_rule r) r.more k u g in
      subst (λ (v : Rule). gate_reach (wiring_of r) v ≤ greatest_reach r.names) m.2 (more_reach r m.0)
]
