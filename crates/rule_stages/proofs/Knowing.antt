-- What is known of the selections of a sound rule set: each stands upon what it reads.
use Rattle.std.proofs.Common.{◌≡◌, ◌⊎◌, inl, inr, ℕ, zero, suc, ◌+◌, ◌<◌, ◌≤◌, max, Bool, true, false, cond, List, [], ◌∷◌, Option, Some, None, refl, sym, ap, ◌∙◌, subst, arith, length, get_or, slice_get}
use Rattle.std.specs.Prelude.{◌==◌}
use Rattle.std.proofs.Math.Decide.{ℕ_discrete}
use Rattle.std.proofs.Math.Nat.{le-max_left, le-max_right}
use Rattle.std.proofs.lemmas.Option.{slice_get_within, same_Some}
use Rattle.base_laws.proofs.Items.{item_at}
use Rattle.plain_netlist.proofs.Listing.{rising_at}
use Rattle.flat_layout.specs.Layout.{Some_of}
use Rattle.flat_layout.specs.Layers.{Empty, inputs}
use Rattle.flat_laws.proofs.Shut.{some_either}
use Rattle.geo_base.specs.Layers.{IsStreamKey}
use Rattle.geo_base.specs.declared.layer.LayerKey.{LayerKey}
use Rattle.rule_text.specs.declared.rules.LayerForm.{LayerForm}
use Rattle.rule_text.specs.declared.rules.LayerForm.TheVariants as form
use Rattle.rule_text.specs.declared.rules.LayerRule.{LayerRule}
use Rattle.rule_text.specs.declared.rules.SelectRule.{SelectRule}
use Rattle.rule_text.specs.Rules.{Rules, select_key}
use Rattle.rule_text.specs.Sound.{AreOperands, IsReadable, IsSelectRule, IsNamedBefore, IsFormed}
use Rattle.rule_layers.specs.Formulas.{formulas, formula_by}
use Rattle.rule_layers.specs.Reads.{Reads}
use Rattle.rule_stages.specs.Depths.{select_at, depths, form_depth}
use Rattle.rule_stages.specs.Stages.{stage_of}
use Rattle.select_laws.specs.Staged.{Reads as StageReads}
use Rattle.rule_stages.proofs.Folds.{tree_at, plain_depth, select_depth}

-- the selection that is found by its name's number

same_number : (m n : ℕ) → (m == n) ≡ true → m ≡ n
same_number m n e = grind (arith, e)

number_same : (m n : ℕ) → m ≡ n → (m == n) ≡ true
number_same m n e = grind (arith, e)

pub record IsAmong (selects : List SelectRule) (s : SelectRule) : Type 0 where
  pub at : ℕ
  pub there : slice_get selects at ≡ Some s

among_more : (x : SelectRule) (xs : List SelectRule) (s : SelectRule) → IsAmong xs s → IsAmong (x ∷ xs) s
among_more x xs s h = record { at = suc h.at; there = h.there }

found_by : (b : Bool) (x : SelectRule) (xs : List SelectRule) (k : ℕ) (s : SelectRule) → (x.name == k) ≡ b → (select_at xs k ≡ Some s → (s.name ≡ k) × IsAmong xs s) → cond b (Some x) (select_at xs k) ≡ Some s
    → (s.name ≡ k) × IsAmong (x ∷ xs) s
found_by true x xs k s test rest e =
    let same : x ≡ s = same_Some x s e in
    (subst (λ (y : SelectRule). y.name ≡ k) same (same_number x.name k test), record { at = 0; there = ap Some same })
found_by false x xs k s test rest e = let h = rest e in (h.0, among_more x xs s h.1)

pub found : (xs : List SelectRule) (k : ℕ) (s : SelectRule) → select_at xs k ≡ Some s → (s.name ≡ k) × IsAmong xs s
found [] k s e = absurd (let w : ⊥ = cc in w)
found (x ∷ xs) k s e = found_by (x.name == k) x xs k s refl (found xs k s) e

-- one stands there where a selection has the name
finds_by : (b : Bool) (x : SelectRule) (o : Option SelectRule) → (b ≡ false → (s : SelectRule) × (o ≡ Some s)) → (s : SelectRule) × (cond b (Some x) o ≡ Some s)
finds_by true x o rest = (x, refl)
finds_by false x o rest = rest refl

pub finds : (xs : List SelectRule) (j : ℕ) (s : SelectRule) → slice_get xs j ≡ Some s → (u : SelectRule) × (select_at xs s.name ≡ Some u)
finds [] j s e = absurd (let w : ⊥ = cc in w)
finds (x ∷ xs) zero s e =
    let same : x ≡ s = same_Some x s e in
    finds_by (x.name == s.name) x (select_at xs s.name) (λ no_. absurd (let yes_ = number_same x.name s.name (ap (λ (y : SelectRule). y.name) same) in let z : true ≡ false = sym yes_ ∙ no_ in let w : ⊥ = cc in w))
finds (x ∷ xs) (suc j) s e = finds_by (x.name == s.name) x (select_at xs s.name) (λ no_. finds xs j s e)

-- selections of a sound rule set differ in their names
pub one_name : (r : Rules) → IsFormed r → (s t : SelectRule) → IsAmong r.selects s → IsAmong r.selects t → s.name ≡ t.name → s ≡ t
one_name r h s t a b same = elim (ℕ_discrete a.at b.at) [
  | yes e ↦ same_Some s t (sym a.there ∙ ap (slice_get r.selects) e ∙ b.there)
  | no n ↦ absurd (by_order (cases a.at b.at n))
]
  where
    cases : (i j : ℕ) → (i ≡ j → ⊥) → (i < j) ⊎ (j < i)
    cases zero zero n = absurd (n refl)
    cases zero (suc j) n = inl (omega arith)
    cases (suc i) zero n = inr (omega arith)
    cases (suc i) (suc j) n = elim (cases i j (λ e. n (ap suc e))) [ inl lt ↦ inl (omega (arith, lt)) | inr gt ↦ inr (omega (arith, gt)) ]

    by_order : (a.at < b.at) ⊎ (b.at < a.at) → ⊥
    by_order (inl lt) = let less = rising_at IsNamedBefore r.selects a.at b.at s t h.ascending lt a.there b.there in omega (arith, same, less)
    by_order (inr gt) = let less = rising_at IsNamedBefore r.selects b.at a.at t s h.ascending gt b.there a.there in omega (arith, same, less)

-- among some of the rules' selections each is found by its own name
pub own_found : (r : Rules) (xs : List SelectRule) → IsFormed r → ((u : SelectRule) → IsAmong xs u → IsAmong r.selects u) → (s : SelectRule) → IsAmong xs s → select_at xs s.name ≡ Some s
own_found r xs h all s a =
    let f = finds xs a.at s a.there in
    let g = found xs s.name f.0 f.1 in
    f.1 ∙ ap Some (one_name r h f.0 s (all f.0 g.1) (all s a) g.0)

pub select_rule_of : (r : Rules) (s : SelectRule) → IsFormed r → IsAmong r.selects s → IsSelectRule r.names s
select_rule_of r s h a = h.selects a.at s a.there

-- operands stand below

pub operands_below : (names : List LayerRule) (k : ℕ) (f : LayerForm) → AreOperands names k f → (j : ℕ) → Reads f j → j < k
operands_below names k (form.Input key) h j reads = absurd reads
operands_below names k (form.Labels key) h j reads = absurd reads
operands_below names k form.Empty h j reads = absurd reads
operands_below names k (form.Binary op a b) h j (inl e) = subst (λ i. i < k) e h.0
operands_below names k (form.Binary op a b) h j (inr e) = subst (λ i. i < k) e h.1
operands_below names k (form.Sized a by) h j e = subst (λ i. i < k) e h.0

pub below_of : (r : Rules) → IsFormed r → (k : ℕ) (n : LayerRule) → slice_get r.names k ≡ Some n → (j : ℕ) → Reads n.form j → j < k
below_of r h k n at = operands_below r.names k n.form (h.operands k n at)

-- a name that reads others is no selection
no_reads : (f : LayerForm) (key : LayerKey) (j : ℕ) → f ≡ form.Input key → Reads f j → ⊥
no_reads f key j e reads = subst (λ g. Reads g j) e reads

pub plain_select : (r : Rules) → IsFormed r → (k : ℕ) (n : LayerRule) (j : ℕ) → slice_get r.names k ≡ Some n → Reads n.form j → select_at r.selects k ≡ None
plain_select r h k n j at reads = by (select_at r.selects k) refl
  where
    by : (o : Option SelectRule) → select_at r.selects k ≡ o → select_at r.selects k ≡ None
    by None e = e
    by (Some s) e =
        let f = found r.selects k s e in
        let known = select_rule_of r s h f.1 in
        let same : known.rule ≡ n = same_Some known.rule n (sym known.there ∙ ap (slice_get r.names) f.0 ∙ at) in
        absurd (no_reads n.form (select_key s.name) j (ap (λ (m : LayerRule). m.form) (sym same) ∙ known.own) reads)

-- depths

reads_depth : (ds : List ℕ) (f : LayerForm) (j : ℕ) → Reads f j → get_or ds j 0 ≤ form_depth ds f
reads_depth ds (form.Input key) j reads = absurd reads
reads_depth ds (form.Labels key) j reads = absurd reads
reads_depth ds form.Empty j reads = absurd reads
reads_depth ds (form.Binary op a b) j (inl e) = subst (λ i. get_or ds i 0 ≤ max (get_or ds a 0) (get_or ds b 0)) e (le-max_left (get_or ds a 0) (get_or ds b 0))
reads_depth ds (form.Binary op a b) j (inr e) = subst (λ i. get_or ds i 0 ≤ max (get_or ds a 0) (get_or ds b 0)) e (le-max_right (get_or ds a 0) (get_or ds b 0))
reads_depth ds (form.Sized a by) j e = subst (λ i. get_or ds i 0 ≤ get_or ds a 0) e (omega arith)

-- what a name reads is no deeper
pub operand_depth : (r : Rules) → IsFormed r → (k : ℕ) (n : LayerRule) (j : ℕ) → slice_get r.names k ≡ Some n → Reads n.form j → get_or (depths r) j 0 ≤ get_or (depths r) k 0
operand_depth r h k n j at reads =
    subst (λ m. get_or (depths r) j 0 ≤ m) (sym (plain_depth r.selects r.names k n at (plain_select r h k n j at reads) (below_of r h k n at))) (reads_depth (depths r) n.form j reads)

-- and what a selection reads is less deep
pub selected_depth : (r : Rules) → IsFormed r → (s : SelectRule) → IsAmong r.selects s → get_or (depths r) s.name 0 ≡ max (get_or (depths r) s.region 0) (get_or (depths r) s.other 0) + 1
selected_depth r h s a =
    let known = select_rule_of r s h a in
    select_depth r.selects r.names s.name known.rule s known.there (own_found r r.selects h (λ u b. b) s a) known.before.0 known.before.1

pub region_depth : (r : Rules) → IsFormed r → (s : SelectRule) → IsAmong r.selects s → get_or (depths r) s.region 0 < get_or (depths r) s.name 0
region_depth r h s a = let e = selected_depth r h s a in let m = le-max_left (get_or (depths r) s.region 0) (get_or (depths r) s.other 0) in omega (arith, e, m)

pub other_depth : (r : Rules) → IsFormed r → (s : SelectRule) → IsAmong r.selects s → get_or (depths r) s.other 0 < get_or (depths r) s.name 0
other_depth r h s a = let e = selected_depth r h s a in let m = le-max_right (get_or (depths r) s.region 0) (get_or (depths r) s.other 0) in omega (arith, e, m)

-- an input layer of a name's tree is that of a name that is no deeper

pub record IsSource (r : Rules) (k : ℕ) (key : LayerKey) : Type 0 where
  pub at : ℕ
  pub rule : LayerRule
  pub there : slice_get r.names at ≡ Some rule
  pub input : rule.form ≡ form.Input key
  pub depth : get_or (depths r) at 0 ≤ get_or (depths r) k 0

deeper : (r : Rules) (j k : ℕ) (key : LayerKey) → get_or (depths r) j 0 ≤ get_or (depths r) k 0 → IsSource r j key → IsSource r k key
deeper r j k key le s = let d = s.depth in record { at = s.at; rule = s.rule; there = s.there; input = s.input; depth = omega (arith, le, d) }

abbrev Reading : Rules → ℕ → LayerKey → Type 0
Reading r k key = Some_of (λ x. x ≡ key) (inputs (get_or (formulas r.names) k Empty))

source_by : (r : Rules) → IsFormed r → (k : ℕ) (n : LayerRule) (key : LayerKey) (f : LayerForm) → slice_get r.names k ≡ Some n → n.form ≡ f
    → ((j : ℕ) → Reads n.form j → Reading r j key → IsSource r j key) → Some_of (λ x. x ≡ key) (inputs (formula_by (formulas r.names) f)) → IsSource r k key
source_by r h k n key (form.Input own) at is rest (inl e) = record { at = k; rule = n; there = at; input = is ∙ ap form.Input e; depth = omega arith }
source_by r h k n key (form.Input own) at is rest (inr e) = absurd e
source_by r h k n key (form.Labels own) at is rest e = absurd e
source_by r h k n key form.Empty at is rest e = absurd e
source_by r h k n key (form.Binary op a b) at is rest e =
    let first : Reads n.form a = subst (λ g. Reads g a) (sym is) (inl refl) in
    let second : Reads n.form b = subst (λ g. Reads g b) (sym is) (inr refl) in
    elim (some_either (λ x. x ≡ key) (inputs (get_or (formulas r.names) a Empty)) (inputs (get_or (formulas r.names) b Empty)) e) [
      | inl g ↦ deeper r a k key (operand_depth r h k n a at first) (rest a first g)
      | inr g ↦ deeper r b k key (operand_depth r h k n b at second) (rest b second g)
    ]
source_by r h k n key (form.Sized a by) at is rest e =
    let first : Reads n.form a = subst (λ g. Reads g a) (sym is) refl in
    deeper r a k key (operand_depth r h k n a at first) (rest a first e)

source_to : (r : Rules) → IsFormed r → (m k : ℕ) (n : LayerRule) (key : LayerKey) → k < m → slice_get r.names k ≡ Some n → Reading r k key → IsSource r k key
source_to r h zero k n key lt at e = absurd (let w : ⊥ = omega (arith, lt) in w)
source_to r h (suc m) k n key lt at e =
    source_by r h k n key n.form at refl
    (λ j reads g. let below = below_of r h k n at j reads in let long = slice_get_within r.names k n at in let o = item_at r.names j (omega (arith, below, long)) in source_to r h m j o.0 key (omega (arith, below, lt)) o.1 g)
    (subst (λ x. Some_of (λ y. y ≡ key) (inputs x)) (tree_at r.names k n at (below_of r h k n at)) e)

pub source : (r : Rules) → IsFormed r → (k : ℕ) (key : LayerKey) → k < length r.names → Reading r k key → IsSource r k key
source r h k key lt e = let o = item_at r.names k lt in source_to r h (suc k) k o.0 key (omega arith) o.1 e

-- the layer of a selection is read by its own name alone
own_layer : (k name : ℕ) (f : LayerForm) → IsReadable k f → f ≡ form.Input (select_key name) → name ≡ k
own_layer k name f readable e = by (subst (IsReadable k) e readable)
  where
    by : IsStreamKey (select_key name) ⊎ (select_key name ≡ select_key k) → name ≡ k
    by (inl stream) = absurd (let lt = stream.layer in let w : ⊥ = omega (arith, lt) in w)
    by (inr same) = ap (λ (key : LayerKey). key.datatype) same

-- what reads the layer of a selection is deeper than this

via : (r : Rules) → IsFormed r → (k deep : ℕ) (t : SelectRule) → k < length r.names → get_or (depths r) k 0 < deep → Reading r k (select_key t.name) → get_or (depths r) t.name 0 < deep
via r h k deep t long lt e =
    let o = source r h k (select_key t.name) long e in
    let same : t.name ≡ o.at = own_layer o.at t.name o.rule.form (h.readable o.at o.rule o.there) o.input in
    let d = o.depth in
    subst (λ i. get_or (depths r) i 0 < deep) (sym same) (omega (arith, d, lt))

pub reads_deeper : (r : Rules) → IsFormed r → (s t : SelectRule) → IsAmong r.selects s → StageReads (stage_of r s) (select_key t.name) → get_or (depths r) t.name 0 < get_or (depths r) s.name 0
reads_deeper r h s t a reads =
    let known = select_rule_of r s h a in
    elim (some_either (λ x. x ≡ select_key t.name) (inputs (get_or (formulas r.names) s.region Empty)) (inputs (get_or (formulas r.names) s.other Empty)) reads) [
      | inl e ↦ via r h s.region (get_or (depths r) s.name 0) t known.layers.0.below (region_depth r h s a) e
      | inr e ↦ via r h s.other (get_or (depths r) s.name 0) t known.layers.1.below (other_depth r h s a) e
    ]
