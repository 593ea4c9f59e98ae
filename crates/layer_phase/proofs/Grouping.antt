-- Derived names by how far they reach.
use Rattle.std.proofs.Common.{◌≡◌, ◌⊎◌, inl, inr, ℕ, zero, suc, ◌<◌, ◌≤◌, ◌+◌, ◌^◌, ◌==◌, true, List, [], ◌∷◌, ◌++◌, map, Option, Some, None, refl, sym, ap, ◌∙◌, subst, arith, get_or, length, length-append, slice_get, slice_set}
use Rattle.base_laws.proofs.Items.{push_cases, push_old, get_last}
use Rattle.std.specs.List.{All}
use Rattle.std.proofs.Math.Decide.{ℕ_discrete}
use Rattle.std.proofs.lemmas.Bool.{eqb-false, true_from_ne_false}
use Rattle.std.proofs.lemmas.List.{get_or_append_left, get_or_push, length-map}
use Rattle.std.proofs.lemmas.List.Elements.{All-nil, All-push}
use Rattle.std.proofs.lemmas.Option.{get_or_from_slice_get, slice_get-get_or, slice_get_within, none-some, same_Some}
use Rattle.geo_base.specs.declared.shapes.Rect.{Rect}
use Rattle.geo_base.specs.declared.shapes.Square.{Square}
use Rattle.rect_sets.specs.Rects.{covers}
use Rattle.flat_layout.specs.Layers.{Formula, Input, Empty, Binary, Sized, reach, inputs}
use Rattle.flat_layout.specs.Values.{IsLocalLayer}
use Rattle.sized_layers.specs.Sizes.{IsSetWithin}
use Rattle.cell_graph.specs.Grown.{IsInGrown}
use Rattle.geo_base.specs.Rects.{grown}
use Rattle.cell_graph.specs.Linked.{Linked, IsSound, HullIsSound, cell_at, hull_of, plain}
use Rattle.cell_graph.proofs.Bridge.{hull_sound}
use Rattle.deep_laws.specs.Layers.{IsDerived}
use Rattle.rule_text.specs.Reaches.{reaches}
use Rattle.rule_text.specs.Rules.{Rules}
use Rattle.rule_text.specs.Sound as rules
use Rattle.rule_text.specs.declared.rules.LayerForm.{LayerForm}
use Rattle.rule_text.specs.declared.rules.LayerForm.TheVariants as form
use Rattle.rule_text.specs.declared.rules.LayerRule.{LayerRule}
use Rattle.rule_layers.specs.Formulas.{formula_by, formulas, formulas_behind, zone_margin}
use Rattle.rule_layers.proofs.Reaching.{near, reach_in, reach_law}
use Rattle.deep_tables.specs.declared.zones.CellZones.{CellZones}
use Rattle.deep_tables.specs.Frames.{IsFramedOpen}
use Rattle.layer_phase.specs.Groups.{AreDone, AreGroups, AreGroupsTo, ArePlain, Finds, HasReach, IsGroup, IsMember, is_derived}
use Rattle.layer_phase.specs.declared.groups.Group.{Group}
use Rattle.layer_phase.specs.Keeps.{IsZoneAt}
use Rattle.layer_phase.specs.Names.{AreLocals, IsReady}
use Rattle.layer_phase.proofs.Around.{grown_within, set_within}
use Rattle.layer_phase.proofs.Deriving.{entry_frame}
use Rattle.layer_phase.proofs.Flattening.{behind_stays, count_behind}

pub derived_by : (trees : List Formula) (f : LayerForm) → is_derived f ≡ true → IsDerived (formula_by trees f)
derived_by trees (form.Input key) e = let z : ⊥ = cc in absurd z
derived_by trees (form.Labels key) e = let z : ⊥ = cc in absurd z
derived_by trees form.Empty e = let z : ⊥ = cc in absurd z
derived_by trees (form.Binary op a b) e = tt
derived_by trees (form.Sized a by) e = tt

pub by_derived : (trees : List Formula) (f : LayerForm) → IsDerived (formula_by trees f) → is_derived f ≡ true
by_derived trees (form.Input key) h = absurd h
by_derived trees (form.Labels key) h = absurd h
by_derived trees form.Empty h = absurd h
by_derived trees (form.Binary op a b) h = refl
by_derived trees (form.Sized a by) h = refl

plain_reach : (trees : List Formula) (f : LayerForm) → (is_derived f ≡ true → ⊥) → reach (formula_by trees f) ≡ 0
plain_reach trees (form.Input key) h = refl
plain_reach trees (form.Labels key) h = refl
plain_reach trees form.Empty h = refl
plain_reach trees (form.Binary op a b) h = absurd (h refl)
plain_reach trees (form.Sized a by) h = absurd (h refl)

-- each tree is that of its rule's form
behind_form : (before : List Formula) (names : List LayerRule) (k : ℕ) (rule : LayerRule) (x : Formula) → slice_get names k ≡ Some rule → slice_get (formulas_behind before names) (length before + k) ≡ Some x
    → (trees : List Formula) × (x ≡ formula_by trees rule.form)
behind_form before [] k rule x e at = absurd (none-some rule e)
behind_form before (n ∷ names) zero rule x e at =
    let tree = formula_by before n.form in
    let place : length before + 0 ≡ length before = omega arith in
    let there : slice_get (formulas_behind (before ++ tree ∷ []) names) (length before) ≡ Some tree = behind_stays (before ++ tree ∷ []) names (length before) tree (get_last before tree) in
    let same : x ≡ tree = same_Some x tree (sym (subst (λ i. slice_get (formulas_behind (before ++ tree ∷ []) names) i ≡ Some x) place at) ∙ there) in
    (before, same ∙ ap (λ (r : LayerRule). formula_by before r.form) (same_Some n rule e))
behind_form before (n ∷ names) (suc k) rule x e at =
    let tree = formula_by before n.form in
    let m = length-append before (tree ∷ []) in
    let place : length before + suc k ≡ length (before ++ tree ∷ []) + k = omega arith in
    behind_form (before ++ tree ∷ []) names k rule x e (subst (λ i. slice_get (formulas_behind (before ++ tree ∷ []) names) i ≡ Some x) place at)

pub form_of : (names : List LayerRule) (k : ℕ) (rule : LayerRule) (x : Formula) → slice_get names k ≡ Some rule → slice_get (formulas names) k ≡ Some x → (trees : List Formula) × (x ≡ formula_by trees rule.form)
form_of names k rule x e at = behind_form [] names k rule x e (let z : k ≡ 0 + k = omega arith in subst (λ i. slice_get (formulas names) i ≡ Some x) z at)

pub is_of : (names : List LayerRule) (k : ℕ) (rule : LayerRule) (x : Formula) → slice_get names k ≡ Some rule → slice_get (formulas names) k ≡ Some x → is_derived rule.form ≡ true → IsDerived x
is_of names k rule x e at h = let t = form_of names k rule x e at in subst IsDerived (sym t.1) (derived_by t.0 rule.form h)

pub of_is : (names : List LayerRule) (k : ℕ) (rule : LayerRule) (x : Formula) → slice_get names k ≡ Some rule → slice_get (formulas names) k ≡ Some x → IsDerived x → is_derived rule.form ≡ true
of_is names k rule x e at h = let t = form_of names k rule x e at in by_derived t.0 rule.form (subst IsDerived t.1 h)

-- as many trees as names
pub tree_count : (names : List LayerRule) → length (formulas names) ≡ length names
tree_count names = let c = count_behind [] names in omega (arith, c)

-- how far the tree of a name reaches
map_at : (xs : List Formula) (k far : ℕ) (x : Formula) → slice_get (map reach xs) k ≡ Some far → slice_get xs k ≡ Some x → far ≡ reach x
map_at [] k far x e at = absurd (none-some x at)
map_at (y ∷ xs) zero far x e at = same_Some far (reach y) (sym e) ∙ ap reach (same_Some y x at)
map_at (y ∷ xs) (suc k) far x e at = map_at xs k far x e at

pub reach_at : (names : List LayerRule) (found : List ℕ) (k far : ℕ) (x : Formula) → found ≡ reaches names → slice_get found k ≡ Some far → slice_get (formulas names) k ≡ Some x → far ≡ reach x
reach_at names found k far x e at there = map_at (formulas names) k far x (subst (λ (l : List ℕ). slice_get l k ≡ Some far) (e ∙ reach_law names) at) there

pub found_count : (names : List LayerRule) (found : List ℕ) → found ≡ reaches names → length found ≡ length names
found_count names found e = ap length (e ∙ reach_law names) ∙ length-map (formulas names) reach ∙ tree_count names

pub reach_here : (names : List LayerRule) (found : List ℕ) (k : ℕ) (x : Formula) → found ≡ reaches names → k < length names → slice_get (formulas names) k ≡ Some x → get_or found k 0 ≡ reach x
reach_here names found k x e lt at =
    let n = found_count names found e in
    reach_at names found k (get_or found k 0) x e (slice_get-get_or found k 0 (omega (arith, n, lt))) at

-- no name reaches further than names may
pub near_tree : (r : Rules) (k : ℕ) → rules.IsSound r → reach (get_or (formulas r.names) k Empty) ≤ 10000
near_tree r k sound = let a = reach_in r.names k in let b = near r sound in omega (arith, a, b)

-- a table's entry lies near
framed_within : (m : ℕ) (o : Option Rect) (zone : List Rect) → m ≤ 20001 → HullIsSound o → ((q : Square) → covers zone q ≡ true → IsInGrown m o q) → IsSetWithin (2 ^ 39) zone
framed_within m None zone most sound h = λ q e. absurd (h q e)
framed_within m (Some w) zone most sound h = set_within (2 ^ 39) (grown m w) zone (grown_within (2 ^ 36) m (2 ^ 39) w (omega (arith, most)) sound.near) h

pub zone_within : (d : Linked) (r : Rules) (z : List (Option CellZones)) (cell name : ℕ) (x : Formula) (zone : List Rect) → IsSound d → IsReady d r z cell → IsDerived x → slice_get (formulas r.names) name ≡ Some x → IsZoneAt z cell name zone → IsSetWithin (2 ^ 39) zone
zone_within d r z cell name x zone sound ready derived at entry =
    let frame : IsFramedOpen (zone_margin r.names) d (inputs x) cell zone = entry_frame d r z cell name x zone ready derived at entry in
    let far = near r ready.rules in
    framed_within (zone_margin r.names) (hull_of (cell_at d cell)) zone (omega (arith, far)) (hull_sound d cell sound) (λ q e. (frame.inside q e).0)

-- one layer put in its place
put_here : (xs : List (List Rect)) (k : ℕ) (v : List Rect) → k < length xs → get_or (slice_set xs k v) k [] ≡ v
put_here [] k v h = absurd (let z : ⊥ = omega arith in z)
put_here (x ∷ xs) zero v h = refl
put_here (x ∷ xs) (suc k) v h = put_here xs k v (omega arith)

put_other : (xs : List (List Rect)) (k : ℕ) (v : List Rect) (j : ℕ) → (j ≡ k → ⊥) → get_or (slice_set xs k v) j [] ≡ get_or xs j []
put_other [] k v j h = refl
put_other (x ∷ xs) zero v zero h = absurd (h refl)
put_other (x ∷ xs) zero v (suc j) h = refl
put_other (x ∷ xs) (suc k) v zero h = refl
put_other (x ∷ xs) (suc k) v (suc j) h = put_other xs k v j (λ e. h (ap suc e))

put_long : (xs : List (List Rect)) (k : ℕ) (v : List Rect) → length (slice_set xs k v) ≡ length xs
put_long [] k v = refl
put_long (x ∷ xs) zero v = refl
put_long (x ∷ xs) (suc k) v = ap suc (put_long xs k v)

pub set_here : (old new : List (List Rect)) (k : ℕ) (v : List Rect) → new ≡ slice_set old k v → k < length old → get_or new k [] ≡ v
set_here old new k v e lt = ap (λ (l : List (List Rect)). get_or l k []) e ∙ put_here old k v lt

pub set_other : (old new : List (List Rect)) (k : ℕ) (v : List Rect) → new ≡ slice_set old k v → (j : ℕ) → (j ≡ k → ⊥) → get_or new j [] ≡ get_or old j []
set_other old new k v e j h = ap (λ (l : List (List Rect)). get_or l j []) e ∙ put_other old k v j h

pub set_long : (old new : List (List Rect)) (k : ℕ) (v : List Rect) → new ≡ slice_set old k v → length new ≡ length old
set_long old new k v e = ap length e ∙ put_long old k v

-- one name more that isn't derived
pub plain_more : (d : Linked) (cell : ℕ) (trees : List Formula) (tree : Formula) (sets : List (List Rect)) (set : List Rect) → length sets ≡ length trees → ArePlain d cell trees sets
    → ((IsDerived tree → ⊥) → IsLocalLayer (plain d) tree cell set) → ArePlain d cell (trees ++ tree ∷ []) (sets ++ set ∷ [])
plain_more d cell trees tree sets set count had here k x at not = elim (push_cases trees tree x k at) [
  | inl old ↦
      let lt = slice_get_within trees k x old in
      subst (IsLocalLayer (plain d) x cell) (sym (get_or_append_left sets (set ∷ []) [] k (omega (arith, count, lt)))) (had k x old not)
  | inr new ↦
      subst (IsLocalLayer (plain d) x cell) (sym (get_or_push sets set [] k (count ∙ sym new.0)))
      (subst (λ (y : Formula). IsLocalLayer (plain d) y cell set) new.1 (here (λ h. not (subst IsDerived new.1 h))))
]

-- ---- one name on

none_found : (far : ℕ) (d : Linked) (cell : ℕ) (trees : List Formula) (sets : List (List Rect)) → Finds far d cell 0 trees sets sets
none_found far d cell trees sets = record { count = refl; found = λ k x lt at is far_is. absurd (let z : ⊥ = omega (arith, lt) in z); other = λ k x at not. refl; behind = λ k le. refl }

pub start : (far : ℕ) (d : Linked) (cell : ℕ) (trees : List Formula) (sets : List (List Rect)) → Finds far d cell 0 trees sets sets
start far d cell trees sets = none_found far d cell trees sets

pub finds_more : (far : ℕ) (d : Linked) (cell name : ℕ) (names : List LayerRule) (old mid new : List (List Rect)) → Finds far d cell name (formulas names) old mid → length new ≡ length mid
    → ((x : Formula) → IsDerived x → reach x ≡ far → slice_get (formulas names) name ≡ Some x → IsLocalLayer (plain d) x cell (get_or new name []))
    → ((IsMember names far name → ⊥) → new ≡ mid) → ((k : ℕ) → (k ≡ name → ⊥) → get_or new k [] ≡ get_or mid k []) → Finds far d cell (name + 1) (formulas names) old new
finds_more far d cell name names old mid new had count here none rest = record {
  count = count ∙ had.count;
  found = λ k x lt at derived far_is. elim (ℕ_discrete k name) [
    | yes e ↦
        let there : slice_get (formulas names) name ≡ Some x = subst (λ n. slice_get (formulas names) n ≡ Some x) e at in
        subst (λ n. IsLocalLayer (plain d) x cell (get_or new n [])) (sym e) (here x derived far_is there)
    | no n ↦ subst (IsLocalLayer (plain d) x cell) (sym (rest k n)) (had.found k x (omega (arith, lt, n)) at derived far_is)
  ];
  other = λ k x at not. elim (ℕ_discrete k name) [
    | yes e ↦
        let there : slice_get (formulas names) name ≡ Some x = subst (λ n. slice_get (formulas names) n ≡ Some x) e at in
        ap (λ (l : List (List Rect)). get_or l k []) (none (λ m.
        let one : m.tree ≡ x = same_Some m.tree x (sym m.at ∙ there) in
        not (subst IsDerived one m.derived) (ap reach (sym one) ∙ m.far_is))) ∙ had.other k x at not
    | no n ↦ rest k n ∙ had.other k x at not
  ];
  behind = λ k le. rest k (λ e. let z : ⊥ = omega (arith, le, e) in z) ∙ had.behind k (omega (arith, le));
}

-- ---- one group on

pub same_any : (far : ℕ) → (far == far) ≡ true
same_any far = true_from_ne_false (far == far) (λ e. eqb-false far far e refl)

-- how far a group reaches
pub group_near : (r : Rules) (g : Group) → rules.IsSound r → IsGroup r.names g → g.reach ≤ 10000
group_near r g sound group =
    let m = group.some.1 in
    let tree : get_or (formulas r.names) group.some.0 Empty ≡ m.tree = get_or_from_slice_get (formulas r.names) group.some.0 m.tree Empty m.at in
    subst (λ n. n ≤ 10000) (ap reach tree ∙ m.far_is) (near_tree r group.some.0 sound)

pub member_of : (names : List LayerRule) (found : List ℕ) (k : ℕ) (rule : LayerRule) → found ≡ reaches names → k < length names → slice_get names k ≡ Some rule → is_derived rule.form ≡ true → IsMember names (get_or found k 0) k
member_of names found k rule e lt there derived =
    let trees = tree_count names in
    let x = get_or (formulas names) k Empty in
    let at : slice_get (formulas names) k ≡ Some x = slice_get-get_or (formulas names) k Empty (omega (arith, trees, lt)) in
    record { tree = x; at = at; derived = is_of names k rule x there at derived; far_is = sym (reach_here names found k x e lt at) }

pub groups_none : (names : List LayerRule) → AreGroupsTo names 0 []
groups_none names = record {
  each = All-nil (IsGroup names);
  found = λ k x lt at derived. absurd (let z : ⊥ = omega (arith, lt) in z);
}

pub reach_wider : (groups more : List Group) (g : Group) (far : ℕ) → more ≡ groups ++ g ∷ [] → HasReach groups (length groups) far → HasReach more (length more) far
reach_wider groups more g far e h =
    let long = length-append groups (g ∷ []) in
    let lt = h.at_in in
    subst (λ (l : List Group). HasReach l (length l) far) (sym e) (record { at = h.at; group = h.group; at_in = omega (arith, long, lt); there = push_old groups g h.group h.at h.there; far_is = h.far_is })

pub reach_new : (groups more : List Group) (g : Group) → more ≡ groups ++ g ∷ [] → HasReach more (length more) g.reach
reach_new groups more g e =
    let long = length-append groups (g ∷ []) in
    subst (λ (l : List Group). HasReach l (length l) g.reach) (sym e) (record { at = length groups; group = g; at_in = omega (arith, long); there = get_last groups g; far_is = refl })

-- a name that isn't derived, or whose group is there
pub groups_skip : (names : List LayerRule) (name : ℕ) (groups : List Group) → AreGroupsTo names name groups → ((x : Formula) → slice_get (formulas names) name ≡ Some x → IsDerived x → HasReach groups (length groups) (reach x)) → AreGroupsTo names (name + 1) groups
groups_skip names name groups had here = record {
  each = had.each;
  found = λ k x lt at derived. elim (ℕ_discrete k name) [
    | yes e ↦ here x (subst (λ n. slice_get (formulas names) n ≡ Some x) e at) derived
    | no n ↦ had.found k x (omega (arith, lt, n)) at derived
  ];
}

-- a group more
pub groups_more : (names : List LayerRule) (name : ℕ) (groups more : List Group) (g : Group) → more ≡ groups ++ g ∷ [] → IsGroup names g → AreGroupsTo names name groups → ((x : Formula) → slice_get (formulas names) name ≡ Some x → IsDerived x → g.reach ≡ reach x) → AreGroupsTo names (name + 1) more
groups_more names name groups more g e is had here = record {
  each = subst (All (IsGroup names)) (sym e) (All-push (IsGroup names) groups g had.each is);
  found = λ k x lt at derived. elim (ℕ_discrete k name) [
    | yes same ↦ subst (HasReach more (length more)) (here x (subst (λ n. slice_get (formulas names) n ≡ Some x) same at) derived) (reach_new groups more g e)
    | no n ↦ reach_wider groups more g (reach x) e (had.found k x (omega (arith, lt, n)) at derived)
  ];
}

pub done_none : (d : Linked) (cell : ℕ) (trees : List Formula) (groups : List Group) (sets : List (List Rect)) → length sets ≡ length trees → ArePlain d cell trees sets → AreDone d cell trees groups 0 sets
done_none d cell trees groups sets count plain_sets = record {
  count = count;
  rest = plain_sets;
  found = λ k x at derived has. absurd (let lt = has.at_in in let z : ⊥ = omega (arith, lt) in z);
}

-- the names of one group more
pub done_more : (d : Linked) (cell : ℕ) (trees : List Formula) (groups : List Group) (i : ℕ) (g : Group) (old new : List (List Rect)) → slice_get groups i ≡ Some g → Finds g.reach d cell (length trees) trees old new → AreDone d cell trees groups i old → AreDone d cell trees groups (i + 1) new
done_more d cell trees groups i g old new there finds had = record {
  count = finds.count ∙ had.count;
  rest = λ k x at not. subst (IsLocalLayer (plain d) x cell) (sym (finds.other k x at (λ derived e. not derived))) (had.rest k x at not);
  found = λ k x at derived has. elim (ℕ_discrete (reach x) g.reach) [
    | yes e ↦ finds.found k x (slice_get_within trees k x at) at derived e
    | no n ↦
        let lt = has.at_in in
        let before : HasReach groups i (reach x) = elim (ℕ_discrete has.at i) [
          | yes e ↦
              let one : has.group ≡ g = same_Some has.group g (sym has.there ∙ subst (λ j. slice_get groups j ≡ Some g) (sym e) there) in
              absurd (n (sym has.far_is ∙ ap (λ (h : Group). h.reach) one))
          | no other ↦ record { at = has.at; group = has.group; at_in = omega (arith, lt, other); there = has.there; far_is = has.far_is }
        ] in
        subst (IsLocalLayer (plain d) x cell) (sym (finds.other k x at (λ h e. n e))) (had.found k x at derived before)
  ];
}

is_derived_or_not : (x : Formula) → IsDerived x ⊎ (IsDerived x → ⊥)
is_derived_or_not (Input key) = inr (λ h. h)
is_derived_or_not Empty = inr (λ h. h)
is_derived_or_not (Binary op a b) = inl tt
is_derived_or_not (Sized by a) = inl tt

-- where all groups are done, all names have their squares
pub all_done : (d : Linked) (cell bound : ℕ) (names : List LayerRule) (groups : List Group) (sets : List (List Rect)) → bound ≡ length groups → AreGroups names groups → AreDone d cell (formulas names) groups bound sets → AreLocals d cell (formulas names) sets
all_done d cell bound names groups sets end are had k x set at there =
    let item : get_or sets k [] ≡ set = get_or_from_slice_get sets k set [] there in
    let lt = slice_get_within (formulas names) k x at in
    let trees = tree_count names in
    subst (IsLocalLayer (plain d) x cell) item (elim (is_derived_or_not x) [
      | inl derived ↦ had.found k x at derived (subst (λ n. HasReach groups n (reach x)) (sym end) (are.found k x (omega (arith, lt, trees)) at derived))
      | inr not ↦ had.rest k x at not
    ])
