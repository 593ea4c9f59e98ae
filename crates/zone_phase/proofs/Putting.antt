-- References put behind others.
use Rattle.std.proofs.Common.{◌≡◌, ◌⊎◌, inl, inr, ℕ, ◌<◌, ◌≤◌, ◌+◌, ◌-◌, List, [], ◌∷◌, ◌++◌, Some, refl, sym, ◌∙◌, ap, subst, arith, length, get_or, slice_get, slice_index}
use Rattle.base_laws.proofs.Items.{push_cases, push_old, get_last}
use Rattle.std.specs.Global.{Vec}
use Rattle.std.proofs.lemmas.List.{length-map, get_or-map}
use Rattle.std.proofs.Math.Decide.{ℕ_discrete}
use Rattle.std.proofs.lemmas.Option.{slice_get_within, none-some}
use Rattle.cell_graph.specs.declared.cells.Place.{Place}
use Rattle.cell_graph.specs.Linked.{Linked, IsSound, cell_at, places_at}
use Rattle.cell_context.proofs.Collecting.{one_place}
use Rattle.deep_tables.specs.Entries.{downward_cell}
use Rattle.zone_phase.specs.declared.uses.Use.{Use}
use Rattle.zone_phase.specs.Uses.{lists_of, uses_of, IsUse, HasUse, AreRising, AreUses, IsBefore, AreUsesTo, IsPut}

rising_push : (xs : List Use) (u : Use) → AreRising xs → ((k : ℕ) (v : Use) → slice_get xs k ≡ Some v → v.job ≤ u.job) → AreRising (xs ++ u ∷ [])
rising_push xs u h below j k a b lt ea eb = elim (push_cases xs u b k eb) [
  | inl fb ↦ elim (push_cases xs u a j ea) [
    | inl fa ↦ h j k a b lt fa fb
    | inr fa ↦ let w = slice_get_within xs k b fb in let n = fa.0 in absurd (let z : ⊥ = omega arith in z)
  ]
  | inr fb ↦ elim (push_cases xs u a j ea) [
    | inl fa ↦ subst (λ (v : Use). a.job ≤ v.job) fb.1 (below j a fa)
    | inr fa ↦ let m = fb.0 in let n = fa.0 in absurd (let z : ⊥ = omega arith in z)
  ]
]

keeps : (uses : List Use) (u : Use) (j i : ℕ) → HasUse uses j i → HasUse (uses ++ u ∷ []) j i
keeps uses u j i h = record { at = h.at; found = h.found; there = push_old uses u h.found h.at h.there; job = h.job; index = h.index }

split_before : (j i job index : ℕ) → IsBefore j i job (index + 1) → IsBefore j i job index ⊎ ((j ≡ job) × (i ≡ index))
split_before j i job index (inl lt) = inl (inl lt)
split_before j i job index (inr (same, lt)) = elim (ℕ_discrete i index) [ yes e ↦ inr (same, e) | no n ↦ inl (inr (same, omega arith)) ]

later : (j i job index : ℕ) → IsBefore j i job index → IsBefore j i job (index + 1)
later j i job index (inl lt) = inl lt
later j i job index (inr (same, lt)) = inr (same, omega arith)

module _ (d : Linked) (old new : List (List Use)) (job index : ℕ) (p : Place) (u : Use) (in_order : job < length d.order)
    (there : slice_get (places_at (cell_at d (downward_cell d job))) index ≡ Some p) (is_job : u.job ≡ job) (is_index : u.index ≡ index)
    (put : IsPut old new p.cell u) (h : AreUsesTo d old job index) where
  is_use : IsUse d p.cell u
  is_use = record {
    job_in = subst (λ j. j < length d.order) (sym is_job) in_order;
    place = p;
    there = subst (λ j. slice_get (places_at (cell_at d (downward_cell d j))) u.index ≡ Some p) (sym is_job) (subst (λ i. slice_get (places_at (cell_at d (downward_cell d job))) i ≡ Some p) (sym is_index) there);
    here = refl;
  }

  abbrev Each : ℕ → List Use → Type 0
  Each cell uses = (k : ℕ) (v : Use) → slice_get uses k ≡ Some v → IsUse d cell v × IsBefore v.job v.index job (index + 1)

  each_old : (cell : ℕ) → Each cell (uses_of old cell)
  each_old cell k v e = let g = h.each cell k v e in (g.0, later v.job v.index job index g.1)

  each_here : Each p.cell (uses_of old p.cell ++ u ∷ [])
  each_here k v e = elim (push_cases (uses_of old p.cell) u v k e) [
    | inl f ↦ each_old p.cell k v f
    | inr f ↦ subst (λ (w : Use). IsUse d p.cell w × IsBefore w.job w.index job (index + 1)) f.1 (is_use, inr (is_job, omega (arith, is_index)))
  ]

  each_at : (cell : ℕ) → Each cell (uses_of new cell)
  each_at cell = elim (ℕ_discrete cell p.cell) [
    | yes e ↦ subst (λ c. Each c (uses_of new c)) (sym e) (subst (Each p.cell) (sym put.here) each_here)
    | no n ↦ subst (Each cell) (sym (put.others cell n)) (each_old cell)
  ]

  stays : (cell j i : ℕ) → HasUse (uses_of old cell) j i → HasUse (uses_of new cell) j i
  stays cell j i g = elim (ℕ_discrete cell p.cell) [
    | yes e ↦ subst (λ c. HasUse (uses_of new c) j i) (sym e) (subst (λ l. HasUse l j i) (sym put.here) (keeps (uses_of old p.cell) u j i (subst (λ c. HasUse (uses_of old c) j i) e g)))
    | no n ↦ subst (λ l. HasUse l j i) (sym (put.others cell n)) g
  ]

  has_new : HasUse (uses_of new p.cell) job index
  has_new = subst (λ l. HasUse l job index) (sym put.here) (record { at = length (uses_of old p.cell); found = u; there = get_last (uses_of old p.cell) u; job = is_job; index = is_index })

  all_at : (j i : ℕ) (q : Place) → IsBefore j i job (index + 1) → slice_get (places_at (cell_at d (downward_cell d j))) i ≡ Some q → HasUse (uses_of new q.cell) j i
  all_at j i q before e = elim (split_before j i job index before) [
    | inl b ↦ stays q.cell j i (h.all j i q b e)
    | inr same ↦
        let f : slice_get (places_at (cell_at d (downward_cell d job))) index ≡ Some q = subst (λ n. slice_get (places_at (cell_at d (downward_cell d job))) n ≡ Some q) same.1 (subst (λ n. slice_get (places_at (cell_at d (downward_cell d n))) i ≡ Some q) same.0 e) in
        let s : p ≡ q = one_place (slice_get (places_at (cell_at d (downward_cell d job))) index) p q there f in
        subst (λ n. HasUse (uses_of new q.cell) j n) (sym same.1) (subst (λ n. HasUse (uses_of new q.cell) n index) (sym same.0) (subst (λ (r : Place). HasUse (uses_of new r.cell) job index) s has_new))
  ]

  below_new : (cell k : ℕ) (v : Use) → slice_get (uses_of old cell) k ≡ Some v → v.job ≤ u.job
  below_new cell k v e = elim ((h.each cell k v e).1) [ inl lt ↦ omega (arith, is_job) | inr same ↦ let s = same.0 in omega (arith, is_job) ]

  rising_at : (cell : ℕ) → AreRising (uses_of new cell)
  rising_at cell = elim (ℕ_discrete cell p.cell) [
    | yes e ↦ subst (λ c. AreRising (uses_of new c)) (sym e) (subst AreRising (sym put.here) (rising_push (uses_of old p.cell) u (h.rising p.cell) (below_new p.cell)))
    | no n ↦ subst AreRising (sym (put.others cell n)) (h.rising cell)
  ]

  pub put_next : AreUsesTo d new job (index + 1)
  put_next = record { count = put.count ∙ h.count; each = each_at; all = all_at; rising = rising_at }

-- all references of the job's cell were put
pub next_job : (d : Linked) (lists : List (List Use)) (job n : ℕ) → n ≡ length (places_at (cell_at d (downward_cell d job))) → AreUsesTo d lists job n → AreUsesTo d lists (job + 1) 0
next_job d lists job n count h = record {
  count = h.count;
  each = λ cell k u e. let g = h.each cell k u e in (g.0, inl (elim g.1 [ inl lt ↦ omega arith | inr s ↦ let t = s.0 in omega arith ]));
  all = λ j i p before there. h.all j i p (elim before [
    | inl lt ↦ elim (ℕ_discrete j job) [
      | yes e ↦ let w = slice_get_within (places_at (cell_at d (downward_cell d j))) i p there in let m = ap (λ x. length (places_at (cell_at d (downward_cell d x)))) e in inr (e, omega arith)
      | no not ↦ inl (omega arith)
    ]
    | inr s ↦ let z : ⊥ = (let lt = s.1 in omega arith) in absurd z
  ]) there;
  rising = h.rising;
}

-- none was put
pub none_put : (d : Linked) (lists : List (List Use)) → length lists ≡ length d.cells → ((cell : ℕ) → uses_of lists cell ≡ []) → AreUsesTo d lists 0 0
none_put d lists count none = record {
  count = count;
  each = λ cell k u e. let f : slice_get (uses_of lists cell) k ≡ slice_get [] k = ap (λ l. slice_get l k) (none cell) in absurd (none-some u (sym f ∙ e));
  all = λ j i p before there. elim before [ inl lt ↦ absurd (let z : ⊥ = omega arith in z) | inr s ↦ let lt = s.1 in absurd (let z : ⊥ = omega arith in z) ];
  rising = λ cell j k u v lt a b. let f : slice_get (uses_of lists cell) j ≡ slice_get [] j = ap (λ l. slice_get l j) (none cell) in absurd (none-some u (sym f ∙ a));
}

-- those of all jobs
pub all_put : (d : Linked) (lists : List (List Use)) (n : ℕ) → n ≡ length d.order → AreUsesTo d lists n 0 → AreUses d lists
all_put d lists n count h = record {
  count = h.count;
  each = λ cell k u e. (h.each cell k u e).0;
  all = λ j i p lt there. h.all j i p (inl (omega (arith, count))) there;
  rising = h.rising;
}

-- the list of a cell
pub list_at : (vs : List (Vec Use)) (cell : ℕ) (v : Vec Use) → cell < length (lists_of vs) → v ≡ get_or vs cell v → v.items ≡ uses_of (lists_of vs) cell
list_at vs cell v lt at =
    let m : length (lists_of vs) ≡ length vs = length-map vs (λ (x : Vec Use). x.items) in
    sym (get_or-map (λ (x : Vec Use). x.items) vs cell v [] (omega arith) ∙ ap (λ (x : Vec Use). x.items) (sym at))

pub cell_in : (d : Linked) (job : ℕ) → IsSound d → job < length d.order → downward_cell d job < length d.cells
cell_in d job sound lt = sound.order.inside (length d.order - 1 - job) (omega arith)

-- the list of the cell of a job
pub listed : (d : Linked) (vs : List (Vec Use)) (order : List ℕ) (job : ℕ) (v : Vec Use) (xs : List Use) → IsSound d → length (lists_of vs) ≡ length d.cells → order ≡ d.order → job < length order
    → v ≡ get_or vs (slice_index order (length order - 1 - job)) v → xs ≡ v.items → xs ≡ uses_of (lists_of vs) (downward_cell d job)
listed d vs order job v xs sound count same lt at is =
    let cell = ap (λ (o : List ℕ). slice_index o (length o - 1 - job)) same in
    let inside = cell_in d job sound (subst (λ (o : List ℕ). job < length o) same lt) in
    is ∙ list_at vs (slice_index order (length order - 1 - job)) v (omega (arith, inside, count, cell)) at ∙ ap (uses_of (lists_of vs)) cell
