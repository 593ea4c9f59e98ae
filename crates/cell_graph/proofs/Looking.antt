-- Names looked up, references resolved one by one.
use Rattle.std.proofs.Common.{◌≡◌, ◌⊎◌, inl, inr, ℕ, zero, suc, ◌+◌, ◌<◌, ◌≤◌, List, [], ◌∷◌, ◌++◌, Some, None, Result, Ok, Err, IfOk, Bool, false, not, cond, length, length-append, slice_get, refl, sym, ◌∙◌, ap, subst, arith}
use Rattle.std.proofs.lemmas.Bool.{cases_Bool}
use Rattle.std.specs.List.{position_or_len}
use Rattle.std.specs.Str.{bytes_eq}
use Rattle.std.proofs.lemmas.Slice.Eq.{bytes_eq-Decides}
use Rattle.std.proofs.lemmas.Option.{slice_get_within}
use Rattle.cell_graph.specs.declared.cells.Place.{Place}
use Rattle.cell_graph.specs.declared.drafts.DraftRef.{DraftRef}
use Rattle.cell_graph.specs.declared.drafts.CellDraft.{CellDraft}
use Rattle.cell_graph.specs.Parts.{Part, AreResolved}
use Rattle.cell_graph.specs.Drafts.{names_of, IsNamed, IsMissing, IsLoose, IsFirstLoose, HasFew, HasNoLoose, IsResolved, AreAllResolved, AreParts}
use Rattle.cell_graph.specs.Naming.{place_of, AreResolvedTo, ArePartsTo}
use Rattle.cell_graph.proofs.Resolving.{at_too}

abbrev pub place : List ℕ → List CellDraft → ℕ
place name cells = position_or_len (bytes_eq name) (names_of cells)

abbrev first_place : Bool → ℕ → ℕ
first_place b n = cond (not b) (1 + n) 0

pub place_named : (cells : List CellDraft) (name : List ℕ) → place name cells < length cells → IsNamed cells name (place name cells)
place_named [] name lt = absurd (let z : ⊥ = omega arith in z)
place_named (c ∷ cells) name lt = elim (cases_Bool (bytes_eq name c.name)) [
  | inl e ↦ subst (λ b. IsNamed (c ∷ cells) name (first_place b (place name cells))) (sym e) (record { cell = c; there = refl; named = sym ((bytes_eq-Decides name c.name).0 e) })
  | inr e ↦
      let more : first_place false (place name cells) < suc (length cells) = subst (λ b. first_place b (place name cells) < suc (length cells)) e lt in
      let h = place_named cells name (let f : place name cells < length cells = omega arith in f) in
      let on : IsNamed (c ∷ cells) name (suc (place name cells)) = record { cell = h.cell; there = h.there; named = h.named } in
      let at : IsNamed (c ∷ cells) name (first_place false (place name cells)) = subst (IsNamed (c ∷ cells) name) (let f : suc (place name cells) ≡ 1 + place name cells = omega arith in f) on in
      subst (λ b. IsNamed (c ∷ cells) name (first_place b (place name cells))) (sym e) at
]

pub named_place : (cells : List CellDraft) (name : List ℕ) (i : ℕ) → IsNamed cells name i → place name cells < length cells
named_place [] name i h = let f : None ≡ Some h.cell = h.there in absurd (let z : ⊥ = cc in z)
named_place (c ∷ cells) name zero h =
    let same : c ≡ h.cell = (let f : Some c ≡ Some h.cell = h.there in cc) in
    let named : name ≡ c.name = sym h.named ∙ ap (λ (x : CellDraft). x.name) (sym same) in
    subst (λ b. first_place b (place name cells) < suc (length cells)) (sym ((bytes_eq-Decides name c.name).1 named)) (omega arith)
named_place (c ∷ cells) name (suc k) h =
    let r = named_place cells name k (record { cell = h.cell; there = h.there; named = h.named }) in
    elim (cases_Bool (bytes_eq name c.name)) [
      | inl e ↦ subst (λ b. first_place b (place name cells) < suc (length cells)) (sym e) (omega arith)
      | inr e ↦ subst (λ b. first_place b (place name cells) < suc (length cells)) (sym e) (let f : 1 + place name cells < suc (length cells) = omega arith in f)
    ]

pub name_ok : {E : Type 0} (cells : List CellDraft) (cell : ℕ) (part : CellDraft) (r : Result (List ℕ) E) → slice_get cells cell ≡ Some part → IfOk r (λ n. n ≡ part.name) → IfOk r (λ n. IsNamed cells n cell)
name_ok cells cell part (Ok n) there e = record { cell = part; there = there; named = sym e }
name_ok cells cell part (Err x) there e = tt

pub last_split : {A : Type 0} (xs : List A) (x y : A) (k : ℕ) → slice_get (xs ++ x ∷ []) k ≡ Some y → (slice_get xs k ≡ Some y) ⊎ ((k ≡ length xs) × (y ≡ x))
last_split [] x y zero e = inr (refl, (let f : Some x ≡ Some y = e in let g : y ≡ x = cc in g))
last_split [] x y (suc k) e = let f : None ≡ Some y = e in absurd (let z : ⊥ = cc in z)
last_split (a ∷ xs) x y zero e = inl e
last_split (a ∷ xs) x y (suc k) e = elim (last_split xs x y k e) [ inl f ↦ inl f | inr f ↦ inr (ap suc f.0, f.1) ]

pub one_more_place : (cells : List CellDraft) (refs : List DraftRef) (n : ℕ) (places : List Place) (r : DraftRef) (p : Place) → slice_get refs n ≡ Some r
    → IsResolved cells r p → AreResolvedTo cells refs n places → AreResolvedTo cells refs (n + 1) (places ++ p ∷ [])
one_more_place cells refs n places r p there is h = record {
  count = length-append places (p ∷ []) ∙ ap (λ k. k + 1) h.count;
  each = λ k s q at_s at_q. elim (last_split places p q k at_q) [
    | inl old ↦ h.each k s q at_s old
    | inr (e, same) ↦
        let f : slice_get refs n ≡ Some s = subst (λ i. slice_get refs i ≡ Some s) (e ∙ h.count) at_s in
        let g : r ≡ s = (let z : Some r ≡ Some s = sym there ∙ f in cc) in
        subst (λ q. IsResolved cells s q) (sym same) (subst (λ s. IsResolved cells s p) g is)
  ];
}

pub no_place_yet : (cells : List CellDraft) (refs : List DraftRef) → AreResolvedTo cells refs 0 []
no_place_yet cells refs = record { count = refl; each = λ k r p a b. (let f : None ≡ Some p = b in absurd (let z : ⊥ = cc in z)) }

pub resolved_by : (cells : List CellDraft) (r : DraftRef) (cell : ℕ) → IsNamed cells r.cell cell → IsResolved cells r (place_of r cell)
resolved_by cells r cell named = record { names = named; motion = refl; columns = refl; rows = refl; column_step = refl; row_step = refl }

-- a cell's reference that is resolved isn't loose
pub not_loose : (cells : List CellDraft) (i k : ℕ) (c : CellDraft) (n : ℕ) (places : List Place) → slice_get cells i ≡ Some c → AreResolvedTo cells c.refs.items n places → k < n → IsLoose cells i k → ⊥
not_loose cells i k c n places there h lt (r, has, missing) =
    let same : has.cell ≡ c = (let f : Some has.cell ≡ Some c = sym has.there ∙ there in cc) in
    let ref : slice_get c.refs.items k ≡ Some r = subst (λ (c : CellDraft). slice_get c.refs.items k ≡ Some r) same has.ref in
    let p = some_at places k (subst (λ n. k < n) (sym h.count) lt) in
    missing p.0.cell (h.each k r p.0 ref p.1).names
  where
    some_at : (xs : List Place) (k : ℕ) → k < length xs → (x : Place) × (slice_get xs k ≡ Some x)
    some_at [] k lt = absurd (let z : ⊥ = omega arith in z)
    some_at (x ∷ xs) zero lt = (x, refl)
    some_at (x ∷ xs) (suc k) lt = some_at xs k (let f : k < length xs = omega arith in f)

pub is_first_loose : (cells : List CellDraft) (i n : ℕ) (c : CellDraft) (r : DraftRef) (places : List Place) (name : List ℕ) → slice_get cells i ≡ Some c → slice_get c.refs.items n ≡ Some r
    → name ≡ r.cell → length cells ≤ place r.cell cells → AreResolvedTo cells c.refs.items n places → ((j k : ℕ) → j < i → IsLoose cells j k → ⊥) → IsFirstLoose cells name
is_first_loose cells i n c r places name there at is none h before =
    let missing : IsMissing cells r.cell = λ j named. (let lt = named_place cells r.cell j named in absurd (let z : ⊥ = omega arith in z)) in
    record {
      cell = i;
      number = n;
      ref = r;
      has = record { cell = c; there = there; ref = at };
      names = sym is;
      missing = subst (IsMissing cells) (sym is) missing;
      cells_before = before;
      refs_before = λ k lt. not_loose cells i k c n places there h lt;
    }

pub all_places : (cells : List CellDraft) (i : ℕ) (refs : List DraftRef) (n : ℕ) (places : List Place) → length refs ≤ n → n ≤ length refs → AreResolvedTo cells refs n places → AreAllResolved cells refs places
all_places cells i refs n places le ge h = record { count = h.count ∙ (let f : n ≡ length refs = omega arith in f); each = h.each }

pub no_part_yet : (cells : List CellDraft) → ArePartsTo cells 0 []
no_part_yet cells = record { count = refl; each = λ i c p a b. (let f : None ≡ Some p = b in absurd (let z : ⊥ = cc in z)) }

pub one_more_part : (cells : List CellDraft) (n : ℕ) (parts : List Part) (p : Part) → ((c : CellDraft) → slice_get cells n ≡ Some c → AreAllResolved cells c.refs.items p.items)
    → ArePartsTo cells n parts → ArePartsTo cells (n + 1) (parts ++ p ∷ [])
one_more_part cells n parts p is h = record {
  count = length-append parts (p ∷ []) ∙ ap (λ k. k + 1) h.count;
  each = λ i c q at_c at_q. elim (last_split parts p q i at_q) [
    | inl old ↦ h.each i c q at_c old
    | inr (e, same) ↦
        let f : slice_get cells n ≡ Some c = subst (λ k. slice_get cells k ≡ Some c) (e ∙ h.count) at_c in
        subst (λ (q : Part). AreAllResolved cells c.refs.items q.items) (sym same) (is c f)
  ];
}

-- the first parts' references aren't loose
pub none_loose : (cells : List CellDraft) (n : ℕ) (parts : List Part) → ArePartsTo cells n parts → (i k : ℕ) → i < n → IsLoose cells i k → ⊥
none_loose cells n parts h i k lt (r, has, missing) =
    let p = some_at parts i (subst (λ n. i < n) (sym h.count) lt) in
    let all = h.each i has.cell p.0 has.there p.1 in
    let q = at_too has.cell.refs.items p.0.items k r (sym all.count) has.ref in
    missing q.0.cell (all.each k r q.0 has.ref q.1).names
  where
    some_at : (xs : List Part) (k : ℕ) → k < length xs → (x : Part) × (slice_get xs k ≡ Some x)
    some_at [] k lt = absurd (let z : ⊥ = omega arith in z)
    some_at (x ∷ xs) zero lt = (x, refl)
    some_at (x ∷ xs) (suc k) lt = some_at xs k (let f : k < length xs = omega arith in f)

pub all_parts : (cells : List CellDraft) (n : ℕ) (parts : List Part) → length cells ≤ n → n ≤ length cells → ArePartsTo cells n parts → AreParts cells parts
all_parts cells n parts le ge h = record { count = h.count ∙ (let f : n ≡ length cells = omega arith in f); each = h.each }

-- what the parts tell of the drafts
pub parts_no_loose : (cells : List CellDraft) (parts : List Part) → AreParts cells parts → HasNoLoose cells
parts_no_loose cells parts h i k loose = none_loose cells (length cells) parts (record { count = h.count; each = h.each }) i k (slice_get_within cells i loose.1.cell loose.1.there) loose

pub parts_resolved : (cells : List CellDraft) (parts : List Part) → HasFew cells → AreParts cells parts → AreResolved parts
parts_resolved cells parts few h = record {
  inside = λ i p there k q at.
      let c = at_too parts cells i p h.count there in
      let all = h.each i c.0 p c.1 there in
      let r = at_too p.items c.0.refs.items k q all.count at in
      let named = (all.each k r.0 q r.1 at).names in
      subst (λ n. q.cell < n) (sym h.count) (slice_get_within cells q.cell named.cell named.there);
  few = let e = h.count in omega arith;
}

pub at_place : (cells : List CellDraft) (name word : List ℕ) (names : List (List ℕ)) (p : ℕ) → p ≡ position_or_len (bytes_eq word) names → word ≡ name → names ≡ names_of cells → p ≡ place name cells
at_place cells name word names p e f g = e ∙ ap (λ w. position_or_len (bytes_eq w) names) f ∙ ap (λ ns. position_or_len (bytes_eq name) ns) g

pub names_count : (cells : List CellDraft) (names : List (List ℕ)) → names ≡ names_of cells → length names ≡ length cells
names_count cells names e = ap length e ∙ counted cells
  where
    counted : (cells : List CellDraft) → length (names_of cells) ≡ length cells
    counted [] = refl
    counted (c ∷ cells) = ap suc (counted cells)
