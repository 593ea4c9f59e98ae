-- Names without a repeat.
use Rattle.std.proofs.Common.{◌≡◌, inl, inr, ℕ, zero, suc, ◌+◌, ◌<◌, ◌≤◌, List, [], ◌∷◌, ◌++◌, Some, None, take, length, slice_get, refl, sym, ◌∙◌, ap, subst, arith, true, false, ◌||◌}
use Rattle.std.proofs.lemmas.Bool.{cases_Bool, or_right}
use Rattle.std.proofs.Math.Decide.{ℕ_discrete}
use Rattle.std.specs.List.{list_any}
use Rattle.std.specs.Str.{bytes_eq}
use Rattle.std.proofs.lemmas.List.{take_all}
use Rattle.std.proofs.lemmas.Slice.Eq.{bytes_eq-Decides}
use Rattle.std.proofs.lemmas.Option.{slice_get_within}
use Rattle.cell_graph.specs.declared.drafts.CellDraft.{CellDraft}
use Rattle.cell_graph.specs.Drafts.{names_of, IsNamed, IsRepeat, HasNoRepeat, IsFirstNamed}

pub record NamesSoFar (cells : List CellDraft) (n : ℕ) (names : List (List ℕ)) : Type 0 where
  pub are : names ≡ names_of (take n cells)
  pub once : (i : ℕ) → i < n → IsRepeat cells i → ⊥

-- a name that is among the first n names one of the first n cells, and back
pub found_named : (cells : List CellDraft) (n : ℕ) (name : List ℕ) → list_any (bytes_eq name) (names_of (take n cells)) ≡ true → (i : ℕ) × (i < n) × IsNamed cells name i
found_named cells zero name e = let f : false ≡ true = e in absurd (let z : ⊥ = cc in z)
found_named [] (suc n) name e = let f : false ≡ true = e in absurd (let z : ⊥ = cc in z)
found_named (c ∷ cells) (suc n) name e = elim (cases_Bool (bytes_eq name c.name)) [
  | inl f ↦ (0, (let lt : 0 < suc n = omega arith in lt), record { cell = c; there = refl; named = sym ((bytes_eq-Decides name c.name).0 f) })
  | inr f ↦
      let h = found_named cells n name (subst (λ b. (b || list_any (bytes_eq name) (names_of (take n cells))) ≡ true) f e) in
      (suc h.0, (let lt : suc h.0 < suc n = (let below = h.1 in omega arith) in lt), record { cell = h.2.cell; there = h.2.there; named = h.2.named })
]

pub named_found : (cells : List CellDraft) (n : ℕ) (name : List ℕ) (i : ℕ) → i < n → IsNamed cells name i → list_any (bytes_eq name) (names_of (take n cells)) ≡ true
named_found cells zero name i lt h = absurd (let z : ⊥ = omega arith in z)
named_found [] (suc n) name i lt h = let f : None ≡ Some h.cell = h.there in absurd (let z : ⊥ = cc in z)
named_found (c ∷ cells) (suc n) name zero lt h =
    let same : c ≡ h.cell = (let f : Some c ≡ Some h.cell = h.there in cc) in
    let named : name ≡ c.name = sym h.named ∙ ap (λ (x : CellDraft). x.name) (sym same) in
    let first : bytes_eq name c.name ≡ true = (bytes_eq-Decides name c.name).1 named in
    ap (λ b. b || list_any (bytes_eq name) (names_of (take n cells))) first
named_found (c ∷ cells) (suc n) name (suc i) lt h =
    or_right (bytes_eq name c.name) _ (named_found cells n name i (let f : i < n = omega arith in f) (record { cell = h.cell; there = h.there; named = h.named }))

take_more_names : (cells : List CellDraft) (n : ℕ) (c : CellDraft) → slice_get cells n ≡ Some c → names_of (take n cells) ++ c.name ∷ [] ≡ names_of (take (suc n) cells)
take_more_names [] n c e = let f : None ≡ Some c = e in absurd (let z : ⊥ = cc in z)
take_more_names (x ∷ cells) zero c e = let same : x ≡ c = (let f : Some x ≡ Some c = e in cc) in ap (λ (y : CellDraft). y.name ∷ []) (sym same)
take_more_names (x ∷ cells) (suc n) c e = ap (λ ns. x.name ∷ ns) (take_more_names cells n c e)

pub name_new : (cells : List CellDraft) (n : ℕ) (names : List (List ℕ)) (c : CellDraft) → slice_get cells n ≡ Some c → list_any (bytes_eq c.name) names ≡ false
    → NamesSoFar cells n names → NamesSoFar cells (n + 1) (names ++ c.name ∷ [])
name_new cells n names c there free h = record {
  are = ap (λ ns. ns ++ c.name ∷ []) h.are ∙ take_more_names cells n c there ∙ ap (λ k. names_of (take k cells)) (let f : suc n ≡ n + 1 = omega arith in f);
  once = λ i lt r. elim (ℕ_discrete i n) [
    | yes e ↦
        let here : slice_get cells n ≡ Some r.here.cell = subst (λ k. slice_get cells k ≡ Some r.here.cell) e r.here.there in
        let same : r.here.cell ≡ c = (let f : Some r.here.cell ≡ Some c = sym here ∙ there in cc) in
        let named : r.name ≡ c.name = sym r.here.named ∙ ap (λ (x : CellDraft). x.name) same in
        let found = named_found cells n r.name r.earlier (let below = r.before in let f : r.earlier < n = omega arith in f) r.there in
        let all : list_any (bytes_eq c.name) names ≡ true = subst (λ ns. list_any (bytes_eq c.name) ns ≡ true) (sym h.are) (subst (λ w. list_any (bytes_eq w) (names_of (take n cells)) ≡ true) named found) in
        let z : ⊥ = cc in z
    | no e ↦ h.once i (let f : i < n = omega arith in f) r
  ];
}

pub name_twice : (cells : List CellDraft) (n : ℕ) (names : List (List ℕ)) (c : CellDraft) → slice_get cells n ≡ Some c → list_any (bytes_eq c.name) names ≡ true
    → NamesSoFar cells n names → IsFirstNamed cells (IsRepeat cells) c.name
name_twice cells n names c there taken h =
    let f = found_named cells n c.name (subst (λ ns. list_any (bytes_eq c.name) ns ≡ true) h.are taken) in
    let here : IsNamed cells c.name n = record { cell = c; there = there; named = refl } in
    (n, here, record { here = record { name = c.name; here = here; earlier = f.0; before = f.1; there = f.2 }; before = h.once })

pub names_done : (cells : List CellDraft) (n : ℕ) (names : List (List ℕ)) → length cells ≤ n → NamesSoFar cells n names → (names ≡ names_of cells) × HasNoRepeat cells
names_done cells n names le h = (h.are ∙ ap names_of (take_all n cells le), (λ i r. h.once i (let lt = slice_get_within cells i r.here.cell r.here.there in let f : i < n = omega arith in f) r))
