-- Cells that none places.
use Rattle.std.proofs.Common.{◌≡◌, ◌⊎◌, inl, inr, ℕ, zero, suc, ◌+◌, ◌<◌, ◌≤◌, List, [], ◌∷◌, Some, Bool, true, false, length, get_or, set, slice_get, refl, sym, ◌∙◌, ap, subst, arith}
use Rattle.std.proofs.Math.Decide.{ℕ_discrete}
use Rattle.std.proofs.Math.ListN.{replicate}
use Rattle.std.proofs.lemmas.Option.{slice_get_within, slice_get-get_or}
use Rattle.std.proofs.lemmas.List.{get_or-set_same, get_or-set_other, length-set, length-replicate}
use Rattle.cell_graph.specs.declared.cells.Place.{Place}
use Rattle.cell_graph.specs.declared.drafts.CellDraft.{CellDraft}
use Rattle.cell_graph.specs.Chains.{Leads, AreFirstTwo}
use Rattle.cell_graph.specs.Parts.{Part, IsAmong, AreInside}
use Rattle.cell_graph.specs.Marking.{IsMarked, IsAmongFirst}
use Rattle.cell_graph.specs.Tops.{MarksMore, ArePlacedTo, ArePlaced, AreMarkedFrom, IsFree}
use Rattle.cell_graph.specs.Drafts.{HasNoRepeat, HasNoDeep, AreParts, Refers, IsRoot}
use Rattle.cell_graph.proofs.Walks.{none_yet}
use Rattle.cell_graph.proofs.Resolving.{places_refers, refers_places}

pub none_more_marked : (places : List Place) (marks : List Bool) → MarksMore (IsAmongFirst places 0) marks marks
none_more_marked places marks = record { count = refl; exact = λ j. ((λ m. inl m), (λ h. elim h [ inl m ↦ m | inr (k, p, lt, at, is) ↦ absurd (let z : ⊥ = omega arith in z) ])) }

pub one_more_marked : (places : List Place) (n : ℕ) (d : Place) (old marks : List Bool) → n < length places → AreInside places (length old)
    → MarksMore (IsAmongFirst places n) old marks → MarksMore (IsAmongFirst places (n + 1)) old (set marks (get_or places n d).cell true)
one_more_marked places n d old marks lt inside h =
    let p = get_or places n d in
    let at = slice_get-get_or places n d lt in
    let in_marks : p.cell < length marks = subst (λ m. p.cell < m) (sym h.count) (inside n p at) in
    record {
      count = length-set marks p.cell true ∙ h.count;
      exact = λ j. elim (ℕ_discrete j p.cell) [
        | yes e ↦ (
          (λ m. inr (n, p, (let f : n < n + 1 = omega arith in f), at, sym e)),
          (λ _. subst (IsMarked (set marks p.cell true)) (sym e) (get_or-set_same marks p.cell true false in_marks)),
        )
        | no e ↦ (
          (λ m. elim ((h.exact j).0 (sym (get_or-set_other marks p.cell j true false e) ∙ m)) [ inl a ↦ inl a | inr (k, q, below, there, is) ↦ inr (k, q, (let f : k < n + 1 = omega arith in f), there, is) ]),
          (λ a. get_or-set_other marks p.cell j true false e ∙ (h.exact j).1 (elim a [
            | inl b ↦ inl b
            | inr (k, q, below, there, is) ↦ elim (ℕ_discrete k n) [
              | yes f ↦
                  let same : p ≡ q = (let g : Some p ≡ Some q = sym at ∙ subst (λ i. slice_get places i ≡ Some q) f there in cc) in
                  absurd (e (sym is ∙ ap (λ (r : Place). r.cell) (sym same)))
              | no f ↦ inr (k, q, (let g : k < n = omega arith in g), there, is)
            ]
          ])),
        )
      ];
    }

pub all_more_marked : (places : List Place) (n : ℕ) (old marks : List Bool) → length places ≤ n → MarksMore (IsAmongFirst places n) old marks → MarksMore (IsAmong places) old marks
all_more_marked places n old marks le h = record {
  count = h.count;
  exact = λ j. (
    (λ m. elim ((h.exact j).0 m) [ inl a ↦ inl a | inr (k, p, lt, at, is) ↦ inr (k, p, at, is) ]),
    (λ a. (h.exact j).1 (elim a [ inl b ↦ inl b | inr (k, p, at, is) ↦ inr (k, p, (let lt = slice_get_within places k p at in let f : k < n = omega arith in f), at, is) ])),
  );
}

pub none_placed : (parts : List Part) (marks : List Bool) → marks ≡ replicate (length parts) false → ArePlacedTo parts 0 marks
none_placed parts marks e = record {
  count = ap length e ∙ length-replicate (length parts) false;
  exact = λ j. ((λ m. absurd (none_yet (length parts) j (subst (λ ms. IsMarked ms j) e m))), (λ (i, lt, p). absurd (let z : ⊥ = omega arith in z)));
}

pub one_more_placed : (parts : List Part) (n : ℕ) (part : Part) (marks more : List Bool) → slice_get parts n ≡ Some part → MarksMore (IsAmong part.items) marks more
    → ArePlacedTo parts n marks → ArePlacedTo parts (n + 1) more
one_more_placed parts n part marks more there m h = record {
  count = m.count ∙ h.count;
  exact = λ j. (
    (λ a. elim ((m.exact j).0 a) [
      | inl b ↦ let r = (h.exact j).0 b in let lt = r.1 in (r.0, (let f : r.0 < n + 1 = omega arith in f), r.2)
      | inr b ↦ (n, (let f : n < n + 1 = omega arith in f), record { part = part; there = there; among = b })
    ]),
    (λ (i, lt, p). (m.exact j).1 (elim (ℕ_discrete i n) [
      | yes e ↦
          let same : p.part ≡ part = (let f : Some p.part ≡ Some part = sym (subst (λ k. slice_get parts k ≡ Some p.part) e p.there) ∙ there in cc) in
          inr (subst (λ (q : Part). IsAmong q.items j) same p.among)
      | no e ↦ inl ((h.exact j).1 (i, (let f : i < n = omega arith in f), p))
    ])),
  );
}

pub all_placed : (parts : List Part) (n : ℕ) (marks : List Bool) → length parts ≤ n → ArePlacedTo parts n marks → ArePlaced parts marks
all_placed parts n marks le h = record {
  count = h.count;
  exact = λ j. (
    (λ m. let r = (h.exact j).0 m in (r.0, r.2)),
    (λ (i, p). (h.exact j).1 (i, (let lt = slice_get_within parts i p.part p.there in let f : i < n = omega arith in f), p)),
  );
}

pub free_root : (cells : List CellDraft) (parts : List Part) (marks : List Bool) (i : ℕ) → HasNoRepeat cells → AreParts cells parts → ArePlaced parts marks → i < length marks → (IsMarked marks i → ⊥) → IsRoot cells i
free_root cells parts marks i once are h lt free = record {
  there = subst (λ n. i < n) (h.count ∙ are.count) lt;
  free = λ k r. free ((h.exact i).1 (k, refers_places cells parts once are k i r));
}

pub marked_no_root : (cells : List CellDraft) (parts : List Part) (marks : List Bool) (i : ℕ) → AreParts cells parts → ArePlaced parts marks → IsMarked marks i → IsRoot cells i → ⊥
marked_no_root cells parts marks i are h m root = let r = (h.exact i).0 m in root.free r.0 (places_refers cells parts are r.0 i r.1)

order : (a b : ℕ) → (a < b) ⊎ (a ≡ b) ⊎ (b < a)
order zero zero = inr (inl refl)
order zero (suc b) = inl (omega arith)
order (suc a) zero = inr (inr (omega arith))
order (suc a) (suc b) = elim (order a b) [ inl x ↦ inl (let f : suc a < suc b = omega arith in f) | inr y ↦ elim y [ inl e ↦ inr (inl (ap suc e)) | inr x ↦ inr (inr (let f : suc b < suc a = omega arith in f)) ] ]

pub only_free : (cells : List CellDraft) (parts : List Part) (marks : List Bool) (i : ℕ) → HasNoRepeat cells → AreParts cells parts → ArePlaced parts marks → IsFree marks 0 i
    → AreMarkedFrom marks (i + 1) (length marks) → (j : ℕ) → IsRoot cells j → j ≡ i
only_free cells parts marks i once are h free rest j root = elim (order j i) [
  | inl lt ↦ absurd (marked_no_root cells parts marks j are h (free.before j (omega arith) lt) root)
  | inr (inl e) ↦ e
  | inr (inr lt) ↦
      let there : j < length marks = subst (λ n. j < n) (sym (h.count ∙ are.count)) root.there in
      absurd (marked_no_root cells parts marks j are h (rest j (omega arith) there) root)
]

pub two_free : (cells : List CellDraft) (parts : List Part) (marks : List Bool) (i j : ℕ) → HasNoRepeat cells → AreParts cells parts → ArePlaced parts marks → IsFree marks 0 i
    → IsFree marks (i + 1) j → AreFirstTwo (IsRoot cells) i j
two_free cells parts marks i j once are h one other = record {
  first = record {
    here = free_root cells parts marks i once are h one.there one.free;
    before = λ k lt root. marked_no_root cells parts marks k are h (one.before k (omega arith) lt) root;
  };
  next = record {
    here = ((let b = other.begin in let f : i < j = omega arith in f), free_root cells parts marks j once are h other.there other.free);
    before = λ k lt (above, root). marked_no_root cells parts marks k are h (other.before k (omega arith) lt) root;
  };
}

-- where each cell is placed, chains have no end
climbs : (cells : List CellDraft) (parts : List Part) (marks : List Bool) → AreParts cells parts → ArePlaced parts marks → AreMarkedFrom marks 0 (length marks) → 0 < length cells
    → (n : ℕ) → (i : ℕ) × (i < length cells) × Leads (Refers cells) i n 0
climbs cells parts marks are h all some zero = (0, some, refl)
climbs cells parts marks are h all some (suc n) =
    let r = climbs cells parts marks are h all some n in
    let there : r.0 < length marks = subst (λ m. r.0 < m) (sym (h.count ∙ are.count)) r.1 in
    let up = (h.exact r.0).0 (all r.0 (omega arith) there) in
    let ref = places_refers cells parts are up.0 r.0 up.1 in
    (up.0, slice_get_within cells up.0 ref.has.cell ref.has.there, (r.0, ref, r.2))

pub all_marked_none : (cells : List CellDraft) (parts : List Part) (marks : List Bool) → AreParts cells parts → ArePlaced parts marks → AreMarkedFrom marks 0 (length marks) → HasNoDeep cells → cells ≡ []
all_marked_none [] parts marks are h all deep = refl
all_marked_none (c ∷ cells) parts marks are h all deep =
    let some : 0 < length (c ∷ cells) = omega arith in
    let r = climbs (c ∷ cells) parts marks are h all some 65 in
    absurd (deep r.0 (65, (let f : 64 < 65 = omega arith in f), (0, r.2)))
