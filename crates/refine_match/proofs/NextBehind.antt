-- One member more of the class was looked at.
use Rattle.std.proofs.Common.{◌≡◌, inl, inr, ◌<◌, ◌≤◌, ◌+◌, ℕ, true, Option, Some, None, List, slice_index, sym, subst, ◌∙◌, ap, arith}
use Rattle.std.proofs.lemmas.Bool.{cases_lt}
use Rattle.match_graph.specs.declared.graph.Graph.{Graph}
use Rattle.match_graph.specs.Graph.{left_of}
use Rattle.refine_match.specs.declared.candidates.Candidate.{Candidate}
use Rattle.refine_match.specs.Candidates.{candidate_rank, is_behind, IsBestBehind, IsFirst}

-- the best one so far comes no later than this rank
abbrev pub IsNoLaterThan : Option Candidate → ℕ → Type 0
IsNoLaterThan (Some b) r = candidate_rank b ≤ r
IsNoLaterThan None r = ⊥

pub not_first : (c : Candidate) (best : Option Candidate) → (IsFirst c best → ⊥) → IsNoLaterThan best (candidate_rank c)
not_first c (Some b) h = elim (cases_lt (candidate_rank c) (candidate_rank b)) [ inl l ↦ absurd (h l) | inr l ↦ l ]
not_first c None h = h tt

pub took : (g : Graph) (rank : ℕ → ℕ) (last : Option Candidate) (items : List ℕ) (i : ℕ) (best : Option Candidate) (c : Candidate) → IsBestBehind g rank last items i best → slice_index items i ≡ c.node → left_of g ≤ c.node
    → candidate_rank c ≡ rank c.node → is_behind last (candidate_rank c) ≡ true → IsFirst c best → IsBestBehind g rank last items (i + 1) (Some c)
took g rank last items i best c h at right is behind first = record {
  place = i;
  below = omega arith;
  node = at;
  right = right;
  rank_is = is;
  behind = behind;
  first = λ k l r t. elim (cases_lt k i) [
    | inl m ↦ earlier best h first k m r t
    | inr m ↦ let e : k ≡ i = omega arith in let same : rank (slice_index items k) ≡ rank c.node = ap (λ (j : ℕ). rank (slice_index items j)) e ∙ ap rank at in omega arith
  ];
}
  where
    earlier : (best : Option Candidate) → IsBestBehind g rank last items i best → IsFirst c best → (k : ℕ) → k < i → left_of g ≤ slice_index items k → is_behind last (rank (slice_index items k)) ≡ true
        → candidate_rank c ≤ rank (slice_index items k)
    earlier (Some b) h f k l r t = let low = h.first k l r t in omega arith
    earlier None h f k l r t = absurd (h k l r t)

pub kept : (g : Graph) (rank : ℕ → ℕ) (last : Option Candidate) (items : List ℕ) (i : ℕ) (best : Option Candidate) → IsBestBehind g rank last items i best
    → (left_of g ≤ slice_index items i → is_behind last (rank (slice_index items i)) ≡ true → IsNoLaterThan best (rank (slice_index items i))) → IsBestBehind g rank last items (i + 1) best
kept g rank last items i (Some b) h later =
    let below = h.below in
    record {
      place = h.place;
      below = omega arith;
      node = h.node;
      right = h.right;
      rank_is = h.rank_is;
      behind = h.behind;
      first = λ k l r t. elim (cases_lt k i) [
        | inl m ↦ h.first k m r t
        | inr m ↦
            let e : k ≡ i = omega arith in
            subst (λ (j : ℕ). candidate_rank b ≤ rank (slice_index items j)) (sym e)
            (later (subst (λ (j : ℕ). left_of g ≤ slice_index items j) e r) (subst (λ (j : ℕ). is_behind last (rank (slice_index items j)) ≡ true) e t))
      ];
    }
kept g rank last items i None h later = λ k l r t. elim (cases_lt k i) [
  | inl m ↦ h k m r t
  | inr m ↦
      let e : k ≡ i = omega arith in
      later (subst (λ (j : ℕ). left_of g ≤ slice_index items j) e r) (subst (λ (j : ℕ). is_behind last (rank (slice_index items j)) ≡ true) e t)
]
