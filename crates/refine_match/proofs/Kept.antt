-- A search between two steps.
use Rattle.std.proofs.Common.{◌≡◌, ◌≢◌, inl, inr, ℕ, ◌≤◌, List, [], ◌∷◌, map, Some, sym, subst, ◌∙◌, arith, true, false, Bool, true≢false}
use Rattle.std.proofs.lemmas.Bool.{cases_lt}
use Rattle.round_laws.specs.Web.{Guess}
use Rattle.round_laws.specs.Nodes.{Node}
use Rattle.match_laws.specs.Circuits.{AreMatched, Pair, Pairing}
use Rattle.match_laws.specs.Answer.{DiffersByTree, IsAnswer, Match, Undecided, equal_names}
use Rattle.match_types.specs.declared.answer.Guess.{Guess as Try}
use Rattle.match_types.specs.Plain.{row_of}
use Rattle.match_graph.specs.declared.graph.Graph.{Graph}
use Rattle.match_graph.specs.Graph.{left_of}
use Rattle.refine_match.specs.declared.candidates.Candidate.{Candidate}
use Rattle.refine_match.specs.declared.searching.Search.{Search}
use Rattle.refine_match.specs.Candidates.{IsHead, remaining}
use Rattle.refine_match.specs.Searching.{HasLeft, IsLeft, IsSolvedBy, IsTried, IsTrying, IsUnderWay}
use Rattle.refine_match.specs.Pairings.{IsPairingOf}
use Rattle.refine_match.proofs.Ends.{ended, found, stopped}

-- a candidate before the limit
pub trying : (p : Pair) (g : Graph) (s : Search) (c : Candidate) → (way : IsUnderWay p g s) → IsHead p way.search.stage.node s.level.last way.search.stage.tries c → left_of g ≤ c.node → s.refuted ≢ s.limit → IsTrying p g s c
trying p g s c way head right ne = record {
  way = way;
  head = head;
  right = right;
  below = elim (cases_lt s.refuted s.limit) [ inl l ↦ l | inr l ↦ let w = way.within in absurd (ne (omega arith)) ];
}

-- candidates are left
some_left : (xs ys : List Node) (y : Node) → xs ≡ y ∷ ys → xs ≢ []
some_left xs ys y e f = let g : y ∷ ys ≡ [] = sym e ∙ f in cc

pub kept_stopped : (p : Pair) (g : Graph) (s : Search) (c : Candidate) (limit : ℕ) → (way : IsUnderWay p g s) → IsHead p way.search.stage.node s.level.last way.search.stage.tries c → s.limit ≡ limit → s.refuted ≡ s.limit → AreMatched p
    → IsAnswer p (equal_names p) limit (Undecided (map row_of s.rows.items))
kept_stopped p g s c limit way head el full matched =
    subst (λ (n : ℕ). IsAnswer p (equal_names p) n (Undecided (map row_of s.rows.items))) el
    (stopped p g s way (some_left way.search.stage.rest (remaining p way.search.stage.node (Some c) way.search.stage.tries) head.right (way.search.here.left ∙ head.is)) full matched)

-- none is left
pub none_left : (p : Pair) (g : Graph) (s : Search) → (way : IsUnderWay p g s) → remaining p way.search.stage.node s.level.last way.search.stage.tries ≡ [] → HasLeft way
none_left p g s way e = way.search.here.left ∙ e

pub kept_ended : (p : Pair) (g : Graph) (s u : Search) (b : Bool) (limit : ℕ) → (way : IsUnderWay p g s) → remaining p way.search.stage.node s.level.last way.search.stage.tries ≡ [] → s.limit ≡ limit → b ≡ false → IsLeft p g s u b → AreMatched p
    → IsAnswer p (equal_names p) limit (DiffersByTree (map row_of u.rows.items))
kept_ended p g s u true limit way none el eb left matched = absurd (true≢false eb)
kept_ended p g s u false limit way none el eb left matched =
    subst (λ (n : ℕ). IsAnswer p (equal_names p) n (DiffersByTree (map row_of u.rows.items))) el
    (subst (λ (rs : List Try). IsAnswer p (equal_names p) s.limit (DiffersByTree (map row_of rs))) (sym left.0) (ended p g s way (none_left p g s way none) left.1 matched))

pub kept_left : (p : Pair) (g : Graph) (s u : Search) (b : Bool) → b ≡ true → IsLeft p g s u b → IsUnderWay p g u
kept_left p g s u true eb left = left
kept_left p g s u false eb left = absurd (true≢false (sym eb))

-- a guess that was solved, or not
pub kept_solved : (p : Pair) (g : Graph) (s : Search) (c : Candidate) (b : Bool) → b ≡ true → IsTried p g s c b → IsSolvedBy p g s c
kept_solved p g s c true e h = h
kept_solved p g s c false e h = absurd (true≢false (sym e))

pub kept_tried : (p : Pair) (g : Graph) (s : Search) (c : Candidate) (b : Bool) → b ≡ false → IsTried p g s c b → IsUnderWay p g s
kept_tried p g s c true e h = absurd (true≢false e)
kept_tried p g s c false e h = h

pub kept_found : (p : Pair) (g : Graph) (s : Search) (c : Candidate) (limit : ℕ) → IsSolvedBy p g s c → s.limit ≡ limit → AreMatched p → (f : Pairing) → ((qs : List (Guess Node)) → IsPairingOf p qs s.classes f) → IsAnswer p (equal_names p) limit (Match f)
kept_found p g s c limit by el matched f is = subst (λ (n : ℕ). IsAnswer p (equal_names p) n (Match f)) el (found p g s c by matched f is)
