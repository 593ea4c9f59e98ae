-- A search that guesses.
use Rattle.std.proofs.Common.{◌≡◌, ℕ, ◌+◌, ◌-◌, ◌<◌, Bool, true, false, List, [], ◌∷◌, ◌++◌, length, take, Option, sym, subst, ◌∙◌, ap, ap₂, arith, true≢false}
use Rattle.std.specs.Prelude.{Vec}
use Rattle.std.specs.Global.{Global}
use Rattle.std.proofs.lemmas.List.{length-append}
use Rattle.std.proofs.Math.Seq.{take-append_seam}
use Rattle.round_laws.specs.Web.{Web, IsRefuted, under}
use Rattle.round_laws.specs.Nodes.{Node}
use Rattle.round_laws.specs.Guesses.{guessed, candidates}
use Rattle.match_laws.specs.Circuits.{Pair, web_of}
use Rattle.match_types.specs.declared.answer.Guess.{Guess as Try}
use Rattle.match_types.specs.declared.answer.GuessEnd.{GuessEnd}
use Rattle.match_types.specs.Plain.{plain_end, row_of}
use Rattle.match_graph.specs.declared.graph.Graph.{Graph}
use Rattle.match_graph.specs.Graph.{left_of, nodes_of}
use Rattle.match_graph.specs.Numbering.{index_of}
use Rattle.match_rounds.specs.declared.classes.Classes.{Classes}
use Rattle.match_rounds.specs.declared.refinement.Verdict.{Verdict}
use Rattle.match_rounds.specs.declared.refinement.Verdict.TheVariants as verdict
use Rattle.match_rounds.specs.Classes.{IsPartition, class_in}
use Rattle.match_rounds.specs.Refined.{AreSettled, AreSettledBefore, HasNoEvenEnd, IsResumed, IsVerdict}
use Rattle.match_rounds.specs.Start.{AreGuesses, guessed_web}
use Rattle.match_rounds.proofs.Started.{node_below}
use Rattle.refine_match.specs.declared.candidates.Candidate.{Candidate}
use Rattle.refine_match.specs.declared.searching.Search.{Search}
use Rattle.refine_match.specs.declared.lists.Lists.{Lists}
use Rattle.refine_match.specs.Rights.{AreListsOf}
use Rattle.refine_match.specs.Classes.{AreStableClasses}
use Rattle.net_model.specs.declared.netlist.Circuit.{Circuit}
use Rattle.match_rounds.specs.Turned.{AreAllOf}
use Rattle.refine_match.specs.Candidates.{IsBestBehind, IsNextOf, IsPairOf, rank_at}
use Rattle.refine_match.proofs.NextOf.{next_is}
use Rattle.refine_match.specs.Searching.{setting_in, EndsBy, HasEvenEnd, IsGuessing, IsSearchOf, IsTrying, IsUnderWay, guess_row}
use Rattle.refine_match.proofs.Crossed.{goes_to, refuted_is, stable_classes}
use Rattle.refine_match.proofs.Chosen.{left_low}
use Rattle.refine_match.proofs.Members.{same_candidates}
use Rattle.refine_match.proofs.Steps.{refuted_search, told_guess, tried_level}
use Rattle.refine_match.proofs.Told.{even_end, fewer_guesses, more_guesses, settled_before}
use Rattle.round_laws.proofs.Agree.{under_web}

-- the node of the level
pub node_low : (p : Pair) (g : Graph) (s : Search) → IsUnderWay p g s → s.level.node < left_of g
node_low p g s way =
    let h = way.search in
    subst (λ (x : ℕ). x < left_of g) h.here.node (left_low p g h.stage.node h.told.graph h.here.chosen.there)

pub pushed_guesses : (p : Pair) (g : Graph) (s : Search) (c : Candidate) → IsTrying p g s c → AreGuesses g (s.guesses.items ++ (s.level.node, c.node) ∷ [])
pushed_guesses p g s c h =
    let below : c.node < nodes_of g = subst (λ (x : ℕ). x < nodes_of g) h.head.numbered.index (node_below g (index_of p h.head.right) (goes_to p g h.head.right h.way.search.told.graph h.head.numbered.node)) in
    more_guesses g s.guesses.items s.level.node c.node h.way.guesses (node_low p g s h.way) h.right below

-- the search goes on with a guess
pub guessing : (p : Pair) (g : Graph) (s : Search) (c : Candidate) → IsTrying p g s c → (ns : Vec (ℕ × ℕ) Global) (d : Classes) (k : Lists) → ns.items ≡ s.guesses.items ++ (s.level.node, c.node) ∷ []
    → IsGuessing p g (let u : Search = record { limit = s.limit; refuted = s.refuted; classes = d; lists = k; guesses = ns; level = s.level; outer = s.outer; rows = s.rows } in u) c
guessing p g s c h ns d k e = record {
  before = s.guesses.items;
  guesses_are = e;
  search = h.way.search;
  head = h.head;
  right = h.right;
  below = h.below;
  guesses = subst (λ (us : List (ℕ × ℕ)). AreGuesses g us) (sym e) (pushed_guesses p g s c h);
}

-- what rounds came to
pub not_even : (w : Web ℕ) (c : Classes) (b : Bool) → b ≡ false → IsResumed w c b → HasNoEvenEnd w
not_even w c false e h = h
not_even w c true e h = absurd (true≢false e)

pub now_even : (w : Web ℕ) (c : Classes) (b : Bool) → b ≡ true → IsResumed w c b → AreSettled w c
now_even w c true e h = h
now_even w c false e h = absurd (true≢false (sym e))

-- the classes are those before the guess
pub before_guess : (g : Graph) (ns ms : List (ℕ × ℕ)) (n : ℕ × ℕ) (d : Classes) → ms ≡ ns ++ n ∷ [] → AreSettled (guessed_web g ns) d → AreSettledBefore g ms d
before_guess g ns ms n d e h =
    subst (λ (us : List (ℕ × ℕ)). AreSettledBefore g us d) (sym e) (subst (λ (us : List (ℕ × ℕ)). AreSettled (guessed_web g us) d) (sym (settled_before ns n)) h)

-- the guesses before this one
pub popped : (ns ms before : List (ℕ × ℕ)) (n : ℕ × ℕ) (k : ℕ) → ns ≡ before ++ n ∷ [] → k ≡ length ns → ms ≡ take (k - 1) ns → ms ≡ before
popped ns ms before n k e ek em =
    let long : length ns ≡ length before + 1 = ap length e ∙ length-append before (n ∷ []) in
    let less : k - 1 ≡ length before = omega arith in
    em ∙ (ap₂ (λ (i : ℕ) (us : List (ℕ × ℕ)). take i us) less e ∙ take-append_seam before (n ∷ []))

pub guesses_before : (p : Pair) (g : Graph) (s : Search) (c : Candidate) → (h : IsGuessing p g s c) → AreGuesses g h.before
guesses_before p g s c h = fewer_guesses g h.before ((s.level.node, c.node) ∷ []) (subst (λ (us : List (ℕ × ℕ)). AreGuesses g us) h.guesses_are h.guesses)

pub even_before_guess : (p : Pair) (g : Graph) (s : Search) (c : Candidate) → (h : IsGuessing p g s c) → HasEvenEnd (guessed_web g h.before)
even_before_guess p g s c h =
    let at = h.search.here in
    even_end p g h.before h.search.stage.above at.round h.search.told at.chosen.stable (at.chosen.even at.round (omega arith))

-- a guess that the rounds refute
pub refuted_way : (p : Pair) (g : Graph) (s : Search) (c : Candidate) → (h : IsGuessing p g s c) → (d0 : Classes) (v : Verdict) (e : GuessEnd) (t : Try) (d : Classes) (k : Lists) (shown seen : List (ℕ × ℕ)) (ns : Vec (ℕ × ℕ) Global) (ts : Vec Try Global)
    → HasNoEvenEnd (guessed_web g s.guesses.items) → seen ≡ s.guesses.items → IsVerdict (guessed_web g seen) d0 v → EndsBy v e → row_of t ≡ guess_row h.search.above h.search.stage h.head.right (plain_end e)
    → ts.items ≡ s.rows.items ++ t ∷ [] → ns.items ≡ take (s.guesses.len - 1) s.guesses.items → shown ≡ ns.items → IsPartition d (left_of g) (nodes_of g) → AreSettled (guessed_web g shown) d → AreListsOf k g d
    → IsUnderWay p g (let u : Search = record { limit = s.limit; refuted = s.refuted + 1; classes = d; lists = k; guesses = ns; level = tried_level s.level c s.level.row; outer = s.outer; rows = ts } in u)
refuted_way p g s c h d0 verdict.Stable e t d k shown seen ns ts none es is by row et en esh part settled ties =
    let st : AreSettled (guessed_web g s.guesses.items) d0 = subst (λ (us : List (ℕ × ℕ)). AreSettled (guessed_web g us) d0) es is in
    absurd (none st.round st.stable (st.even st.round (omega arith)))
refuted_way p g s c h d0 (verdict.Refuted r) e t d k shown seen ns ts none es is by row et en esh part settled ties =
    let all : s.guesses.items ≡ h.before ++ (s.level.node, c.node) ∷ [] = h.guesses_are in
    let are : ns.items ≡ h.before = popped s.guesses.items ns.items h.before (s.level.node, c.node) s.guesses.len all s.guesses.ok.0 en in
    let told = told_guess p g s.limit h.before s.level s.outer.items s.rows.items s.refuted c h.search h.head in
    let bad : IsRefuted (guessed_web g (h.before ++ (s.level.node, c.node) ∷ [])) r = subst (λ (us : List (ℕ × ℕ)). IsRefuted (guessed_web g us) r) (es ∙ all) is.refuted in
    let refuted = refuted_is p g (h.before ++ (s.level.node, c.node) ∷ []) (guessed h.search.stage.above h.search.stage.node h.head.right) r told bad in
    let next = refuted_search p g s.limit h.before s.level s.outer.items s.rows.items s.refuted c t r h.search h.head h.below refuted
    (row ∙ ap (λ (x : GuessEnd). guess_row h.search.above h.search.stage h.head.right (plain_end x)) by) in
    let below = h.below in
    record {
      search = subst (λ (us : List Try). IsSearchOf p g s.limit ns.items (tried_level s.level c s.level.row) s.outer.items us (s.refuted + 1)) (sym et)
          (subst (λ (us : List (ℕ × ℕ)). IsSearchOf p g s.limit us (tried_level s.level c s.level.row) s.outer.items (s.rows.items ++ t ∷ []) (s.refuted + 1)) (sym are) next);
      partition = part;
      settled = subst (λ (us : List (ℕ × ℕ)). AreSettled (guessed_web g us) d) esh settled;
      lists = ties;
      guesses = subst (λ (us : List (ℕ × ℕ)). AreGuesses g us) (sym are) (guesses_before p g s c h);
      within = omega arith;
    }

-- the next candidate of the stage
pub next_of : (p : Pair) (g : Graph) (left right : Circuit) (s : Search) (way : IsUnderWay p g s) (best : Option Candidate) (items : List ℕ) → IsPairOf p g left right
    → AreAllOf (class_in s.classes) (class_in s.classes s.level.node) items (nodes_of g) → IsBestBehind g (rank_at g left right s.level.node) s.level.last items (length items) best
    → IsNextOf p way.search.stage.node s.level.last way.search.stage.tries best
next_of p g left right s way best items h all found =
    let q = way.search in
    let l = q.stage in
    let stable : AreStableClasses p l.above s.classes = stable_classes p g s.guesses.items l.above s.classes q.told way.settled in
    let tries : candidates (setting_in p s.limit) (under (web_of p) l.above) stable.round l.node ≡ l.tries
    = same_candidates (setting_in p s.limit) (under (web_of p) l.above) stable.round q.here.round l.node (under_web (web_of p) l.above q.told.good) stable.stable q.here.chosen.stable q.here.chosen.there ∙ sym q.here.tries in
    subst (λ (xs : List Node). IsNextOf p l.node s.level.last xs best) tries
    (next_is p g left right l.above s.classes s.level.node s.limit l.node s.level.last best items h way.partition.classes.small q.here.chosen.there q.here.node stable all found)
