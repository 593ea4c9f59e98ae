-- The ends of a search.
use Rattle.std.proofs.Common.{◌≡◌, ◌≢◌, inr, ℕ, suc, List, [], ◌∷◌, ◌++◌, map, length, sym, subst, ◌∙◌, ap}
use Rattle.std.proofs.lemmas.List.{append-nil}
use Rattle.round_laws.specs.Web.{Guess, under}
use Rattle.round_laws.specs.Nodes.{Node}
use Rattle.round_laws.specs.Colours.{AreColours}
use Rattle.round_laws.specs.Guesses.{Search as Tree, Ended, Stopped, Found, IsSearch, IsWholeSearch, Row, candidates, guessed, rows, solved_guesses}
use Rattle.round_laws.specs.Stack.{Level as Stage, add, IsStack, outer_rows}
use Rattle.round_laws.proofs.Stack.{closes, rows_add}
use Rattle.match_laws.specs.Circuits.{AreMatched, Pair, Pairing, web_of}
use Rattle.match_laws.specs.Answer.{DiffersByTree, IsAnswer, IsPairing, Match, Undecided, equal_names}
use Rattle.match_types.specs.Plain.{row_of}
use Rattle.match_graph.specs.declared.graph.Graph.{Graph}
use Rattle.match_rounds.specs.Start.{guessed_web}
use Rattle.match_rounds.specs.Refined.{AreSettled}
use Rattle.refine_match.specs.declared.candidates.Candidate.{Candidate}
use Rattle.refine_match.specs.declared.searching.Level.{Level}
use Rattle.refine_match.specs.declared.searching.Search.{Search}
use Rattle.refine_match.specs.Classes.{AreStableClasses, class_of_node}
use Rattle.refine_match.specs.Pairings.{IsPairingOf}
use Rattle.refine_match.specs.Searching.{setting_in, AreOuterOf, IsFirstOf, IsSolvedBy, IsUnderWay, rows_so_far}
use Rattle.refine_match.proofs.Crossed.{stable_classes}
use Rattle.refine_match.proofs.Chosen.{is_solved}
use Rattle.refine_match.proofs.Stages.{found_all, guesses_all, has_ended, not_ended, stage_level}
use Rattle.refine_match.proofs.Steps.{next_try, told_guess}
use Rattle.refine_match.proofs.Told.{no_last}

-- a search from the first stage is a whole one
abbrev pub whole_from : (p : Pair) (limit : ℕ) (first : Stage) (t : Tree) → IsFirstOf p limit first → IsSearch (setting_in p limit) first.above first.node first.tries first.start t → IsWholeSearch (setting_in p limit) t
whole_from p limit first t begins h = record {
  round = begins.round;
  node = first.node;
  chosen = begins.chosen;
  search = subst (λ (n : ℕ). IsSearch (setting_in p limit) [] first.node (candidates (setting_in p limit) (web_of p) begins.round first.node) n t) begins.start
      (subst (λ (xs : List Node). IsSearch (setting_in p limit) [] first.node xs first.start t) begins.tries
      (subst (λ (gs : List (Guess Node)). IsSearch (setting_in p limit) gs first.node first.tries first.start t) begins.above h));
}

-- each candidate of the first stage was tried
ended_first : (p : Pair) (limit : ℕ) (first l : Stage) (above : List Stage) (stack : IsStack (setting_in p limit) first l above) (vs : List Level) (done : List Row)
    → IsFirstOf p limit first → AreOuterOf p limit first l above stack vs → vs ≡ [] → l.rest ≡ [] → done ≡ rows_so_far (setting_in p limit) first l above stack → AreMatched p
    → IsAnswer p (equal_names p) limit (DiffersByTree done)
ended_first p limit first l [] stack vs done begins outer none rest e matched =
    let t : Tree = add l.done Ended in
    let s = setting_in p limit in
    let here : IsSearch s l.above l.node l.tries l.start t = stack.4 Ended rest in
    let there : IsSearch s first.above first.node first.tries first.start t
    = subst (λ (n : ℕ). IsSearch s first.above first.node first.tries n t) (sym stack.3)
    (subst (λ (xs : List Node). IsSearch s first.above first.node xs l.start t) (sym stack.2)
    (subst (λ (x : Node). IsSearch s first.above x l.tries l.start t) (sym stack.1)
    (subst (λ (gs : List (Guess Node)). IsSearch s gs l.node l.tries l.start t) (sym stack.0) here))) in
    record {
      matched = matched;
      search = t;
      whole = whole_from p limit first t begins there;
      end = has_ended l.done;
      rows_are = e ∙ ap (λ (x : Node). rows 1 x t) (sym stack.1);
    }
ended_first p limit first l (o ∷ os) stack vs done begins outer none rest e matched = absurd (no_last outer.0 outer.1 (sym none ∙ outer.2))

pub ended : (p : Pair) (g : Graph) (s : Search) (way : IsUnderWay p g s) → way.search.stage.rest ≡ [] → s.outer.items ≡ [] → AreMatched p → IsAnswer p (equal_names p) s.limit (DiffersByTree (map row_of s.rows.items))
ended p g s way rest none matched =
    let h = way.search in
    ended_first p s.limit h.first h.stage h.above h.stack s.outer.items (map row_of s.rows.items) h.begins h.outer_are none rest h.rows_are matched

-- the limit stopped the search
pub stopped : (p : Pair) (g : Graph) (s : Search) (way : IsUnderWay p g s) → way.search.stage.rest ≢ [] → s.refuted ≡ s.limit → AreMatched p → IsAnswer p (equal_names p) s.limit (Undecided (map row_of s.rows.items))
stopped p g s way some full matched =
    let h = way.search in
    let l = h.stage in
    let set = setting_in p s.limit in
    let t : Tree = add l.done Stopped in
    let here : IsSearch set l.above l.node l.tries l.start t = stage_level set h.first l h.above h.stack Stopped (some, sym h.refuted_is ∙ full) in
    let c = closes set h.first l h.above t h.stack here (λ e. not_ended l.done Stopped e) in
    let depth = suc (length h.above) in
    record {
      matched = matched;
      search = c.0;
      whole = whole_from p s.limit h.first c.0 h.begins c.1.search;
      end = (c.1.unended, λ f. (found_all l.done Stopped).0 (c.1.found.0 f));
      rows_are = h.rows_are
          ∙ (ap (λ (xs : List Row). outer_rows set h.first l h.above h.stack ++ xs) (sym (rows_add depth l.node l.done Stopped ∙ append-nil (rows depth l.node (add l.done Ended))))
          ∙ sym c.1.report);
    }

-- a guess was solved
pub found : (p : Pair) (g : Graph) (s : Search) (c : Candidate) → IsSolvedBy p g s c → AreMatched p → (f : Pairing) → ((qs : List (Guess Node)) → IsPairingOf p qs s.classes f) → IsAnswer p (equal_names p) s.limit (Match f)
found p g s c by matched f is =
    let q = by.guessing in
    let h = q.search in
    let l = h.stage in
    let b = q.head.right in
    let gs = guessed l.above l.node b in
    let set = setting_in p s.limit in
    let next = next_try p g s.limit q.before s.level s.outer.items s.rows.items s.refuted c h q.head q.below in
    let told = told_guess p g s.limit q.before s.level s.outer.items s.rows.items s.refuted c h q.head in
    let settled : AreSettled (guessed_web g (q.before ++ (s.level.node, c.node) ∷ [])) s.classes = subst (λ (us : List (ℕ × ℕ)). AreSettled (guessed_web g us) s.classes) q.guesses_are by.settled in
    let stable : AreStableClasses p gs s.classes = stable_classes p g (q.before ++ (s.level.node, c.node) ∷ []) gs s.classes told settled in
    let solved = is_solved p g gs s.classes told.graph told.good stable by.untied in
    let t : Tree = add l.done (Found b) in
    let here : IsSearch set l.above l.node l.tries l.start t = stage_level set h.first l h.above h.stack (Found b) (_, next, solved.0) in
    let k = closes set h.first l h.above t h.stack here (λ e. not_ended l.done (Found b) e) in
    let guesses : solved_guesses h.first.above h.first.node k.0 ≡ gs = k.1.guesses ∙ guesses_all l.above l.node l.done (Found b) in
    let pairing : IsPairing p gs f = (solved.0, is gs solved.0 (subst (λ (r : ℕ). AreColours (under (web_of p) gs) r (class_of_node p s.classes)) (sym solved.1) stable.colours)) in (
      matched,
      inr (record {
        search = k.0;
        whole = whole_from p s.limit h.first k.0 h.begins k.1.search;
        found = k.1.found.1 ((found_all l.done (Found b)).1 tt);
        pairing = subst (λ (us : List (Guess Node)). IsPairing p us f) (sym (ap (λ (us : List (Guess Node)). solved_guesses us h.first.node k.0) (sym h.begins.above) ∙ guesses)) pairing;
      }),
    )
