-- What each step keeps of a search.
use Rattle.std.proofs.Common.{◌≡◌, inl, ℕ, suc, ◌+◌, ◌<◌, ◌≤◌, List, [], ◌∷◌, ◌++◌, map, length, Option, Some, None, refl, sym, subst, ◌∙◌, ap, ap₂, arith, append_assoc}
use Rattle.std.specs.Prelude.{Vec}
use Rattle.std.specs.Global.{Global}
use Rattle.std.proofs.lemmas.List.{map-append, length-map, append-nil}
use Rattle.plain_netlist.specs.Lists.{IsListed}
use Rattle.round_laws.specs.Web.{IsRefuted, under}
use Rattle.round_laws.specs.Nodes.{Layout, Schematic}
use Rattle.round_laws.specs.Guesses.{IsChosen, candidates, Ended, IsNext, IsSearch, Row, IsRefutedIn, IsOpen, rows, guessed}
use Rattle.round_laws.specs.Stack.{WasRefuted, add, Level as Stage, used, IsLevel, IsUnder, outer_rows}
use Rattle.round_laws.proofs.Stack.{refutes}
use Rattle.match_laws.specs.Circuits.{Pair, nodes, web_of}
use Rattle.match_types.specs.declared.answer.Guess.{Guess as Try}
use Rattle.match_types.specs.Plain.{row_of}
use Rattle.match_graph.specs.declared.graph.Graph.{Graph}
use Rattle.match_graph.specs.Graph.{left_of, nodes_of}
use Rattle.match_rounds.specs.declared.classes.Classes.{Classes}
use Rattle.match_rounds.specs.Classes.{IsPartition}
use Rattle.match_rounds.specs.Refined.{AreSettled}
use Rattle.match_rounds.proofs.Started.{below_node}
use Rattle.match_rounds.specs.Start.{guessed_web}
use Rattle.refine_match.specs.declared.candidates.Candidate.{Candidate}
use Rattle.refine_match.specs.declared.searching.Level.{Level}
use Rattle.refine_match.specs.declared.searching.Search.{Search}
use Rattle.refine_match.specs.Classes.{AreTold, AreStableClasses}
use Rattle.refine_match.specs.Choosing.{IsLeastTied}
use Rattle.refine_match.specs.Rights.{AreListsOf}
use Rattle.refine_match.specs.Candidates.{IsHead, remaining}
use Rattle.refine_match.specs.Searching.{setting_in, IsGuessing, IsLevelOf, IsSearchOf, IsUnderWay, guess_row}
use Rattle.refine_match.proofs.Crossed.{came_from, stable_classes}
use Rattle.refine_match.proofs.Chosen.{is_chosen, right_listed}
use Rattle.refine_match.proofs.Told.{told_more}
use Rattle.refine_match.proofs.Stages.{further, stage_level, restack, restack_rows, restack_levels, refuted_one, rows_one, all_behind}

-- a level whose candidate was tried
abbrev pub tried_level : Level → Candidate → ℕ → Level
tried_level v c row = record { node = v.node; last = Some c; row = row }

-- the head is the next candidate of the stage
pub next_try : (p : Pair) (g : Graph) (limit : ℕ) (ns : List (ℕ × ℕ)) (v : Level) (vs : List Level) (ts : List Try) (n : ℕ) (c : Candidate) (h : IsSearchOf p g limit ns v vs ts n)
    → (head : IsHead p h.stage.node v.last h.stage.tries c) → n < limit
    → IsNext (setting_in p limit) h.stage.rest (used h.stage) head.right (remaining p h.stage.node (Some c) h.stage.tries)
next_try p g limit ns v vs ts n c h head below = record {
  is = h.here.left ∙ head.is;
  before = subst (λ (m : ℕ). m < limit) h.refuted_is below;
}

pub left_here : (p : Pair) (g : Graph) (limit : ℕ) (ns : List (ℕ × ℕ)) (v : Level) (vs : List Level) (ts : List Try) (n : ℕ) (h : IsSearchOf p g limit ns v vs ts n) → IsListed h.stage.node (nodes p Layout)
left_here p g limit ns v vs ts n h = h.here.chosen.there

pub right_here : (p : Pair) (g : Graph) (limit : ℕ) (ns : List (ℕ × ℕ)) (v : Level) (vs : List Level) (ts : List Try) (n : ℕ) (c : Candidate) (h : IsSearchOf p g limit ns v vs ts n)
    → (head : IsHead p h.stage.node v.last h.stage.tries c) → left_of g ≤ c.node → IsListed head.right (nodes p Schematic)
right_here p g limit ns v vs ts n c h head right =
    right_listed p g head.right h.told.graph head.numbered.node (subst (λ (x : ℕ). left_of g ≤ x) (sym head.numbered.index) right)

-- the guess in both forms
pub told_guess : (p : Pair) (g : Graph) (limit : ℕ) (ns : List (ℕ × ℕ)) (v : Level) (vs : List Level) (ts : List Try) (n : ℕ) (c : Candidate) (h : IsSearchOf p g limit ns v vs ts n)
    → (head : IsHead p h.stage.node v.last h.stage.tries c) → AreTold p g (ns ++ (v.node, c.node) ∷ []) (guessed h.stage.above h.stage.node head.right)
told_guess p g limit ns v vs ts n c h head =
    told_more p g ns h.stage.above h.stage.node head.right v.node c.node h.told (inl h.here.chosen.there) head.numbered.node h.here.node head.numbered.index

-- one row more
more_rows : (ts : List Try) (t : Try) (xs ys : List Row) (r : Row) → map row_of ts ≡ xs ++ ys → row_of t ≡ r → map row_of (ts ++ t ∷ []) ≡ xs ++ (ys ++ r ∷ [])
more_rows ts t xs ys r e f =
    map-append row_of ts (t ∷ [])
    ∙ (ap₂ (λ (us : List Row) (u : Row). us ++ u ∷ []) e f ∙ append_assoc xs ys (r ∷ []))

-- a guess that ended refuted
pub refuted_search : (p : Pair) (g : Graph) (limit : ℕ) (ns : List (ℕ × ℕ)) (v : Level) (vs : List Level) (ts : List Try) (n : ℕ) (c : Candidate) (t : Try) (r : ℕ) (h : IsSearchOf p g limit ns v vs ts n)
    → (head : IsHead p h.stage.node v.last h.stage.tries c) → n < limit → IsRefuted (under (web_of p) (guessed h.stage.above h.stage.node head.right)) r
    → row_of t ≡ guess_row h.above h.stage head.right (IsRefutedIn r)
    → IsSearchOf p g limit ns (tried_level v c v.row) vs (ts ++ t ∷ []) (n + 1)
refuted_search p g limit ns v vs ts n c t r h head below refuted row =
    let s = setting_in p limit in
    let l = h.stage in
    let b = head.right in
    let bs = remaining p l.node (Some c) l.tries in
    let done = l.done ++ WasRefuted b r ∷ [] in
    let next = next_try p g limit ns v vs ts n c h head below in
    let level : IsLevel s (further l done bs) = refutes s l b r bs (stage_level s h.first l h.above h.stack) next refuted in
    let e = h.refuted_is in
    let f = refuted_one l.done (WasRefuted b r) in
    record {
      first = h.first;
      stage = further l done bs;
      above = h.above;
      stack = restack s h.first l h.above done bs h.stack level;
      begins = h.begins;
      told = h.told;
      here = record { round = h.here.round; chosen = h.here.chosen; tries = h.here.tries; node = h.here.node; left = refl };
      outer_are = restack_levels p limit h.first l h.above done bs h.stack level vs h.outer_are;
      refuted_is = omega arith;
      rows_are = more_rows ts t (outer_rows s h.first l h.above h.stack) (rows (suc (length h.above)) l.node (add l.done Ended)) (guess_row h.above l b (IsRefutedIn r)) h.rows_are row
          ∙ ap₂ (λ (us ws : List Row). us ++ ws) (sym (restack_rows s h.first l h.above done bs h.stack level)) (sym (rows_one (suc (length h.above)) l.node l.done (WasRefuted b r)));
    }

-- a guess that leaves ties
pub deeper_search : (p : Pair) (g : Graph) (limit : ℕ) (ns : List (ℕ × ℕ)) (v : Level) (vs : List Level) (ts : List Try) (n : ℕ) (c : Candidate) (t : Try) (d : Classes) (w : Level) (h : IsSearchOf p g limit ns v vs ts n)
    → (head : IsHead p h.stage.node v.last h.stage.tries c) → n < limit → AreSettled (guessed_web g (ns ++ (v.node, c.node) ∷ [])) d → IsLeastTied g d (left_of g) w.node → w.node < nodes_of g → w.last ≡ None
    → row_of t ≡ guess_row h.above h.stage head.right IsOpen
    → IsSearchOf p g limit (ns ++ (v.node, c.node) ∷ []) w (vs ++ tried_level v c (length ts) ∷ []) (ts ++ t ∷ []) n
deeper_search p g limit ns v vs ts n c t d w h head below settled least small last row =
    let s = setting_in p limit in
    let l = h.stage in
    let b = head.right in
    let bs = remaining p l.node (Some c) l.tries in
    let gs = guessed l.above l.node b in
    let next = next_try p g limit ns v vs ts n c h head below in
    let told = told_guess p g limit ns v vs ts n c h head in
    let stable : AreStableClasses p gs d = stable_classes p g (ns ++ (v.node, c.node) ∷ []) gs d told settled in
    let found = came_from p g w.node h.told.graph (below_node g w.node small) in
    let a = found.0 in
    let chosen : IsChosen (under (web_of p) gs) stable.round a = is_chosen p g gs d w.node a h.told.graph stable least (record { node = found.1; index = sym found.2 }) in
    let tries = candidates s (under (web_of p) gs) stable.round a in
    let stage : Stage = record { above = gs; node = a; tries = tries; start = used l; done = []; rest = tries } in
    let start : used stage ≡ used l = omega arith in
    let level : IsLevel s stage = λ u k. subst (λ (m : ℕ). IsSearch s gs a tries m u) start k in
    let under_l : IsUnder s l stage = record { right = b; rest = bs; next = next; round = stable.round; chosen = chosen; above = refl; tries = refl; start = refl } in
    let here : IsLevelOf p limit l (tried_level v c (length ts)) bs = record { round = h.here.round; chosen = h.here.chosen; tries = h.here.tries; node = h.here.node; left = refl } in
    let rows_l = rows (suc (length h.above)) l.node (add l.done Ended) in
    let outer_l = outer_rows s h.first l h.above h.stack in
    let e = h.refuted_is in
    record {
      first = h.first;
      stage = stage;
      above = l ∷ h.above;
      stack = (level, under_l, h.stack);
      begins = h.begins;
      told = told;
      here = record {
        round = stable.round;
        chosen = chosen;
        tries = refl;
        node = sym found.2;
        left = subst (λ (o : Option Candidate). tries ≡ remaining p a o tries) (sym last) (all_behind tries);
      };
      outer_are = (vs, tried_level v c (length ts), refl, here, sym (length-map ts row_of) ∙ ap length h.rows_are, h.outer_are);
      refuted_is = e ∙ sym start;
      rows_are = more_rows ts t outer_l rows_l (guess_row h.above l b IsOpen) h.rows_are row ∙ sym (append-nil (outer_l ++ (rows_l ++ guess_row h.above l b IsOpen ∷ [])));
    }

pub deeper_way : (p : Pair) (g : Graph) (s : Search) (c : Candidate) (h : IsGuessing p g s c) (t : Try) (x : ℕ) (w : Level) (number : ℕ) (vs : Vec Level Global) (ts : Vec Try Global)
    → IsPartition s.classes (left_of g) (nodes_of g) → AreSettled (guessed_web g s.guesses.items) s.classes → AreListsOf s.lists g s.classes → IsLeastTied g s.classes (left_of g) x → w.node ≡ x → w.last ≡ None
    → row_of t ≡ guess_row h.search.above h.search.stage h.head.right IsOpen
    → number ≡ length s.rows.items → vs.items ≡ s.outer.items ++ tried_level s.level c number ∷ [] → ts.items ≡ s.rows.items ++ t ∷ []
    → IsUnderWay p g (let u : Search = record { limit = s.limit; refuted = s.refuted; classes = s.classes; lists = s.lists; guesses = s.guesses; level = w; outer = vs; rows = ts } in u)
deeper_way p g s c h t x w number vs ts part settled ties least ew last row en evs et =
    let inside = part.inside in
    let low = least.below in
    let small : w.node < nodes_of g = omega arith in
    let next : IsSearchOf p g s.limit (h.before ++ (s.level.node, c.node) ∷ []) w (s.outer.items ++ tried_level s.level c (length s.rows.items) ∷ []) (s.rows.items ++ t ∷ []) s.refuted
    = deeper_search p g s.limit h.before s.level s.outer.items s.rows.items s.refuted c t s.classes w h.search h.head h.below
    (subst (λ (ns : List (ℕ × ℕ)). AreSettled (guessed_web g ns) s.classes) h.guesses_are settled)
    (subst (λ (y : ℕ). IsLeastTied g s.classes (left_of g) y) (sym ew) least) small last row in
    let below = h.below in
    let ev : vs.items ≡ s.outer.items ++ tried_level s.level c (length s.rows.items) ∷ [] = evs ∙ ap (λ (m : ℕ). s.outer.items ++ tried_level s.level c m ∷ []) en in
    record {
      search = subst (λ (us : List Try). IsSearchOf p g s.limit s.guesses.items w vs.items us s.refuted) (sym et)
          (subst (λ (us : List Level). IsSearchOf p g s.limit s.guesses.items w us (s.rows.items ++ t ∷ []) s.refuted) (sym ev)
          (subst (λ (ns : List (ℕ × ℕ)). IsSearchOf p g s.limit ns w (s.outer.items ++ tried_level s.level c (length s.rows.items) ∷ []) (s.rows.items ++ t ∷ []) s.refuted) (sym h.guesses_are) next));
      partition = part;
      settled = settled;
      lists = ties;
      guesses = h.guesses;
      within = omega arith;
    }
