-- A search that goes back to the level above.
use Rattle.std.proofs.Common.{◌≡◌, ℕ, suc, ◌+◌, ◌<◌, List, [], ◌∷◌, ◌++◌, map, length, take, slice_index_or, slice_set, sym, subst, ◌∙◌, ap, ap₂, arith, append_assoc}
use Rattle.std.specs.Prelude.{Vec, drop}
use Rattle.std.specs.Vec.{with_item}
use Rattle.std.specs.Global.{Global}
use Rattle.std.proofs.lemmas.List.{length-append, length-map, map-set, append-nil, take-append-drop}
use Rattle.std.proofs.Math.ListN.{get_or-map}
use Rattle.std.proofs.Math.Seq.{set-append_seam, get_or-append_seam}
use Rattle.round_laws.specs.Web.{Guess}
use Rattle.round_laws.specs.Nodes.{Node}
use Rattle.round_laws.specs.Guesses.{Ended, Row, IsBelow, IsOpen, rows, guessed}
use Rattle.round_laws.specs.Stack.{WasBelow, add, Level as Stage, used, IsLevel, IsUnder, IsStack, outer_rows}
use Rattle.round_laws.proofs.Stack.{passes}
use Rattle.match_laws.specs.Circuits.{Pair}
use Rattle.match_types.specs.declared.answer.Guess.{Guess as Try}
use Rattle.match_types.specs.declared.answer.GuessEnd.TheVariants as end
use Rattle.match_types.specs.Plain.{row_of}
use Rattle.match_graph.specs.declared.graph.Graph.{Graph}
use Rattle.match_graph.specs.Graph.{left_of, nodes_of}
use Rattle.match_rounds.specs.declared.classes.Classes.{Classes}
use Rattle.match_rounds.specs.Classes.{IsPartition}
use Rattle.match_rounds.specs.Refined.{AreSettled}
use Rattle.match_rounds.specs.Start.{AreGuesses, guessed_web}
use Rattle.refine_match.specs.declared.searching.Level.{Level}
use Rattle.refine_match.specs.declared.searching.Search.{Search}
use Rattle.refine_match.specs.declared.lists.Lists.{Lists}
use Rattle.refine_match.specs.Rights.{AreListsOf}
use Rattle.refine_match.specs.Classes.{AreTold}
use Rattle.refine_match.specs.Searching.{setting_in, AreOuterOf, HasEvenEnd, IsFirstOf, IsLevelOf, IsSearchOf, IsUnderWay, guess_row, rows_so_far}
use Rattle.refine_match.proofs.Told.{cut_last, even_end, fewer_guesses, no_last, told_less}
use Rattle.refine_match.proofs.Stages.{further, guess_count, level_count, restack, restack_rows, restack_levels, stage_level, refuted_one, refuted_all, rows_one}

-- a guess below which each guess ended
abbrev pub ended_try : Try → Try
ended_try t = record { depth = t.depth; kind = t.kind; left = t.left; right = t.right; end = end.Below }

abbrev ended_row : Row → Row
ended_row r = record { depth = r.depth; left = r.left; right = r.right; outcome = IsBelow }

-- the row of an open guess
open_row : (ts : List Try) (t : Try) (xs ys : List Row) (r : Row) (i : ℕ) → map row_of ts ≡ xs ++ r ∷ ys → i ≡ length xs → t ≡ slice_index_or ts i t → row_of t ≡ r
open_row ts t xs ys r i e ei is =
    ap row_of is
    ∙ (sym (get_or-map row_of ts i t)
    ∙ (ap₂ (λ (us : List Row) (k : ℕ). slice_index_or us k (row_of t)) e ei ∙ get_or-append_seam xs r ys (row_of t)))

-- it ends
closed_rows : (ts : List Try) (t : Try) (xs ys : List Row) (r : Row) (i : ℕ) → map row_of ts ≡ xs ++ r ∷ ys → i ≡ length xs → t ≡ slice_index_or ts i t
    → map row_of (slice_set ts i (ended_try t)) ≡ xs ++ ended_row r ∷ ys
closed_rows ts t xs ys r i e ei is =
    map-set row_of ts i (ended_try t)
    ∙ (ap₂ (λ (us : List Row) (k : ℕ). slice_set us k (ended_row (row_of t))) e ei
    ∙ (set-append_seam xs r ys (ended_row (row_of t)) ∙ ap (λ (u : Row). xs ++ ended_row u ∷ ys) (open_row ts t xs ys r i e ei is)))

-- rows by levels, and the rows with one open guess amid
amid : (os xs : List Row) (r : Row) (ys : List Row) → (os ++ (xs ++ r ∷ [])) ++ ys ≡ (os ++ xs) ++ r ∷ ys
amid os xs r ys = ap (λ (us : List Row). us ++ ys) (sym (append_assoc os xs (r ∷ []))) ∙ append_assoc (os ++ xs) (r ∷ []) ys

rows_left : (os xs : List Row) (r : Row) (ys : List Row) → (os ++ xs) ++ r ∷ ys ≡ os ++ (xs ++ r ∷ (ys ++ []))
rows_left os xs r ys = append_assoc os xs (r ∷ ys) ∙ ap (λ (us : List Row). os ++ (xs ++ r ∷ us)) (sym (append-nil ys))

-- what holds where there is a level above
pub record IsLeaving (p : Pair) (g : Graph) (limit : ℕ) (ns : List (ℕ × ℕ)) (v : Level) (ws : List Level) (ts : List Try) (n : ℕ) (l : Stage) : Type 0 where
  pub even : HasEvenEnd (guessed_web g (take (length ws) ns))
  pub row : v.row < length ts
  pub left : l.rest ≡ [] → (t : Try) → t ≡ slice_index_or ts v.row t → IsSearchOf p g limit (take (length ws) ns) v ws (slice_set ts v.row (ended_try t)) n

pub leaves : (p : Pair) (g : Graph) (limit : ℕ) (ns : List (ℕ × ℕ)) (vs : List Level) (ts : List Try) (n : ℕ) (first l : Stage) (above : List Stage) (stack : IsStack (setting_in p limit) first l above)
    → IsFirstOf p limit first → AreTold p g ns l.above → AreOuterOf p limit first l above stack vs → n ≡ used l → map row_of ts ≡ rows_so_far (setting_in p limit) first l above stack
    → (ws : List Level) (v : Level) → vs ≡ ws ++ v ∷ [] → IsLeaving p g limit ns v ws ts n l
leaves p g limit ns vs ts n first l [] stack begins told outer used_is rows_are ws v e = absurd (no_last ws v (sym outer ∙ e))
leaves p g limit ns vs ts n first l (o ∷ os) stack begins told outer used_is rows_are ws v e =
    let s = setting_in p limit in
    let u : IsUnder s o l = stack.1 in
    let same = cut_last ws outer.0 v outer.1 (sym e ∙ outer.2) in
    let above_are : AreOuterOf p limit first o os stack.2 ws = subst (λ (xs : List Level). AreOuterOf p limit first o os stack.2 xs) (sym same.0) outer.5 in
    let level : IsLevelOf p limit o v u.rest = subst (λ (x : Level). IsLevelOf p limit o x u.rest) (sym same.1) outer.3 in
    let row_is : v.row ≡ length (rows_so_far s first o os stack.2) = ap (λ (x : Level). x.row) same.1 ∙ outer.4 in
    let count : length ws ≡ length o.above = level_count p limit first o os stack.2 ws above_are ∙ sym (guess_count s first o os stack.2 begins.above) in
    let all : AreTold p g ns (guessed o.above o.node u.right) = subst (λ (gs : List (Guess Node)). AreTold p g ns gs) u.above told in
    let less : AreTold p g (take (length ws) ns) o.above = told_less p g ns o.above o.node u.right (length ws) all count in
    let here_rows = rows (suc (length os)) o.node (add o.done Ended) in
    let outer_o = outer_rows s first o os stack.2 in
    let opened : Row = guess_row os o u.right IsOpen in
    let below_rows = rows (suc (suc (length os))) l.node (add l.done Ended) in
    let split : map row_of ts ≡ (outer_o ++ here_rows) ++ opened ∷ below_rows = rows_are ∙ amid outer_o here_rows opened below_rows in
    let long : length ts ≡ length (outer_o ++ here_rows) + suc (length below_rows)
    = sym (length-map ts row_of) ∙ (ap length split ∙ length-append (outer_o ++ here_rows) (opened ∷ below_rows)) in
    record {
      even = even_end p g (take (length ws) ns) o.above level.round less level.chosen.stable (level.chosen.even level.round (omega arith));
      row = omega arith;
      left = λ none t is.
          let done = o.done ++ WasBelow u.right l.node (add l.done Ended) ∷ [] in
          let next : IsLevel s (further o done u.rest) = passes s o l u (stage_level s first o os stack.2) stack.0 none in
          let f = refuted_one o.done (WasBelow u.right l.node (add l.done Ended)) in
          let k = refuted_all l.done in
          let start = u.start in
          record {
            first = first;
            stage = further o done u.rest;
            above = os;
            stack = restack s first o os done u.rest stack.2 next;
            begins = begins;
            told = less;
            here = record { round = level.round; chosen = level.chosen; tries = level.tries; node = level.node; left = level.left };
            outer_are = restack_levels p limit first o os done u.rest stack.2 next ws above_are;
            refuted_is = omega arith;
            rows_are = closed_rows ts t (outer_o ++ here_rows) below_rows opened v.row split row_is is
                ∙ (rows_left outer_o here_rows (guess_row os o u.right IsBelow) below_rows
                ∙ ap₂ (λ (xs ys : List Row). xs ++ ys) (sym (restack_rows s first o os done u.rest stack.2 next)) (sym (rows_one (suc (length os)) o.node o.done (WasBelow u.right l.node (add l.done Ended)))));
          };
    }

pub leaving : (p : Pair) (g : Graph) (s : Search) → (way : IsUnderWay p g s) → (ws : List Level) (v : Level) → s.outer.items ≡ ws ++ v ∷ []
    → IsLeaving p g s.limit s.guesses.items v ws s.rows.items s.refuted way.search.stage
leaving p g s way ws v e =
    let h = way.search in
    leaves p g s.limit s.guesses.items s.outer.items s.rows.items s.refuted h.first h.stage h.above h.stack h.begins h.told h.outer_are h.refuted_is h.rows_are ws v e

pub has_row : (p : Pair) (g : Graph) (s : Search) → IsUnderWay p g s → (ws : List Level) (v : Level) → s.outer.items ≡ ws ++ v ∷ [] → v.row < length s.rows.items
has_row p g s way ws v e = (leaving p g s way ws v e).row

pub has_even : (p : Pair) (g : Graph) (s : Search) → IsUnderWay p g s → (ws : Vec Level Global) (v : Level) (k : ℕ) (ms : List (ℕ × ℕ)) → s.outer.items ≡ ws.items ++ v ∷ [] → k ≡ ws.len → ms ≡ take k s.guesses.items
    → HasEvenEnd (guessed_web g ms)
has_even p g s way ws v k ms e ek em =
    subst (λ (us : List (ℕ × ℕ)). HasEvenEnd (guessed_web g us)) (sym (em ∙ ap (λ (i : ℕ). take i s.guesses.items) (ek ∙ ws.ok.0))) (leaving p g s way ws.items v e).even

pub left_way : (p : Pair) (g : Graph) (s : Search) → (way : IsUnderWay p g s) → (ws : Vec Level Global) (v : Level) (k : ℕ) (ms : Vec (ℕ × ℕ) Global) (d : Classes) (q : Lists) (t : Try) (shown : List (ℕ × ℕ))
    → s.outer.items ≡ ws.items ++ v ∷ [] → k ≡ ws.len → ms.items ≡ take k s.guesses.items → way.search.stage.rest ≡ [] → t ≡ slice_index_or s.rows.items v.row t
    → IsPartition d (left_of g) (nodes_of g) → AreSettled (guessed_web g shown) d → shown ≡ ms.items → AreListsOf q g d
    → IsUnderWay p g (let u : Search = record { limit = s.limit; refuted = s.refuted; classes = d; lists = q; guesses = ms; level = v; outer = ws; rows = with_item s.rows v.row (ended_try t) } in u)
left_way p g s way ws v k ms d q t shown e ek em none is part settled es ties =
    let are : ms.items ≡ take (length ws.items) s.guesses.items = em ∙ ap (λ (i : ℕ). take i s.guesses.items) (ek ∙ ws.ok.0) in
    let all : s.guesses.items ≡ ms.items ++ drop (length ws.items) s.guesses.items
    = sym (take-append-drop (length ws.items) s.guesses.items) ∙ ap (λ (us : List (ℕ × ℕ)). us ++ drop (length ws.items) s.guesses.items) (sym are) in
    record {
      search = subst (λ (us : List (ℕ × ℕ)). IsSearchOf p g s.limit us v ws.items (slice_set s.rows.items v.row (ended_try t)) s.refuted) (sym are) ((leaving p g s way ws.items v e).left none t is);
      partition = part;
      settled = subst (λ (us : List (ℕ × ℕ)). AreSettled (guessed_web g us) d) es settled;
      lists = ties;
      guesses = fewer_guesses g ms.items (drop (length ws.items) s.guesses.items) (subst (λ (us : List (ℕ × ℕ)). AreGuesses g us) all way.guesses);
      within = way.within;
    }
