-- Open rectangles against runs, both in order.
use Rattle.std.proofs.Common.{◌≡◌, ℕ, ℤ, ◌≤ℤ◌, ◌<ℤ◌, ◌≤◌, ◌<◌, ◌+◌, List, [], ◌∷◌, ◌++◌, true, false, ◌||◌, drop, length, refl, sym, ◌∙◌, ap, subst, arith, pos, if◌then◌else◌, append_assoc, inl, inr}
use Rattle.base_laws.proofs.Tests.{if_true, if_false}
use Rattle.std.proofs.lemmas.Int.{ints}
use Rattle.std.proofs.lemmas.List.{drop_more, drop_all}
use Rattle.std.proofs.lemmas.Bool.Decides.{Decides-int_eq}
use Rattle.std.proofs.lemmas.Bool.{cases_lt, false_from_ne_true}
use Rattle.std.specs.Ordering.{int_eq}
use Rattle.rect_sets.specs.Spans.{AreApart}
use Rattle.rect_sets.specs.Opens.{rect_of, fresh, span_of, spans_of, is_same, found, nexts, is_among, ended, open_at, run_at, ArePartsApart, Advances, StepSoFar}
use Rattle.rect_sets.specs.declared.row.Span.{Span}
use Rattle.geo_base.specs.declared.shapes.Rect.{Rect}
use Rattle.rect_sets.specs.declared.opens.Open.{Open}

-- tests

pub same_from : (o : Open) (s : Span) → is_same o s ≡ true → (o.x1 ≡ s.x1) × (o.x2 ≡ s.x2)
same_from o s h =
    let first : int_eq o.x1 s.x1 ≡ true = grind arith in
    let second : int_eq o.x2 s.x2 ≡ true = grind arith in
    ((Decides-int_eq o.x1 s.x1).0 first, (Decides-int_eq o.x2 s.x2).0 second)

pub not_same : (o : Open) (s : Span) → ((o.x1 ≡ s.x1) → ⊥) → is_same o s ≡ false
not_same o s h = false_from_ne_true (is_same o s) (λ e. h (same_from o s e).0)

-- an open rectangle left of all runs

skip_open : (y from : ℤ) (o : Open) (os : List Open) (rs : List Span) → AreApart from rs → o.x1 ≤ℤ from → nexts y (o ∷ os) rs ≡ nexts y os rs
skip_open y from o os [] h le = refl
skip_open y from o os (s ∷ rs) h le =
    let other : is_same o s ≡ false = not_same o s (λ e. let h0 = h.0 in omega (arith, ints)) in
    let one : found y (o ∷ os) s ≡ found y os s = if_false (is_same o s) o (found y os s) other in
    let rest : nexts y (o ∷ os) rs ≡ nexts y os rs = skip_open y s.x2 o os rs h.2 (let h0 = h.0 in let h1 = h.1 in omega (arith, ints)) in
    ap (λ (q : Open). q ∷ nexts y (o ∷ os) rs) one ∙ ap (λ (qs : List Open). found y os s ∷ qs) rest

not_among : (from : ℤ) (o : Open) (rs : List Span) → AreApart from rs → o.x1 ≤ℤ from → is_among o rs ≡ false
not_among from o [] h le = refl
not_among from o (s ∷ rs) h le =
    let other : is_same o s ≡ false = not_same o s (λ e. let h0 = h.0 in omega (arith, ints)) in
    let rest : is_among o rs ≡ false = not_among s.x2 o rs h.2 (let h0 = h.0 in let h1 = h.1 in omega (arith, ints)) in
    ap (λ b. b || is_among o rs) other ∙ rest

-- a run left of all open rectangles

skip_run : (y from : ℤ) (s : Span) (os : List Open) (rs : List Span) → AreApart from (spans_of os) → s.x1 ≤ℤ from → ended y os (s ∷ rs) ≡ ended y os rs
skip_run y from s [] rs h le = refl
skip_run y from s (o ∷ os) rs h le =
    let other : is_same o s ≡ false = not_same o s (λ e. let h0 = h.0 in omega (arith, ints)) in
    let rest : ended y os (s ∷ rs) ≡ ended y os rs = skip_run y o.x2 s os rs h.2 (let h0 = h.0 in let h1 = h.1 in omega (arith, ints)) in
    ap (λ b. if (b || is_among o rs) then ended y os (s ∷ rs) else rect_of y o ∷ ended y os (s ∷ rs)) other ∙
    ap (λ (qs : List Rect). if is_among o rs then qs else rect_of y o ∷ qs) rest

not_found : (y from : ℤ) (s : Span) (os : List Open) → AreApart from (spans_of os) → s.x1 ≤ℤ from → found y os s ≡ fresh y s
not_found y from s [] h le = refl
not_found y from s (o ∷ os) h le =
    let other : is_same o s ≡ false = not_same o s (λ e. let h0 = h.0 in omega (arith, ints)) in
    if_false (is_same o s) o (found y os s) other ∙ not_found y o.x2 s os h.2 (let h0 = h.0 in let h1 = h.1 in omega (arith, ints))

-- the three turns, on lists

nexts_same : (y : ℤ) (f g : ℤ) (o : Open) (s : Span) (os : List Open) (rs : List Span) → is_same o s ≡ true → AreApart f (span_of o ∷ spans_of os) → AreApart g (s ∷ rs) → nexts y (o ∷ os) (s ∷ rs) ≡ o ∷ nexts y os rs
nexts_same y f g o s os rs e h k =
    let eq = (same_from o s e).0 in
    let k1 = k.1 in
    ap (λ (q : Open). q ∷ nexts y (o ∷ os) rs) (if_true (is_same o s) o (found y os s) e) ∙ ap (λ (qs : List Open). o ∷ qs) (skip_open y s.x2 o os rs k.2 (omega (arith, ints)))

ended_same : (y : ℤ) (f g : ℤ) (o : Open) (s : Span) (os : List Open) (rs : List Span) → is_same o s ≡ true → AreApart f (span_of o ∷ spans_of os) → AreApart g (s ∷ rs) → ended y (o ∷ os) (s ∷ rs) ≡ ended y os rs
ended_same y f g o s os rs e h k =
    let eq = (same_from o s e).0 in
    let h1 = h.1 in
    ap (λ b. if (b || is_among o rs) then ended y os (s ∷ rs) else rect_of y o ∷ ended y os (s ∷ rs)) e ∙ skip_run y o.x2 s os rs h.2 (omega (arith, ints))

nexts_close : (y g : ℤ) (o : Open) (s : Span) (os : List Open) (rs : List Span) → is_same o s ≡ false → o.x1 ≤ℤ s.x1 → AreApart g (s ∷ rs) → nexts y (o ∷ os) (s ∷ rs) ≡ nexts y os (s ∷ rs)
nexts_close y g o s os rs e le k =
    let k1 = k.1 in
    ap (λ (q : Open). q ∷ nexts y (o ∷ os) rs) (if_false (is_same o s) o (found y os s) e) ∙ ap (λ (qs : List Open). found y os s ∷ qs) (skip_open y s.x2 o os rs k.2 (omega (arith, ints)))

ended_close : (y g : ℤ) (o : Open) (s : Span) (os : List Open) (rs : List Span) → is_same o s ≡ false → o.x1 ≤ℤ s.x1 → AreApart g (s ∷ rs) → ended y (o ∷ os) (s ∷ rs) ≡ rect_of y o ∷ ended y os (s ∷ rs)
ended_close y g o s os rs e le k =
    let k1 = k.1 in
    let none : is_among o rs ≡ false = not_among s.x2 o rs k.2 (omega (arith, ints)) in
    if_false (is_among o (s ∷ rs)) _ _ (ap (λ b. b || is_among o rs) e ∙ none)

-- nothing open is at or left of the run
nexts_fresh : (y f : ℤ) (s : Span) (os : List Open) (rs : List Span) → AreApart f (spans_of os) → s.x1 ≤ℤ f → nexts y os (s ∷ rs) ≡ fresh y s ∷ nexts y os rs
nexts_fresh y f s os rs h le = ap (λ (q : Open). q ∷ nexts y os rs) (not_found y f s os h le)

-- the same at indices

zero_open : Open
zero_open = record { x1 = pos 0; x2 = pos 0; y1 = pos 0 }

cut_opens : (opens : List Open) (j : ℕ) → j < length opens → drop j opens ≡ open_at opens j ∷ drop (j + 1) opens
cut_opens opens j lt = drop_more opens j (record { x1 = pos 0; x2 = pos 0; y1 = pos 0 }) lt

cut_runs : (runs : List Span) (i : ℕ) → i < length runs → drop i runs ≡ run_at runs i ∷ drop (i + 1) runs
cut_runs runs i lt = drop_more runs i (record { x1 = pos 0; x2 = pos 0 }) lt

moved : (xs : List Open) (x : Open) (ys zs : List Open) → zs ≡ x ∷ ys → (xs ++ x ∷ []) ++ ys ≡ xs ++ zs
moved xs x ys zs e = append_assoc xs (x ∷ []) ys ∙ ap (λ (q : List Open). xs ++ q) (sym e)

moved_rect : (xs : List Rect) (x : Rect) (ys zs : List Rect) → zs ≡ x ∷ ys → (xs ++ x ∷ []) ++ ys ≡ xs ++ zs
moved_rect xs x ys zs e = append_assoc xs (x ∷ []) ys ∙ ap (λ (q : List Rect). xs ++ q) (sym e)

pub advance_same : (y : ℤ) (opens : List Open) (runs : List Span) (j i : ℕ) (next : List Open) (closed : List Rect) → j < length opens → i < length runs → is_same (open_at opens j) (run_at runs i) ≡ true → ArePartsApart opens j runs i → Advances y opens runs j (j + 1) i (i + 1) next (next ++ open_at opens j ∷ []) closed closed
advance_same y opens runs j i next closed jl il e h =
    let co = cut_opens opens j jl in
    let cr = cut_runs runs i il in
    let ho : AreApart h.opens_from (spans_of (open_at opens j ∷ drop (j + 1) opens)) = subst (λ (q : List Open). AreApart h.opens_from (spans_of q)) co h.opens_apart in
    let hr : AreApart h.runs_from (run_at runs i ∷ drop (i + 1) runs) = subst (λ (q : List Span). AreApart h.runs_from q) cr h.runs_apart in
    record {
      j_in = omega arith;
      i_in = omega arith;
      more = omega arith;
      apart = record { opens_from = (open_at opens j).x2; opens_apart = ho.2; runs_from = (run_at runs i).x2; runs_apart = hr.2 };
      next_same = moved next (open_at opens j) _ _ (ap (λ q. nexts y q (drop i runs)) co ∙ ap (λ q. nexts y (open_at opens j ∷ drop (j + 1) opens) q) cr ∙ nexts_same y h.opens_from h.runs_from (open_at opens j) (run_at runs i) (drop (j + 1) opens) (drop (i + 1) runs) e ho hr);
      closed_same = ap (λ (q : List Rect). closed ++ q) (sym (ap (λ q. ended y q (drop i runs)) co ∙ ap (λ q. ended y (open_at opens j ∷ drop (j + 1) opens) q) cr ∙ ended_same y h.opens_from h.runs_from (open_at opens j) (run_at runs i) (drop (j + 1) opens) (drop (i + 1) runs) e ho hr));
    }

pub advance_close : (y : ℤ) (opens : List Open) (runs : List Span) (j i : ℕ) (next : List Open) (closed : List Rect) → j < length opens → i < length runs → (open_at opens j).x1 ≤ℤ (run_at runs i).x1 → is_same (open_at opens j) (run_at runs i) ≡ false → ArePartsApart opens j runs i → Advances y opens runs j (j + 1) i i next next closed (closed ++ rect_of y (open_at opens j) ∷ [])
advance_close y opens runs j i next closed jl il le e h =
    let co = cut_opens opens j jl in
    let cr = cut_runs runs i il in
    let ho : AreApart h.opens_from (spans_of (open_at opens j ∷ drop (j + 1) opens)) = subst (λ (q : List Open). AreApart h.opens_from (spans_of q)) co h.opens_apart in
    let hr : AreApart h.runs_from (run_at runs i ∷ drop (i + 1) runs) = subst (λ (q : List Span). AreApart h.runs_from q) cr h.runs_apart in
    record {
      j_in = omega arith;
      i_in = omega arith;
      more = omega arith;
      apart = record { opens_from = (open_at opens j).x2; opens_apart = ho.2; runs_from = h.runs_from; runs_apart = h.runs_apart };
      next_same = ap (λ (q : List Open). next ++ q) (sym (ap (λ q. nexts y q (drop i runs)) co ∙ ap (λ q. nexts y (open_at opens j ∷ drop (j + 1) opens) q) cr ∙ nexts_close y h.runs_from (open_at opens j) (run_at runs i) (drop (j + 1) opens) (drop (i + 1) runs) e le hr ∙ ap (λ q. nexts y (drop (j + 1) opens) q) (sym cr)));
      closed_same = moved_rect closed (rect_of y (open_at opens j)) _ _ (ap (λ q. ended y q (drop i runs)) co ∙ ap (λ q. ended y (open_at opens j ∷ drop (j + 1) opens) q) cr ∙ ended_close y h.runs_from (open_at opens j) (run_at runs i) (drop (j + 1) opens) (drop (i + 1) runs) e le hr ∙ ap (λ q. rect_of y (open_at opens j) ∷ ended y (drop (j + 1) opens) q) (sym cr));
    }

pub advance_last : (y : ℤ) (opens : List Open) (runs : List Span) (j i : ℕ) (next : List Open) (closed : List Rect) → j < length opens → i ≡ length runs → ArePartsApart opens j runs i → Advances y opens runs j (j + 1) i i next next closed (closed ++ rect_of y (open_at opens j) ∷ [])
advance_last y opens runs j i next closed jl il h =
    let co = cut_opens opens j jl in
    let none : drop i runs ≡ [] = drop_all i runs (omega arith) in
    let ho : AreApart h.opens_from (spans_of (open_at opens j ∷ drop (j + 1) opens)) = subst (λ (q : List Open). AreApart h.opens_from (spans_of q)) co h.opens_apart in
    record {
      j_in = omega arith;
      i_in = omega arith;
      more = omega arith;
      apart = record { opens_from = (open_at opens j).x2; opens_apart = ho.2; runs_from = h.runs_from; runs_apart = h.runs_apart };
      next_same = ap (λ (q : List Open). next ++ q) (ap (λ q. nexts y (drop (j + 1) opens) q) none ∙ sym (ap (λ q. nexts y (drop j opens) q) none));
      closed_same = moved_rect closed (rect_of y (open_at opens j)) _ _ (ap (λ q. ended y q (drop i runs)) co ∙ ap (λ q. ended y (open_at opens j ∷ drop (j + 1) opens) q) none ∙ ap (λ q. rect_of y (open_at opens j) ∷ ended y (drop (j + 1) opens) q) (sym none));
    }

-- what is open begins right of the run
begins_right : (f : ℤ) (x : ℤ) (os : List Open) (o : Open) → AreApart f (spans_of (o ∷ os)) → x <ℤ o.x1 → AreApart x (spans_of (o ∷ os))
begins_right f x os o h lt = (lt, h.1, h.2)

pub advance_fresh : (y : ℤ) (opens : List Open) (runs : List Span) (j i : ℕ) (next : List Open) (closed : List Rect) → j ≤ length opens → i < length runs → AreApart (run_at runs i).x1 (spans_of (drop j opens)) → ArePartsApart opens j runs i → Advances y opens runs j j i (i + 1) next (next ++ fresh y (run_at runs i) ∷ []) closed closed
advance_fresh y opens runs j i next closed jl il right h =
    let cr = cut_runs runs i il in
    let hr : AreApart h.runs_from (run_at runs i ∷ drop (i + 1) runs) = subst (λ (q : List Span). AreApart h.runs_from q) cr h.runs_apart in
    record {
      j_in = jl;
      i_in = omega arith;
      more = omega arith;
      apart = record { opens_from = h.opens_from; opens_apart = h.opens_apart; runs_from = (run_at runs i).x2; runs_apart = hr.2 };
      next_same = moved next (fresh y (run_at runs i)) _ _ (ap (λ q. nexts y (drop j opens) q) cr ∙ nexts_fresh y (run_at runs i).x1 (run_at runs i) (drop j opens) (drop (i + 1) runs) right (omega (arith, ints)));
      closed_same = ap (λ (q : List Rect). closed ++ q) (sym (ap (λ q. ended y (drop j opens) q) cr ∙ skip_run y (run_at runs i).x1 (run_at runs i) (drop j opens) (drop (i + 1) runs) right (omega (arith, ints))));
    }

pub right_none : (opens : List Open) (j : ℕ) (x : ℤ) → length opens ≤ j → AreApart x (spans_of (drop j opens))
right_none opens j x le = subst (λ (q : List Open). AreApart x (spans_of q)) (sym (drop_all j opens le)) tt

pub right_some : (opens : List Open) (j : ℕ) (f x : ℤ) → j < length opens → AreApart f (spans_of (drop j opens)) → x <ℤ (open_at opens j).x1 → AreApart x (spans_of (drop j opens))
right_some opens j f x lt h right =
    let co = cut_opens opens j lt in
    let ho = subst (λ (q : List Open). AreApart f (spans_of q)) co h in
    subst (λ (q : List Open). AreApart x (spans_of q)) (sym co) (begins_right f x (drop (j + 1) opens) (open_at opens j) ho right)

pub step_none : (y : ℤ) (opens : List Open) (runs : List Span) (f g : ℤ) (before : List Rect) → AreApart f (spans_of opens) → AreApart g runs → StepSoFar y opens runs 0 0 [] before before
step_none y opens runs f g before h k = record {
  j_in = omega arith;
  i_in = omega arith;
  apart = record { opens_from = f; opens_apart = h; runs_from = g; runs_apart = k };
  next_same = refl;
  closed_same = refl;
}

pub step_more : (y : ℤ) (opens : List Open) (runs : List Span) (j i j' i' : ℕ) (next next' : List Open) (before closed closed' : List Rect) → StepSoFar y opens runs j i next before closed → Advances y opens runs j j' i i' next next' closed closed' → StepSoFar y opens runs j' i' next' before closed'
step_more y opens runs j i j' i' next next' before closed closed' h a = record {
  j_in = a.j_in;
  i_in = a.i_in;
  apart = a.apart;
  next_same = a.next_same ∙ h.next_same;
  closed_same = a.closed_same ∙ h.closed_same;
}

open_none : (xs : List Open) → xs ++ [] ≡ xs
open_none [] = refl
open_none (x ∷ xs) = ap (λ (q : List Open). x ∷ q) (open_none xs)

rect_none : (xs : List Rect) → xs ++ [] ≡ xs
rect_none [] = refl
rect_none (x ∷ xs) = ap (λ (q : List Rect). x ∷ q) (rect_none xs)

pub step_all : (y : ℤ) (opens : List Open) (runs : List Span) (j i : ℕ) (next : List Open) (before closed : List Rect) → length opens ≤ j → length runs ≤ i → StepSoFar y opens runs j i next before closed → (next ≡ nexts y opens runs) × (closed ≡ before ++ ended y opens runs)
step_all y opens runs j i next before closed jl il h =
    let no : drop j opens ≡ [] = drop_all j opens jl in
    let nr : drop i runs ≡ [] = drop_all i runs il in (
      sym (open_none next) ∙ ap (λ (q : List Span). next ++ nexts y (drop j opens) q) (sym nr) ∙ h.next_same,
      sym (rect_none closed) ∙ ap (λ (q : List Open). closed ++ ended y q (drop i runs)) (sym no) ∙ h.closed_same,
    )

pub advance_closed : (y : ℤ) (opens : List Open) (runs : List Span) (j i : ℕ) (next : List Open) (closed : List Rect) → i ≤ length runs → j < length opens → (i < length runs → ((open_at opens j).x1 ≤ℤ (run_at runs i).x1) × (is_same (open_at opens j) (run_at runs i) ≡ false)) → ArePartsApart opens j runs i → Advances y opens runs j (j + 1) i i next next closed (closed ++ rect_of y (open_at opens j) ∷ [])
advance_closed y opens runs j i next closed il jl f h =
    elim (cases_lt i (length runs)) [
      | inl lt ↦ advance_close y opens runs j i next closed jl lt (f lt).0 (f lt).1 h
      | inr le ↦ advance_last y opens runs j i next closed jl (omega arith) h
    ]

pub advance_freshly : (y : ℤ) (opens : List Open) (runs : List Span) (j i : ℕ) (next : List Open) (closed : List Rect) → j ≤ length opens → i < length runs → (j < length opens → (run_at runs i).x1 <ℤ (open_at opens j).x1) → ArePartsApart opens j runs i → Advances y opens runs j j i (i + 1) next (next ++ fresh y (run_at runs i) ∷ []) closed closed
advance_freshly y opens runs j i next closed jl il f h =
    elim (cases_lt j (length opens)) [
      | inl lt ↦ advance_fresh y opens runs j i next closed jl il (right_some opens j h.opens_from (run_at runs i).x1 lt h.opens_apart (f lt)) h
      | inr le ↦ advance_fresh y opens runs j i next closed jl il (right_none opens j (run_at runs i).x1 le) h
    ]
