-- One strip more.
use Rattle.std.proofs.Common.{◌≡◌, ◌⊎◌, inl, inr, ℤ, pos, ◌-ℤ◌, ◌≤ℤ◌, ◌<ℤ◌, List, [], ◌∷◌, ◌++◌, Bool, true, false, ◌||◌, refl, sym, ap, ◌∙◌, subst, arith}
use Rattle.base_laws.proofs.Tests.{if_true, if_false}
use Rattle.std.proofs.lemmas.Int.{ints, by_lt_z}
use Rattle.std.proofs.lemmas.Bool.{false≢true, cases_Bool, and_from, or_left, or_right}
use Rattle.std.proofs.lemmas.Bool.Decides.{Decides-int_eq}
use Rattle.std.specs.Ordering.{int_eq}
use Rattle.geo_base.specs.Rects.{is_between, has}
use Rattle.rect_sets.specs.Spans.{covers as covers_number, is_inside, AreApart}
use Rattle.rect_sets.specs.Rects.{IsRun, IsBlock, IsListed}
use Rattle.rect_sets.specs.Opens.{rect_of, fresh, span_of, spans_of, is_same, found, nexts, is_among, ended}
use Rattle.rect_sets.specs.Sweeps.{IsIn, IsAmong, IsRowOf, IsStrip, IsOpenRun, OpenHas, ListHas, Swept}
use Rattle.rect_sets.proofs.Joining.{same_from}
use Rattle.rect_sets.proofs.OneRow.{in_to_run, run_to_in, in_right}
use Rattle.rect_sets.specs.declared.row.Span.{Span}
use Rattle.geo_base.specs.declared.shapes.Rect.{Rect}
use Rattle.geo_base.specs.declared.shapes.Square.{Square}
use Rattle.rect_sets.specs.declared.opens.Open.{Open}

-- tests

span_from_same : (o : Open) (s : Span) → is_same o s ≡ true → span_of o ≡ s
span_from_same o s h =
    let e = same_from o s h in
    ap (λ (a : ℤ). let r : Span = record { x1 = a; x2 = o.x2 } in r) e.0 ∙ ap (λ (b : ℤ). let r : Span = record { x1 = s.x1; x2 = b } in r) e.1

same_itself : (o : Open) → is_same o (span_of o) ≡ true
same_itself o = and_from (int_eq o.x1 o.x1) (int_eq o.x2 o.x2) ((Decides-int_eq o.x1 o.x1).1 refl) ((Decides-int_eq o.x2 o.x2).1 refl)

same_from_span : (o : Open) (s : Span) → span_of o ≡ s → is_same o s ≡ true
same_from_span o s e = subst (λ (q : Span). is_same o q ≡ true) e (same_itself o)

in_from_among : (o : Open) (runs : List Span) → is_among o runs ≡ true → IsIn (span_of o) runs
in_from_among o [] e = false≢true e
in_from_among o (s ∷ runs) e = elim (cases_Bool (is_same o s)) [
  | inl t ↦ inl (span_from_same o s t)
  | inr f ↦ inr (in_from_among o runs (sym (ap (λ b. b || is_among o runs) f) ∙ e))
]

among_from_in : (o : Open) (runs : List Span) → IsIn (span_of o) runs → is_among o runs ≡ true
among_from_in o [] h = absurd h
among_from_in o (s ∷ runs) (inl e) = or_left (is_same o s) (is_among o runs) (same_from_span o s e)
among_from_in o (s ∷ runs) (inr h) = or_right (is_same o s) (is_among o runs) (among_from_in o runs h)

-- what a run finds

abbrev Finds : ℤ → List Open → Span → Type 0
Finds y opens s = (IsAmong (found y opens s) opens × (is_same (found y opens s) s ≡ true)) ⊎ ((found y opens s ≡ fresh y s) × ((o : Open) → IsAmong o opens → is_same o s ≡ false))

not_first : (o p : Open) (s : Span) (opens : List Open) → is_same p s ≡ false → ((q : Open) → IsAmong q opens → is_same q s ≡ false) → IsAmong o (p ∷ opens) → is_same o s ≡ false
not_first o p s opens f g (inl e) = subst (λ (q : Open). is_same q s ≡ false) (sym e) f
not_first o p s opens f g (inr h) = g o h

finds : (y : ℤ) (opens : List Open) (s : Span) → Finds y opens s
finds y [] s = inr (refl, λ o h. absurd h)
finds y (o ∷ opens) s = elim (cases_Bool (is_same o s)) [
  | inl t ↦ (let e : found y (o ∷ opens) s ≡ o = if_true (is_same o s) o (found y opens s) t in
      inl (inl e, subst (λ (q : Open). is_same q s ≡ true) (sym e) t))
  | inr f ↦ (let e : found y (o ∷ opens) s ≡ found y opens s = if_false (is_same o s) o (found y opens s) f in
      elim (finds y opens s) [
        | inl g ↦ inl (inr (subst (λ (q : Open). IsAmong q opens) (sym e) g.0), subst (λ (q : Open). is_same q s ≡ true) (sym e) g.1)
        | inr g ↦ inr (e ∙ g.0, λ q h. not_first q o s opens f g.1 h)
      ])
]

span_of_found : (y : ℤ) (opens : List Open) (s : Span) → span_of (found y opens s) ≡ s
span_of_found y opens s = elim (finds y opens s) [
  | inl g ↦ span_from_same (found y opens s) s g.1
  | inr g ↦ ap span_of g.0
]

pub spans_of_nexts : (y : ℤ) (opens : List Open) (runs : List Span) → spans_of (nexts y opens runs) ≡ runs
spans_of_nexts y opens [] = refl
spans_of_nexts y opens (s ∷ runs) = ap (λ (q : Span). q ∷ spans_of (nexts y opens runs)) (span_of_found y opens s) ∙ ap (λ (q : List Span). s ∷ q) (spans_of_nexts y opens runs)

-- each of the next ones was found by a run
next_found : (y : ℤ) (opens : List Open) (runs : List Span) (o : Open) → IsAmong o (nexts y opens runs) → (s : Span) × IsIn s runs × (o ≡ found y opens s)
next_found y opens [] o h = absurd h
next_found y opens (s ∷ runs) o (inl e) = (s, inl refl, e)
next_found y opens (s ∷ runs) o (inr h) = let n = next_found y opens runs o h in (n.0, inr n.1, n.2)

found_next : (y : ℤ) (opens : List Open) (runs : List Span) (s : Span) → IsIn s runs → IsAmong (found y opens s) (nexts y opens runs)
found_next y opens [] s h = absurd h
found_next y opens (t ∷ runs) s (inl e) = inl (ap (found y opens) e)
found_next y opens (t ∷ runs) s (inr h) = inr (found_next y opens runs s h)

in_spans : (o : Open) (opens : List Open) → IsAmong o opens → IsIn (span_of o) (spans_of opens)
in_spans o [] h = absurd h
in_spans o (p ∷ opens) (inl e) = inl (ap span_of e)
in_spans o (p ∷ opens) (inr h) = inr (in_spans o opens h)

from_spans : (s : Span) (opens : List Open) → IsIn s (spans_of opens) → (o : Open) × IsAmong o opens × (span_of o ≡ s)
from_spans s [] h = absurd h
from_spans s (p ∷ opens) (inl e) = (p, inl refl, sym e)
from_spans s (p ∷ opens) (inr h) = let n = from_spans s opens h in (n.0, inr n.1, n.2)

-- open rectangles that are apart are told by where they begin
one_open : (from : ℤ) (o p : Open) (opens : List Open) → AreApart from (spans_of opens) → IsAmong o opens → IsAmong p opens → o.x1 ≡ p.x1 → o ≡ p
one_open from o p [] h a b e = absurd a
one_open from o p (q ∷ opens) h (inl a) (inl b) e = a ∙ sym b
one_open from o p (q ∷ opens) h (inl a) (inr b) e =
    let k = in_right q.x2 (span_of p) (spans_of opens) h.2 (in_spans p opens b) in let h1 = h.1 in let a1 = ap (λ (r : Open). r.x1) a in absurd (omega (arith, ints))
one_open from o p (q ∷ opens) h (inr a) (inl b) e =
    let k = in_right q.x2 (span_of o) (spans_of opens) h.2 (in_spans o opens a) in let h1 = h.1 in let b1 = ap (λ (r : Open). r.x1) b in absurd (omega (arith, ints))
one_open from o p (q ∷ opens) h (inr a) (inr b) e = one_open q.x2 o p opens h.2 a b e

-- what ended

ended_from : (y : ℤ) (opens : List Open) (runs : List Span) (r : Rect) → IsListed r (ended y opens runs) → (o : Open) × IsAmong o opens × (r ≡ rect_of y o) × (is_among o runs ≡ false)
ended_from y [] runs r h = absurd h
ended_from y (o ∷ opens) runs r h = elim (cases_Bool (is_among o runs)) [
  | inl t ↦ (let n = ended_from y opens runs r (subst (λ (q : List Rect). IsListed r q) (if_true (is_among o runs) (ended y opens runs) (rect_of y o ∷ ended y opens runs) t) h) in (n.0, inr n.1, n.2, n.3))
  | inr f ↦ (let g : IsListed r (rect_of y o ∷ ended y opens runs) = subst (λ (q : List Rect). IsListed r q) (if_false (is_among o runs) (ended y opens runs) (rect_of y o ∷ ended y opens runs) f) h in
      elim g [ inl e ↦ (o, inl refl, e, f) | inr k ↦ (let n = ended_from y opens runs r k in (n.0, inr n.1, n.2, n.3)) ])
]

ended_to : (y : ℤ) (opens : List Open) (runs : List Span) (o : Open) → IsAmong o opens → is_among o runs ≡ false → IsListed (rect_of y o) (ended y opens runs)
ended_to y [] runs o h f = absurd h
ended_to y (p ∷ opens) runs o (inl e) f =
    let f' : is_among p runs ≡ false = subst (λ (q : Open). is_among q runs ≡ false) e f in
    subst (λ (q : List Rect). IsListed (rect_of y o) q) (sym (if_false (is_among p runs) (ended y opens runs) (rect_of y p ∷ ended y opens runs) f')) (inl (ap (rect_of y) e))
ended_to y (p ∷ opens) runs o (inr h) f = elim (cases_Bool (is_among p runs)) [
  | inl t ↦ subst (λ (q : List Rect). IsListed (rect_of y o) q) (sym (if_true (is_among p runs) (ended y opens runs) (rect_of y p ∷ ended y opens runs) t)) (ended_to y opens runs o h f)
  | inr g ↦ subst (λ (q : List Rect). IsListed (rect_of y o) q) (sym (if_false (is_among p runs) (ended y opens runs) (rect_of y p ∷ ended y opens runs) g)) (inr (ended_to y opens runs o h f))
]

listed_either : (r : Rect) (xs ys : List Rect) → IsListed r (xs ++ ys) → IsListed r xs ⊎ IsListed r ys
listed_either r [] ys h = inr h
listed_either r (x ∷ xs) ys (inl e) = inl (inl e)
listed_either r (x ∷ xs) ys (inr h) = elim (listed_either r xs ys h) [ inl a ↦ inl (inr a) | inr b ↦ inr b ]

listed_first : (r : Rect) (xs ys : List Rect) → IsListed r xs → IsListed r (xs ++ ys)
listed_first r [] ys h = absurd h
listed_first r (x ∷ xs) ys (inl e) = inl e
listed_first r (x ∷ xs) ys (inr h) = inr (listed_first r xs ys h)

listed_second : (r : Rect) (xs ys : List Rect) → IsListed r ys → IsListed r (xs ++ ys)
listed_second r [] ys h = h
listed_second r (x ∷ xs) ys h = inr (listed_second r xs ys h)

-- the parts of the step

row_next : (set : Square → Bool) (y end : ℤ) (opens : List Open) (runs : List Span) → IsStrip set y end runs → IsRowOf set (end -ℤ pos 1) (spans_of (nexts y opens runs))
row_next set y end opens runs strip =
    let some = strip.some in
    subst (λ (q : List Span). IsRowOf set (end -ℤ pos 1) q) (sym (spans_of_nexts y opens runs)) (strip.rows (end -ℤ pos 1) (omega (arith, ints)) (omega (arith, ints)))

goes_on : (set : Square → Bool) (y end : ℤ) (o : Open) (runs : List Span) → IsStrip set y end runs → IsIn (span_of o) runs → IsOpenRun set y o → IsOpenRun set end o
goes_on set y end o runs strip listed h =
    let some = strip.some in let own = h.some in
    record {
      some = omega (arith, ints);
      rows = λ row low high. by_lt_z row y (λ lt. h.rows row low lt) (λ le. in_to_run set row runs (span_of o) (strip.rows row le high) listed);
      below = h.below;
    }

begins : (set : Square → Bool) (y end : ℤ) (opens : List Open) (s : Span) (runs : List Span) → IsStrip set y end runs → IsRowOf set (y -ℤ pos 1) (spans_of opens) → IsIn s runs → ((o : Open) → IsAmong o opens → is_same o s ≡ false) → IsOpenRun set end (fresh y s)
begins set y end opens s runs strip row listed none = record {
  some = strip.some;
  rows = λ r low high. in_to_run set r runs s (strip.rows r low high) listed;
  below = λ run.
      let n = from_spans s opens (run_to_in set (y -ℤ pos 1) (spans_of opens) s row run) in
      false≢true (sym (none n.0 n.1) ∙ same_from_span n.0 s n.2);
}

open_next : (set : Square → Bool) (y end : ℤ) (opens : List Open) (closed : List Rect) (runs : List Span) → Swept set y opens closed → IsStrip set y end runs → (o : Open) → IsAmong o (nexts y opens runs) → IsOpenRun set end o
open_next set y end opens closed runs h strip o g =
    let n = next_found y opens runs o g in
    subst (λ (q : Open). IsOpenRun set end q) (sym n.2) (elim (finds y opens n.0) [
      | inl f ↦ goes_on set y end (found y opens n.0) runs strip (subst (λ (q : Span). IsIn q runs) (sym (span_from_same (found y opens n.0) n.0 f.1)) n.1) (h.each_open (found y opens n.0) f.0)
      | inr f ↦ subst (λ (q : Open). IsOpenRun set end q) (sym f.0) (begins set y end opens n.0 runs strip h.row n.1 f.1)
    ])

block_ended : (set : Square → Bool) (y end : ℤ) (o : Open) (runs : List Span) → IsStrip set y end runs → IsOpenRun set y o → is_among o runs ≡ false → IsBlock set (rect_of y o)
block_ended set y end o runs strip h none =
    let some = strip.some in
    record {
      some = h.some;
      rows = h.rows;
      below = h.below;
      above = λ run. false≢true (sym none ∙ among_from_in o runs (run_to_in set y runs (span_of o) (strip.rows y (omega (arith, ints)) some) run));
    }

closed_next : (set : Square → Bool) (y end : ℤ) (opens : List Open) (closed : List Rect) (runs : List Span) → Swept set y opens closed → IsStrip set y end runs → (r : Rect) → IsListed r (closed ++ ended y opens runs) → IsBlock set r × (r.y2 <ℤ end)
closed_next set y end opens closed runs h strip r g =
    let some = strip.some in
    elim (listed_either r closed (ended y opens runs) g) [
      | inl a ↦ (let k = h.each_closed r a in let k1 = k.1 in (k.0, omega (arith, ints)))
      | inr b ↦ (let n = ended_from y opens runs r b in (
        subst (λ (q : Rect). IsBlock set q) (sym n.2) (block_ended set y end n.0 runs strip (h.each_open n.0 n.1) n.3),
        subst (λ (q : Rect). q.y2 <ℤ end) (sym n.2) some,
      ))
    ]

same_rect : (y : ℤ) (o : Open) (r : Rect) → o.x1 ≡ r.x1 → o.x2 ≡ r.x2 → o.y1 ≡ r.y1 → y ≡ r.y2 → rect_of y o ≡ r
same_rect y o r a b c d =
    ap (λ (v : ℤ). let q : Rect = record { x1 = v; y1 = o.y1; x2 = o.x2; y2 = y } in q) a ∙
    ap (λ (v : ℤ). let q : Rect = record { x1 = r.x1; y1 = o.y1; x2 = v; y2 = y } in q) b ∙
    ap (λ (v : ℤ). let q : Rect = record { x1 = r.x1; y1 = v; x2 = r.x2; y2 = y } in q) c ∙
    ap (λ (v : ℤ). let q : Rect = record { x1 = r.x1; y1 = r.y1; x2 = r.x2; y2 = v } in q) d

run_at_ends : (set : Square → Bool) (row a b c d : ℤ) → a ≡ c → b ≡ d → IsRun set row a b → IsRun set row c d
run_at_ends set row a b c d e f h = subst (λ (q : ℤ). IsRun set row q d) e (subst (λ (q : ℤ). IsRun set row a q) f h)

-- an open rectangle and a block of the same run that ends at y begin in one row
one_begin : (set : Square → Bool) (y : ℤ) (o : Open) (r : Rect) → IsOpenRun set y o → IsBlock set r → o.x1 ≡ r.x1 → o.x2 ≡ r.x2 → y ≡ r.y2 → o.y1 ≡ r.y1
one_begin set y o r h k a b d =
    let ho = h.some in let kr = k.some in
    by_lt_z o.y1 r.y1
    (λ lt. absurd (k.below (run_at_ends set (r.y1 -ℤ pos 1) o.x1 o.x2 r.x1 r.x2 a b (h.rows (r.y1 -ℤ pos 1) (omega (arith, ints)) (omega (arith, ints))))))
    (λ le. by_lt_z r.y1 o.y1
    (λ lt. absurd (h.below (run_at_ends set (o.y1 -ℤ pos 1) r.x1 r.x2 o.x1 o.x2 (sym a) (sym b) (k.rows (o.y1 -ℤ pos 1) (omega (arith, ints)) (omega (arith, ints))))))
    (λ le'. omega (arith, ints)))

ends_here : (set : Square → Bool) (y end : ℤ) (opens : List Open) (closed : List Rect) (runs : List Span) → Swept set y opens closed → IsStrip set y end runs → (r : Rect) → IsBlock set r → y ≡ r.y2 → IsListed r (ended y opens runs)
ends_here set y end opens closed runs h strip r k d =
    let some = strip.some in let kr = k.some in
    let s : Span = record { x1 = r.x1; x2 = r.x2 } in
    let n = from_spans s opens (run_to_in set (y -ℤ pos 1) (spans_of opens) s h.row (k.rows (y -ℤ pos 1) (omega (arith, ints)) (omega (arith, ints)))) in
    let a : n.0.x1 ≡ r.x1 = ap (λ (q : Span). q.x1) n.2 in
    let b : n.0.x2 ≡ r.x2 = ap (λ (q : Span). q.x2) n.2 in
    let c : n.0.y1 ≡ r.y1 = one_begin set y n.0 r (h.each_open n.0 n.1) k a b d in
    subst (λ (q : Rect). IsListed q (ended y opens runs)) (same_rect y n.0 r a b c d)
    (elim (cases_Bool (is_among n.0 runs)) [
      | inl t ↦ absurd (k.above (subst (λ (q : ℤ). IsRun set q r.x1 r.x2) d (run_at_ends set y n.0.x1 n.0.x2 r.x1 r.x2 a b (in_to_run set y runs (span_of n.0) (strip.rows y (omega (arith, ints)) some) (in_from_among n.0 runs t)))))
      | inr f ↦ ended_to y opens runs n.0 n.1 f
    ])

all_next : (set : Square → Bool) (y end : ℤ) (opens : List Open) (closed : List Rect) (runs : List Span) → Swept set y opens closed → IsStrip set y end runs → (r : Rect) → IsBlock set r → r.y2 <ℤ end → IsListed r (closed ++ ended y opens runs)
all_next set y end opens closed runs h strip r k lt =
    let kr = k.some in
    by_lt_z r.y2 y
    (λ below. listed_first r closed (ended y opens runs) (h.all_closed r k below))
    (λ le. by_lt_z y r.y2
    (λ inner.
    let s : Span = record { x1 = r.x1; x2 = r.x2 } in
    let low : y ≤ℤ (r.y2 -ℤ pos 1) = omega (arith, ints) in
    let listed : IsIn s runs = run_to_in set (r.y2 -ℤ pos 1) runs s (strip.rows (r.y2 -ℤ pos 1) low (omega (arith, ints))) (k.rows (r.y2 -ℤ pos 1) (omega (arith, ints)) (omega (arith, ints))) in
    absurd (k.above (in_to_run set r.y2 runs s (strip.rows r.y2 le lt) listed)))
    (λ le'. let d : y ≡ r.y2 = omega (arith, ints) in listed_second r closed (ended y opens runs) (ends_here set y end opens closed runs h strip r k d)))

-- squares

true_from : (x : ℤ) (s : Span) → s.x1 ≤ℤ x → x <ℤ s.x2 → is_inside x s ≡ true
true_from x s h g = grind (arith, ints)

inside_of : (x : ℤ) (runs : List Span) → covers_number runs x ≡ true → (s : Span) × IsIn s runs × (s.x1 ≤ℤ x) × (x <ℤ s.x2)
inside_of x [] e = absurd (false≢true e)
inside_of x (s ∷ runs) e =
    by_lt_z x s.x1
    (λ lt. let n = inside_of x runs (sym (ap (λ b. b || covers_number runs x) (left x s lt)) ∙ e) in (n.0, inr n.1, n.2, n.3))
    (λ le. by_lt_z x s.x2
    (λ lt. (s, inl refl, le, lt))
    (λ ge. let n = inside_of x runs (sym (ap (λ b. b || covers_number runs x) (right x s ge)) ∙ e) in (n.0, inr n.1, n.2, n.3)))
  where
    left : (x : ℤ) (t : Span) → x <ℤ t.x1 → is_inside x t ≡ false
    left x t h = grind (arith, ints)

    right : (x : ℤ) (t : Span) → t.x2 ≤ℤ x → is_inside x t ≡ false
    right x t h = grind (arith, ints)

has_from : (r : Rect) (s : Square) → r.x1 ≤ℤ s.x → s.x <ℤ r.x2 → r.y1 ≤ℤ s.y → s.y <ℤ r.y2 → has r s ≡ true
has_from r s a b c d = and_from (is_between r.x1 s.x r.x2) (is_between r.y1 s.y r.y2) (between r.x1 s.x r.x2 a b) (between r.y1 s.y r.y2 c d)
  where
    between : (low x high : ℤ) → low ≤ℤ x → x <ℤ high → is_between low x high ≡ true
    between low x high h g = grind (arith, ints)

keeps : (y : ℤ) (opens : List Open) (closed : List Rect) (runs : List Span) (from : ℤ) (s : Square) → AreApart from (spans_of opens) → s.y <ℤ y → OpenHas opens s → OpenHas (nexts y opens runs) s ⊎ ListHas (closed ++ ended y opens runs) s
keeps y opens closed runs from s apart lt o = elim (cases_Bool (is_among o.one runs)) [
  | inl t ↦ (let listed : IsIn (span_of o.one) runs = in_from_among o.one runs t in
      let same : found y opens (span_of o.one) ≡ o.one = elim (finds y opens (span_of o.one)) [
        | inl f ↦ one_open from (found y opens (span_of o.one)) o.one opens apart f.0 o.among (ap (λ (q : Span). q.x1) (span_from_same (found y opens (span_of o.one)) (span_of o.one) f.1))
        | inr f ↦ absurd (false≢true (sym (f.1 o.one o.among) ∙ same_itself o.one))
      ] in
      inl (record { one = o.one; among = subst (λ (q : Open). IsAmong q (nexts y opens runs)) same (found_next y opens runs (span_of o.one) listed); left = o.left; right = o.right; from = o.from }))
  | inr f ↦ inr (record { one = rect_of y o.one; listed = listed_second (rect_of y o.one) closed (ended y opens runs) (ended_to y opens runs o.one o.among f); inside = has_from (rect_of y o.one) s o.left o.right o.from lt })
]

found_from : (set : Square → Bool) (y : ℤ) (opens : List Open) (closed : List Rect) (s : Span) → Swept set y opens closed → (found y opens s).y1 ≤ℤ y
found_from set y opens closed s h = elim (finds y opens s) [
  | inl f ↦ (let k = (h.each_open (found y opens s) f.0).some in omega (arith, ints))
  | inr f ↦ (let e : (found y opens s).y1 ≡ y = ap (λ (q : Open). q.y1) f.0 in omega (arith, ints))
]

begins_cover : (set : Square → Bool) (y : ℤ) (opens : List Open) (closed : List Rect) (runs : List Span) (s : Square) → Swept set y opens closed → covers_number runs s.x ≡ true → y ≤ℤ s.y → OpenHas (nexts y opens runs) s
begins_cover set y opens closed runs s h e le =
    let n = inside_of s.x runs e in
    let spans : span_of (found y opens n.0) ≡ n.0 = span_of_found y opens n.0 in
    let a : (found y opens n.0).x1 ≡ n.0.x1 = ap (λ (q : Span). q.x1) spans in
    let b : (found y opens n.0).x2 ≡ n.0.x2 = ap (λ (q : Span). q.x2) spans in
    let low = found_from set y opens closed n.0 h in
    let n2 = n.2 in let n3 = n.3 in
    record {
      one = found y opens n.0;
      among = found_next y opens runs n.0 n.1;
      left = omega (arith, ints);
      right = omega (arith, ints);
      from = omega (arith, ints);
    }

listed_more : (closed more : List Rect) (s : Square) → ListHas closed s → ListHas (closed ++ more) s
listed_more closed more s l = record { one = l.one; listed = listed_first l.one closed more l.listed; inside = l.inside }

covered_next : (set : Square → Bool) (y end : ℤ) (opens : List Open) (closed : List Rect) (runs : List Span) → Swept set y opens closed → IsStrip set y end runs → (s : Square) → set s ≡ true → s.y <ℤ end → OpenHas (nexts y opens runs) s ⊎ ListHas (closed ++ ended y opens runs) s
covered_next set y end opens closed runs h strip s e lt =
    by_lt_z s.y y
    (λ below. elim (h.covered s e below) [
      | inl o ↦ keeps y opens closed runs h.row.from s h.row.apart below o
      | inr l ↦ inr (listed_more closed (ended y opens runs) s l)
    ])
    (λ le. inl (begins_cover set y opens closed runs s h ((strip.rows s.y le lt).same s.x ∙ e) le))

pub swept_more : (set : Square → Bool) (y end : ℤ) (opens : List Open) (closed : List Rect) (runs : List Span) → Swept set y opens closed → IsStrip set y end runs → Swept set end (nexts y opens runs) (closed ++ ended y opens runs)
swept_more set y end opens closed runs h strip = record {
  row = row_next set y end opens runs strip;
  each_open = open_next set y end opens closed runs h strip;
  each_closed = closed_next set y end opens closed runs h strip;
  all_closed = all_next set y end opens closed runs h strip;
  covered = covered_next set y end opens closed runs h strip;
}
