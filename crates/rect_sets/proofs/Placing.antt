-- Active edges that are kept in place.
use Rattle.std.proofs.Common.{◌≡◌, ℕ, zero, suc, ℤ, pos, ◌+ℤ◌, ◌≤ℤ◌, ◌<ℤ◌, ◌<◌, ◌≤◌, ◌+◌, ◌-◌, List, [], ◌∷◌, Bool, true, false, drop, length, filter, insert, refl, sym, ◌∙◌, ap, subst, arith, if◌then◌else◌}
use Rattle.base_laws.proofs.Tests.{if_true, if_false, lt_to}
use Rattle.std.proofs.lemmas.Int.{ints, by_lt_z}
use Rattle.std.proofs.lemmas.Bool.{false≢true}
use Rattle.rect_sets.specs.Rows.{AreInOrder}
use Rattle.rect_sets.specs.Edges.{sum_where}
use Rattle.rect_sets.specs.Actives.{leftmost, edge_at, AreNext, HaveBegun, AreCrossing, Ignores, IsReady, Merged, goes_on, IsInserted, BeginSoFar}
use Rattle.rect_sets.specs.declared.row.Edge.{Edge}
use Rattle.rect_sets.proofs.Dividing.{lt_false}
use Rattle.rect_sets.proofs.Merging.{order_weaken, cut_edges, begins_at}

-- those that go on

kept_on : (y : ℤ) (e : Edge) (edges : List Edge) → y <ℤ e.y2 → filter (goes_on y) (e ∷ edges) ≡ e ∷ filter (goes_on y) edges
kept_on y e edges lt = if_true (goes_on y e) (e ∷ filter (goes_on y) edges) (filter (goes_on y) edges) (lt_to y e.y2 lt)

left_out : (y : ℤ) (e : Edge) (edges : List Edge) → e.y2 ≤ℤ y → filter (goes_on y) (e ∷ edges) ≡ filter (goes_on y) edges
left_out y e edges le = if_false (goes_on y e) (e ∷ filter (goes_on y) edges) (filter (goes_on y) edges) (lt_false y e.y2 le)

on_order : (y low : ℤ) (edges : List Edge) → AreInOrder low edges → AreInOrder low (filter (goes_on y) edges)
on_order y low [] h = tt
on_order y low (e ∷ edges) h = by_lt_z y e.y2
    (λ lt. subst (λ (q : List Edge). AreInOrder low q) (sym (kept_on y e edges lt)) (h.0, on_order y e.x edges h.1))
    (λ le. subst (λ (q : List Edge). AreInOrder low q) (sym (left_out y e edges le)) (order_weaken low e.x (filter (goes_on y) edges) h.0 (on_order y e.x edges h.1)))

on_crossing : (y : ℤ) (edges : List Edge) → HaveBegun y edges → AreCrossing y (filter (goes_on y) edges)
on_crossing y [] h = tt
on_crossing y (e ∷ edges) h = by_lt_z y e.y2
    (λ lt. subst (λ (q : List Edge). AreCrossing y q) (sym (kept_on y e edges lt)) (h.0, lt, on_crossing y edges h.1))
    (λ le. subst (λ (q : List Edge). AreCrossing y q) (sym (left_out y e edges le)) (on_crossing y edges h.1))

on_sum : (y : ℤ) (test : Edge → Bool) (field : Edge → ℤ) (edges : List Edge) → Ignores y test → sum_where test field (filter (goes_on y) edges) ≡ sum_where test field edges
on_sum y test field [] h = refl
on_sum y test field (e ∷ edges) h = by_lt_z y e.y2
    (λ lt. ap (λ (q : List Edge). sum_where test field q) (kept_on y e edges lt) ∙ ap (λ (z : ℤ). (if test e then field e else pos 0) +ℤ z) (on_sum y test field edges h))
    (λ le. ap (λ (q : List Edge). sum_where test field q) (left_out y e edges le) ∙ on_sum y test field edges h ∙ none_added (test e) (field e) (sum_where test field edges) (h e le))
  where
    none_added : (b : Bool) (v s : ℤ) → b ≡ false → s ≡ (if b then v else pos 0) +ℤ s
    none_added true v s e = absurd (false≢true (sym e))
    none_added false v s e = omega (arith, ints)

-- one more

first_least : (low : ℤ) (edges : List Edge) (i : ℕ) → AreInOrder low edges → i < length edges → low ≤ℤ (edge_at edges i).x
first_least low [] i h lt = absurd (omega arith)
first_least low (e ∷ edges) zero h lt = h.0
first_least low (e ∷ edges) (suc i) h lt = let rest = first_least e.x edges i h.1 (omega arith) in let h0 = h.0 in omega (arith, ints)

above : (low : ℤ) (f : Edge) (edges : List Edge) (i : ℕ) (x : ℤ) → AreInOrder low (f ∷ edges) → i ≤ length edges → (edge_at (f ∷ edges) i).x ≤ℤ x → f.x ≤ℤ x
above low f edges zero x h le g = g
above low f edges (suc k) x h le g = let least = first_least f.x edges k h.1 (omega arith) in omega (arith, ints)

more_order : (low : ℤ) (edges : List Edge) (i : ℕ) (e : Edge) → AreInOrder low edges → i ≤ length edges → low ≤ℤ e.x → ((k : ℕ) → i ≡ suc k → (edge_at edges k).x ≤ℤ e.x) → (i < length edges → e.x ≤ℤ (edge_at edges i).x) → AreInOrder low (insert edges i e)
more_order low [] zero e h le first left right = (first, tt)
more_order low [] (suc i) e h le first left right = absurd (omega arith)
more_order low (f ∷ edges) zero e h le first left right = (first, (right (omega arith), h.1))
more_order low (f ∷ edges) (suc i) e h le first left right =
    (h.0, more_order f.x edges i e h.1 (omega arith) (above low f edges i e.x h (omega arith) (left i refl)) (λ k g. subst (λ (n : ℕ). (edge_at (f ∷ edges) n).x ≤ℤ e.x) g (left i refl)) (λ lt. right (omega arith)))

more_crossing : (y : ℤ) (edges : List Edge) (i : ℕ) (e : Edge) → AreCrossing y edges → i ≤ length edges → e.y1 ≤ℤ y → y <ℤ e.y2 → AreCrossing y (insert edges i e)
more_crossing y [] zero e h le a b = (a, b, tt)
more_crossing y [] (suc i) e h le a b = absurd (omega arith)
more_crossing y (f ∷ edges) zero e h le a b = (a, b, h)
more_crossing y (f ∷ edges) (suc i) e h le a b = (h.0, h.1, more_crossing y edges i e h.2 (omega arith) a b)

swap_sum : (a b s : ℤ) → a +ℤ (b +ℤ s) ≡ b +ℤ (a +ℤ s)
swap_sum a b s = omega (arith, ints)

more_sum : (test : Edge → Bool) (field : Edge → ℤ) (edges : List Edge) (i : ℕ) (e : Edge) → i ≤ length edges → sum_where test field (insert edges i e) ≡ (if test e then field e else pos 0) +ℤ sum_where test field edges
more_sum test field [] zero e le = refl
more_sum test field [] (suc i) e le = absurd (omega arith)
more_sum test field (f ∷ edges) zero e le = refl
more_sum test field (f ∷ edges) (suc i) e le =
    ap (λ (z : ℤ). (if test f then field f else pos 0) +ℤ z) (more_sum test field edges i e (omega arith)) ∙ swap_sum (if test f then field f else pos 0) (if test e then field e else pos 0) (sum_where test field edges)

-- all that begin

pub begin_none : (y : ℤ) (active edges : List Edge) (at : ℕ) (left : List Edge) → IsReady y active edges at → left ≡ filter (goes_on y) active → BeginSoFar y active edges at left at
begin_none y active edges at left h e = subst (λ (q : List Edge). BeginSoFar y active edges at q at) (sym e) (record {
  at_in = h.at_in;
  order = on_order y leftmost active h.order;
  crossing = on_crossing y active h.begun;
  low = leftmost;
  next = h.next;
  sums = λ test field ignores. ap (λ (z : ℤ). z +ℤ sum_where test field (drop at edges)) (on_sum y test field active ignores);
})

moved_sum : (v a s t w : ℤ) → t ≡ v +ℤ s → (a +ℤ t) ≡ w → ((v +ℤ a) +ℤ s) ≡ w
moved_sum v a s t w e g = omega (arith, ints)

pub begin_more : (y : ℤ) (before edges : List Edge) (from : ℕ) (active : List Edge) (at : ℕ) (new : List Edge) → BeginSoFar y before edges from active at → at < length edges → (edge_at edges at).y1 ≤ℤ y → IsInserted active new (edge_at edges at) → BeginSoFar y before edges from new (at + 1)
begin_more y before edges from active at new h lt le p =
    let e : Edge = edge_at edges at in
    let cut = cut_edges edges at lt in
    let next = subst (λ (q : List Edge). AreNext y h.low q) cut h.next in
    let begins = begins_at y h.low (edge_at edges at) le next.0 in
    let same : y ≡ (edge_at edges at).y1 = begins.0 in
    let long : (edge_at edges at).y1 <ℤ (edge_at edges at).y2 = next.2 in
    let left : (k : ℕ) → p.place ≡ suc k → (edge_at active k).x ≤ℤ (edge_at edges at).x = λ k g.
    let one : p.place - 1 ≡ k = omega arith in
    subst (λ (n : ℕ). (edge_at active n).x ≤ℤ (edge_at edges at).x) one (p.is.left (omega arith)) in
    subst (λ (q : List Edge). BeginSoFar y before edges from q (at + 1)) (sym p.new_are) (record {
      at_in = omega arith;
      order = more_order leftmost active p.place (edge_at edges at) h.order p.is.place_in next.1 left p.is.right;
      crossing = more_crossing y active p.place (edge_at edges at) h.crossing p.is.place_in le (omega (arith, ints));
      low = (edge_at edges at).x;
      next = subst (λ (z : ℤ). AreNext z (edge_at edges at).x (drop (at + 1) edges)) (sym same) next.3;
      sums = λ test field ignores.
          ap (λ (z : ℤ). z +ℤ sum_where test field (drop (at + 1) edges)) (more_sum test field active p.place (edge_at edges at) p.is.place_in) ∙
          moved_sum (if test (edge_at edges at) then field (edge_at edges at) else pos 0) (sum_where test field active) (sum_where test field (drop (at + 1) edges)) (sum_where test field (drop at edges)) _
          (ap (λ (q : List Edge). sum_where test field q) cut) (h.sums test field ignores);
    })

pub begin_all : (y : ℤ) (before edges : List Edge) (from : ℕ) (active : List Edge) (at : ℕ) → BeginSoFar y before edges from active at → (at < length edges → y <ℤ (edge_at edges at).y1) → Merged y before edges from at active
begin_all y before edges from active at h later = record {
  at_in = h.at_in;
  order = h.order;
  crossing = h.crossing;
  low = h.low;
  next = h.next;
  later = later;
  sums = h.sums;
}
