-- Sets grown by how far names reach.
use Rattle.std.proofs.Common.{◌≡◌, ◌↔◌, inl, inr, ℕ, ◌+◌, ◌≤◌, ℤ, pos, ◌+ℤ◌, ◌-ℤ◌, Bool, true, false, not, ◌&&◌, ◌||◌, List, [], ◌∷◌, Some, refl, sym, ◌∙◌, ap, subst, arith}
use Rattle.base_laws.proofs.Tests.{same_truth}
use Rattle.std.proofs.lemmas.Bool.{or_cases, or_left, or_right, and_parts, and_from}
use Rattle.std.specs.List.{All}
use Rattle.std.proofs.lemmas.Int.{ints}
use Rattle.std.proofs.lemmas.List.Elements.{All-nil, All-cons, All-head, All-tail}
use Rattle.geo_base.specs.Near.{IsWithin}
use Rattle.geo_base.specs.Rects.{has, IsRect, grown}
use Rattle.geo_base.specs.declared.shapes.Rect.{Rect}
use Rattle.geo_base.specs.declared.shapes.Square.{Square}
use Rattle.rect_sets.specs.Rects.{covers, IsCanonical}
use Rattle.rect_sets.proofs.Unique.{all_rects, rect_of}
use Rattle.flat_layout.specs.Plane.{AreWithin, IsReachedBy}
use Rattle.flat_laws.proofs.Moves.{within_back}
use Rattle.sized_layers.specs.Sizes.{IsSetWithin}
use Rattle.cell_graph.specs.Linked.{IsRectWithin}
use Rattle.cell_graph.proofs.Bridge.{has_in}
use Rattle.cell_graph.proofs.Growing.{grown_none, near_rect, within_rect}
use Rattle.layer_phase.specs.Around.{around}

-- rectangles that are grown cover what lies near them, and no more
pub near_covered : (n : ℕ) (zone : List Rect) (q s : Square) → covers zone s ≡ true → AreWithin n q s → covers (around n zone) q ≡ true
near_covered n [] q s e near = absurd (let f : false ≡ true = e in let z : ⊥ = cc in z)
near_covered n (r ∷ zone) q s e near = elim (or_cases (has r s) (covers zone s) e) [
  | inl h ↦ or_left (has (grown n r) q) (covers (around n zone) q) (within_rect n r q s h near)
  | inr h ↦ or_right (has (grown n r) q) (covers (around n zone) q) (near_covered n zone q s h near)
]

pub covered_near : (n : ℕ) (zone : List Rect) (q : Square) → All IsRect zone → covers (around n zone) q ≡ true → (s : Square) × (covers zone s ≡ true) × AreWithin n q s
covered_near n [] q some e = absurd (let f : false ≡ true = e in let z : ⊥ = cc in z)
covered_near n (r ∷ zone) q some e = elim (or_cases (has (grown n r) q) (covers (around n zone) q) e) [
  | inl h ↦ let s = near_rect n r q (All-head IsRect r zone some) h in (s.0, or_left (has r s.0) (covers zone s.0) s.1, s.2)
  | inr h ↦ let s = covered_near n zone q (All-tail IsRect r zone some) h in (s.0, or_right (has r s.0) (covers zone s.0) s.1, s.2)
]

pub rects_of : (zone : List Rect) → IsCanonical zone → All IsRect zone
rects_of zone h = all_rects zone (λ r i. rect_of _ r ((h.each r).0 i))

pub around_is : (n : ℕ) (zone : List Rect) (q : Square) → All IsRect zone → (covers (around n zone) q ≡ true) ↔ IsReachedBy n (λ s. covers zone s ≡ true) q
around_is n zone q some = (
  (λ e. let s = covered_near n zone q some e in record { square = s.0; within = within_back n q s.0 s.2; has = s.1 }),
  (λ h. near_covered n zone q h.square h.has (within_back n h.square q h.within)),
)

-- the set that was made so
pub of_size : (n : ℕ) (set r : List Rect) → All IsRect set → ((s : Square) → (covers r s ≡ true) ↔ IsReachedBy n (λ q. covers set q ≡ true) s) → (q : Square) → covers r q ≡ covers (around n set) q
of_size n set r some is q =
    let a = around_is n set q some in
    same_truth (covers r q) (covers (around n set) q) (λ e. a.1 ((is q).0 e)) (λ e. (is q).1 (a.0 e))

-- grown by nothing they are the set
pub around_none : (zone : List Rect) (q : Square) → covers (around 0 zone) q ≡ covers zone q
around_none [] q = refl
around_none (r ∷ zone) q =
    let one = grown_none (Some r) q in
    ap (λ b. b || covers (around 0 zone) q) (same_truth (has (grown 0 r) q) (has r q) one.0 one.1) ∙ ap (λ b. has r q || b) (around_none zone q)

-- within a window a set counts only near it
pub around_part : (n : ℕ) (zone there : List Rect) (w wide : Rect) (s : Square) → All IsRect zone → All IsRect there → wide ≡ grown n w → ((q : Square) → covers there q ≡ (covers zone q && has wide q)) → has w s ≡ true
    → covers (around n there) s ≡ covers (around n zone) s
around_part n zone there w wide s some parts is made h = same_truth (covers (around n there) s) (covers (around n zone) s)
    (λ e.
    let z = covered_near n there s parts e in
    near_covered n zone s z.0 ((and_parts (covers zone z.0) (has wide z.0) (sym (made z.0) ∙ z.1)).0) z.2)
    (λ e.
    let z = covered_near n zone s some e in
    let inside : has wide z.0 ≡ true = subst (λ r. has r z.0 ≡ true) (sym is) (within_rect n w z.0 s h (within_back n s z.0 z.2)) in
    near_covered n there s z.0 (made z.0 ∙ and_from (covers zone z.0) (has wide z.0) z.1 inside) z.2)

pub grown_rect : (n : ℕ) (r : Rect) → IsRect r → IsRect (grown n r)
grown_rect n r h = let w = h.wide in let u = h.high in record { wide = omega (arith, ints); high = omega (arith, ints) }

around_rects : (n : ℕ) (zone : List Rect) → All IsRect zone → All IsRect (around n zone)
around_rects n [] some = All-nil IsRect
around_rects n (r ∷ zone) some = All-cons IsRect (grown n r) (around n zone) (grown_rect n r (All-head IsRect r zone some)) (around_rects n zone (All-tail IsRect r zone some))

-- lists that cover the same squares do when grown
pub around_same : (n : ℕ) (a b : List Rect) (q : Square) → All IsRect a → All IsRect b → ((s : Square) → covers a s ≡ covers b s) → covers (around n a) q ≡ covers (around n b) q
around_same n a b q ra rb same = same_truth (covers (around n a) q) (covers (around n b) q)
    (λ e. let z = covered_near n a q ra e in near_covered n b q z.0 (sym (same z.0) ∙ z.1) z.2)
    (λ e. let z = covered_near n b q rb e in near_covered n a q z.0 (same z.0 ∙ z.1) z.2)

-- grown once more
pub none_twice : (n : ℕ) (set twice : List Rect) (q : Square) → n ≡ 0 → twice ≡ set → covers twice q ≡ covers (around n (around n set)) q
none_twice n set twice q e is = subst (λ m. covers twice q ≡ covers (around m (around m set)) q) (sym e) (ap (λ (l : List Rect). covers l q) is ∙ sym (around_none set q) ∙ sym (around_none (around 0 set) q))

pub around_twice : (n : ℕ) (set once twice : List Rect) (q : Square) → All IsRect set → All IsRect once → ((s : Square) → covers once s ≡ covers (around n set) s) → ((s : Square) → covers twice s ≡ covers (around n once) s)
    → covers twice q ≡ covers (around n (around n set)) q
around_twice n set once twice q rs ro first second = second q ∙ around_same n once (around n set) q ro (around_rects n set rs) first

-- what is cut off within a window
pub cut_same : (h a b : Bool) → (h ≡ true → a ≡ b) → (h && not a) ≡ (h && not b)
cut_same true a b e = ap (λ x. true && not x) (e refl)
cut_same false a b e = refl

-- a set that a rectangle holds lies as near as that
pub set_within : (m : ℕ) (w : Rect) (set : List Rect) → IsRectWithin m w → ((q : Square) → covers set q ≡ true → has w q ≡ true) → IsSetWithin m set
set_within m w set near h q e =
    let i = has_in w q (h q e) in let i0 = i.0 in let i1 = i.1 in let i2 = i.2 in let i3 = i.3 in
    let a = near.x1.low in let b = near.x2.high in let c = near.y1.low in let d = near.y2.high in
    record { left = omega (arith, ints); right = omega (arith, ints); low = omega (arith, ints); high = omega (arith, ints) }

pub wider_set : (m n : ℕ) (set : List Rect) → m ≤ n → IsSetWithin m set → IsSetWithin n set
wider_set m n set le h q e =
    let s = h q e in let a = s.left in let b = s.right in let c = s.low in let d = s.high in
    record { left = omega (arith, ints); right = omega (arith, ints); low = omega (arith, ints); high = omega (arith, ints) }

low_within : (m n k : ℕ) (z : ℤ) → m + n ≤ k → IsWithin m z → IsWithin k (z -ℤ pos n)
low_within m n k z le h = let l = h.low in let u = h.high in record { low = omega (arith, ints); high = omega (arith, ints) }

high_within : (m n k : ℕ) (z : ℤ) → m + n ≤ k → IsWithin m z → IsWithin k (z +ℤ pos n)
high_within m n k z le h = let l = h.low in let u = h.high in record { low = omega (arith, ints); high = omega (arith, ints) }

-- a grown rectangle reaches so much further out
pub grown_within : (m n k : ℕ) (r : Rect) → m + n ≤ k → IsRectWithin m r → IsRectWithin k (grown n r)
grown_within m n k r le h = record { x1 = low_within m n k r.x1 le h.x1; y1 = low_within m n k r.y1 le h.y1; x2 = high_within m n k r.x2 le h.x2; y2 = high_within m n k r.y2 le h.y2 }
