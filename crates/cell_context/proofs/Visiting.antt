-- Visits of elements.
use Rattle.std.proofs.Common.{◌≡◌, inl, inr, ℕ, ℤ, pos, ◌+ℤ◌, ◌-ℤ◌, ◌*ℤ◌, ◌<ℤ◌, ◌≤ℤ◌, ◌<◌, ◌≤◌, ◌+◌, ◌^◌, List, [], ◌∷◌, ◌++◌, true, false, ◌&&◌, refl, sym, ◌∙◌, ap, subst, arith}
use Rattle.std.proofs.lemmas.Bool.{and_parts, and_from}
use Rattle.std.proofs.lemmas.Int.{ints}
use Rattle.std.proofs.Math.Decide.{ℕ_discrete}
use Rattle.geo_base.specs.Near.{IsWithin, IsNear, IsNearMotion, IsNearRect}
use Rattle.geo_base.specs.Motions.{moved_square}
use Rattle.geo_base.specs.Rects.{has, IsRect, IsInside}
use Rattle.geo_base.specs.Laws.{IsUndone}
use Rattle.geo_base.specs.declared.motion.Motion.{Motion}
use Rattle.geo_base.specs.declared.shapes.Rect.{Rect}
use Rattle.geo_base.specs.declared.shapes.Square.{Square}
use Rattle.flat_layout.specs.Layout.{Some_of}
use Rattle.cell_graph.specs.declared.cells.Place.{Place}
use Rattle.cell_graph.specs.Linked.{IsFrame, IsRectWithin, motion_at}
use Rattle.cell_graph.proofs.Bridge.{has_in, in_has}
use Rattle.cell_context.specs.Arrays.{IsNearArray, IsPart, shift_x, shift_y}
use Rattle.cell_context.specs.Visits.{IsMet}

near_sum : (a b c z : ℤ) → IsWithin (2 ^ 39) a → IsWithin (2 ^ 38) b → IsWithin (2 ^ 38) c → z ≡ (a +ℤ b) +ℤ c → IsNear z
near_sum a b c z h g f e = let h1 = h.low in let h2 = h.high in let g1 = g.low in let g2 = g.high in let f1 = f.low in let f2 = f.high in record { low = omega (arith, ints); high = omega (arith, ints) }

pub near_motion : (p : Place) (row column : ℕ) → IsNearArray p → row < p.rows → column < p.columns → IsNearMotion (motion_at p row column)
near_motion p row column near a b = record {
  dx = near_sum p.motion.dx (pos column *ℤ p.column_step.x) (pos row *ℤ p.row_step.x) (shift_x p row column) near.dx (near.column_x column b) (near.row_x row a) refl;
  dy = near_sum p.motion.dy (pos column *ℤ p.column_step.y) (pos row *ℤ p.row_step.y) (shift_y p row column) near.dy (near.column_y column b) (near.row_y row a) refl;
}

pub wider : (n m : ℕ) (z : ℤ) → n ≤ m → IsWithin n z → IsWithin m z
wider n m z le h = let l = h.low in let u = h.high in record { low = omega (arith, ints); high = omega (arith, ints) }

pub near_rect : (r : Rect) → IsRectWithin (2 ^ 39) r → IsNearRect r
near_rect r h = record { x1 = wider (2 ^ 39) (2 ^ 40) r.x1 (omega arith) h.x1; y1 = wider (2 ^ 39) (2 ^ 40) r.y1 (omega arith) h.y1; x2 = wider (2 ^ 39) (2 ^ 40) r.x2 (omega arith) h.x2; y2 = wider (2 ^ 39) (2 ^ 40) r.y2 (omega arith) h.y2 }

pub wider_rect : (n m : ℕ) (r : Rect) → n ≤ m → IsRectWithin n r → IsRectWithin m r
wider_rect n m r le h = record { x1 = wider n m r.x1 le h.x1; y1 = wider n m r.y1 le h.y1; x2 = wider n m r.x2 le h.x2; y2 = wider n m r.y2 le h.y2 }

low_within : (n : ℕ) (a b c d : ℤ) → b ≤ℤ a → a <ℤ c → c ≤ℤ d → IsWithin n b → IsWithin n d → IsWithin n a
low_within n a b c d e f g h i = let l = h.low in let u = i.high in record { low = omega (arith, ints); high = omega (arith, ints) }

high_within : (n : ℕ) (a b c d : ℤ) → b ≤ℤ a → a <ℤ c → c ≤ℤ d → IsWithin n b → IsWithin n d → IsWithin n c
high_within n a b c d e f g h i = let l = h.low in let u = i.high in record { low = omega (arith, ints); high = omega (arith, ints) }

pub within_inside : (n : ℕ) (a b : Rect) → IsRect a → IsInside a b → IsRectWithin n b → IsRectWithin n a
within_inside n a b some h near = record {
  x1 = low_within n a.x1 b.x1 a.x2 b.x2 h.x1 some.wide h.x2 near.x1 near.x2;
  y1 = low_within n a.y1 b.y1 a.y2 b.y2 h.y1 some.high h.y2 near.y1 near.y2;
  x2 = high_within n a.x1 b.x1 a.x2 b.x2 h.x1 some.wide h.x2 near.x1 near.x2;
  y2 = high_within n a.y1 b.y1 a.y2 b.y2 h.y1 some.high h.y2 near.y1 near.y2;
}

-- a rectangle whose squares lie in another lies within it
pub inside_from : (a b : Rect) → IsRect a → ((q : Square) → has a q ≡ true → has b q ≡ true) → IsInside a b
inside_from a b some h =
    let wide = some.wide in let high = some.high in
    let low : Square = record { x = a.x1; y = a.y1 } in
    let top : Square = record { x = a.x2 -ℤ pos 1; y = a.y2 -ℤ pos 1 } in
    let p = has_in b low (h low (in_has a low ((omega (arith, ints)), (omega (arith, ints)), (omega (arith, ints)), (omega (arith, ints))))) in
    let q = has_in b top (h top (in_has a top ((omega (arith, ints)), (omega (arith, ints)), (omega (arith, ints)), (omega (arith, ints))))) in
    let p0 = p.0 in let p2 = p.2 in let q1 = q.1 in let q3 = q.3 in
    record { x1 = p0; y1 = p2; x2 = omega (arith, ints); y2 = omega (arith, ints) }

pub part_of_hull : (win hull w : Rect) (m : Motion) → IsFrame hull → IsRect win → ((q : Square) → has win q ≡ (has hull q && has w (moved_square m q))) → IsFrame win
part_of_hull win hull w m h some has_is = record {
  some = some;
  near = within_inside (2 ^ 37) win hull some (inside_from win hull some (λ q e. (and_parts (has hull q) (has w (moved_square m q)) (sym (has_is q) ∙ e)).0)) h.near;
}

-- what the moved hull and the window share, moved back
pub moved_back : (hull w at part win : Rect) (m back : Motion) → ((s : Square) → has at (moved_square m s) ≡ has hull s) → IsPart at w part → IsUndone m back → ((s : Square) → has win (moved_square back s) ≡ has part s)
    → (q : Square) → has win q ≡ (has hull q && has w (moved_square m q))
moved_back hull w at part win m back h p undone g q =
    ap (has win) (sym (undone.squares q)) ∙ g (moved_square m q) ∙ p.has (moved_square m q) ∙ ap (λ c. c && has w (moved_square m q)) (h q)

pub found_met : (p : Place) (hull w win : Rect) (row column : ℕ) (m : Motion) (q : Square) → m ≡ motion_at p row column → ((q : Square) → has win q ≡ (has hull q && has w (moved_square m q))) → IsMet p hull w row column q → has win q ≡ true
found_met p hull w win row column m q e h met =
    h q ∙ and_from (has hull q) (has w (moved_square m q)) met.inner (ap (λ (n : Motion). has w (moved_square n q)) e ∙ met.outer)

pub none_met : (p : Place) (hull w at : Rect) (row column : ℕ) (m : Motion) (q : Square) → m ≡ motion_at p row column → ((s : Square) → has at (moved_square m s) ≡ has hull s) → ((q : Square) → (has at q && has w q) ≡ false) → IsMet p hull w row column q → ⊥
none_met p hull w at row column m q e h none met =
    let a : has at (moved_square m q) ≡ true = h q ∙ met.inner in
    let b : has w (moved_square m q) ≡ true = ap (λ (n : Motion). has w (moved_square n q)) e ∙ met.outer in
    let c : false ≡ true = sym (none (moved_square m q)) ∙ and_from (has at (moved_square m q)) (has w (moved_square m q)) a b in
    let z : ⊥ = cc in z

pub some_last : {A : Type 0} (P : A → Type 0) (xs : List A) (x : A) → P x → Some_of P (xs ++ x ∷ [])
some_last P [] x h = inl h
some_last P (y ∷ xs) x h = inr (some_last P xs x h)

pub some_more : {A : Type 0} (P : A → Type 0) (xs ys : List A) → Some_of P xs → Some_of P (xs ++ ys)
some_more P [] ys h = absurd h
some_more P (y ∷ xs) ys (inl h) = inl h
some_more P (y ∷ xs) ys (inr h) = inr (some_more P xs ys h)

pub some_behind : {A : Type 0} (P : A → Type 0) (xs ys : List A) → Some_of P ys → Some_of P (xs ++ ys)
some_behind P [] ys h = h
some_behind P (y ∷ xs) ys h = inr (some_behind P xs ys h)

-- one more number
pub up_to : (P : ℕ → Type 0) (n : ℕ) → ((i : ℕ) → i < n → P i) → P n → (i : ℕ) → i < n + 1 → P i
up_to P n before here i lt = elim (ℕ_discrete i n) [
  | yes e ↦ subst P (sym e) here
  | no not ↦ before i (omega arith)
]
