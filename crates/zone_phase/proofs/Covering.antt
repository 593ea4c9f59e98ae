-- Windows that hold images of a hull.
use Rattle.std.proofs.Common.{◌≡◌, ◌⊎◌, inl, inr, ℕ, ℤ, pos, ◌+ℤ◌, ◌*ℤ◌, ◌≤ℤ◌, ◌<ℤ◌, ◌<◌, ◌-◌, true, sym, ◌∙◌, subst, arith}
use Rattle.std.proofs.lemmas.Int.{ints}
use Rattle.geo_base.specs.Motions.{moved_square, turned_x, turned_y}
use Rattle.geo_base.specs.Rects.{has, moved_rect, IsRect, IsInside}
use Rattle.geo_base.proofs.Spans.{moved_rect-has}
use Rattle.geo_base.specs.declared.shapes.Rect.{Rect}
use Rattle.geo_base.specs.declared.shapes.Square.{Square}
use Rattle.cell_graph.specs.declared.cells.Place.{Place}
use Rattle.cell_graph.specs.Linked.{motion_at}
use Rattle.cell_graph.proofs.Bridge.{has_in, in_has, inside_has}
use Rattle.cell_context.proofs.Times.{ends}
use Rattle.zone_phase.proofs.Around.{none_times}

-- the element's own window
pub own_window : (p : Place) (row column : ℕ) (hull r : Rect) (q : Square) → IsRect hull → r ≡ moved_rect (motion_at p row column) hull → has hull q ≡ true → has r (moved_square (motion_at p row column) q) ≡ true
own_window p row column hull r q some e h = subst (λ x. has x (moved_square (motion_at p row column) q) ≡ true) (sym e) (moved_rect-has (motion_at p row column) hull q some ∙ h)

-- a number of a row between those of its ends
between : (i n : ℕ) (s d t r : ℤ) → i < n → ((t +ℤ ((d +ℤ (pos 0 *ℤ s)) +ℤ r)) ≤ℤ (t +ℤ ((d +ℤ (pos i *ℤ s)) +ℤ r))) × ((t +ℤ ((d +ℤ (pos i *ℤ s)) +ℤ r)) ≤ℤ (t +ℤ ((d +ℤ (pos (n - 1) *ℤ s)) +ℤ r)))
    ⊎ ((t +ℤ ((d +ℤ (pos (n - 1) *ℤ s)) +ℤ r)) ≤ℤ (t +ℤ ((d +ℤ (pos i *ℤ s)) +ℤ r))) × ((t +ℤ ((d +ℤ (pos i *ℤ s)) +ℤ r)) ≤ℤ (t +ℤ ((d +ℤ (pos 0 *ℤ s)) +ℤ r)))
between i n s d t r lt = elim (ends i (n - 1) s (omega arith)) [
  | inl (a, b) ↦ inl (first (pos 0 *ℤ s) (pos i *ℤ s) (pos (n - 1) *ℤ s) (none_times s) a b)
  | inr (a, b) ↦ inr (second (pos 0 *ℤ s) (pos i *ℤ s) (pos (n - 1) *ℤ s) (none_times s) a b)
]
  where
    first : (z x y : ℤ) → z ≡ pos 0 → pos 0 ≤ℤ x → x ≤ℤ y → ((t +ℤ ((d +ℤ z) +ℤ r)) ≤ℤ (t +ℤ ((d +ℤ x) +ℤ r))) × ((t +ℤ ((d +ℤ x) +ℤ r)) ≤ℤ (t +ℤ ((d +ℤ y) +ℤ r)))
    first z x y e a b = ((omega (arith, ints)), (omega (arith, ints)))

    second : (z x y : ℤ) → z ≡ pos 0 → y ≤ℤ x → x ≤ℤ pos 0 → ((t +ℤ ((d +ℤ y) +ℤ r)) ≤ℤ (t +ℤ ((d +ℤ x) +ℤ r))) × ((t +ℤ ((d +ℤ x) +ℤ r)) ≤ℤ (t +ℤ ((d +ℤ z) +ℤ r)))
    second z x y e a b = ((omega (arith, ints)), (omega (arith, ints)))

abbrev IsAmong : ℤ → ℤ → ℤ → Type 0
IsAmong a x b = ((a ≤ℤ x) × (x ≤ℤ b)) ⊎ ((b ≤ℤ x) × (x ≤ℤ a))

low_among : (a x b l : ℤ) → IsAmong a x b → l ≤ℤ a → l ≤ℤ b → l ≤ℤ x
low_among a x b l (inl (f, g)) h i = omega (arith, ints)
low_among a x b l (inr (f, g)) h i = omega (arith, ints)

high_among : (a x b u : ℤ) → IsAmong a x b → a <ℤ u → b <ℤ u → x <ℤ u
high_among a x b u (inl (f, g)) h i = omega (arith, ints)
high_among a x b u (inr (f, g)) h i = omega (arith, ints)

-- the window of a row
pub row_window : (p : Place) (row column : ℕ) (hull first last both : Rect) (q : Square) → IsRect hull → column < p.columns → first ≡ moved_rect (motion_at p row 0) hull → last ≡ moved_rect (motion_at p row (p.columns - 1)) hull
    → IsInside first both → IsInside last both → has hull q ≡ true → has both (moved_square (motion_at p row column) q) ≡ true
row_window p row column hull first last both q some lt e f g h held =
    let a = has_in both (moved_square (motion_at p row 0) q) (inside_has first both (moved_square (motion_at p row 0) q) g (own_window p row 0 hull first q some e held)) in
    let b = has_in both (moved_square (motion_at p row (p.columns - 1)) q) (inside_has last both (moved_square (motion_at p row (p.columns - 1)) q) h (own_window p row (p.columns - 1) hull last q some f held)) in
    let x = between column p.columns p.column_step.x p.motion.dx (turned_x p.motion.turn q.x q.y) (pos row *ℤ p.row_step.x) lt in
    let y = between column p.columns p.column_step.y p.motion.dy (turned_y p.motion.turn q.x q.y) (pos row *ℤ p.row_step.y) lt in
    in_has both (moved_square (motion_at p row column) q) (low_among _ _ _ _ x a.0 b.0, high_among _ _ _ _ x a.1 b.1, low_among _ _ _ _ y a.2 b.2, high_among _ _ _ _ y a.3 b.3)
