-- What arrays bring.
use Rattle.std.proofs.Common.{◌≡◌, ◌⊎◌, inl, inr, ℕ, ℤ, pos, ◌+◌, ◌-◌, ◌*◌, ◌<◌, ◌≤◌, ◌^◌, ◌+ℤ◌, ◌-ℤ◌, ◌*ℤ◌, true, ◌&&◌, List, Some, None, length, slice_index_or, sym, ◌∙◌, ap, subst, arith}
use Rattle.std.proofs.lemmas.Bool.{and_parts, and_from, or_cases, or_right}
use Rattle.std.proofs.lemmas.Int.{ints}
use Rattle.geo_base.specs.Near.{IsWithin, IsNearMotion}
use Rattle.geo_base.specs.Motions.{moved_square}
use Rattle.geo_base.specs.Rects.{has}
use Rattle.geo_base.specs.declared.layer.LayerKey.{LayerKey}
use Rattle.geo_base.specs.declared.motion.Motion.{Motion}
use Rattle.geo_base.specs.declared.shapes.Rect.{Rect}
use Rattle.geo_base.specs.declared.shapes.Square.{Square}
use Rattle.geo_base.proofs.Images.{onto}
use Rattle.rect_sets.specs.Rects.{covers}
use Rattle.flat_layout.specs.Layout.{InFlatInput}
use Rattle.cell_graph.specs.declared.cells.Place.{Place}
use Rattle.cell_graph.specs.Linked.{Linked, IsSound, IsRectWithin, hull_of, cell_at, plain}
use Rattle.cell_graph.proofs.Bridge.{hulls}
use Rattle.cell_context.specs.Arrays.{IsNearArray, IsCloseArray}
use Rattle.cell_context.specs.declared.arrays.Visit.{Visit}
use Rattle.cell_context.specs.Visits.{IsElementVisit, IsMet, IsVisited, IsFound}
use Rattle.cell_context.proofs.Visiting.{wider, wider_rect, near_motion}
use Rattle.cell_context.proofs.Collecting.{hull_has}
use Rattle.cell_context.proofs.Gathering.{IsExact, Adds, over_flat, some_at}
use Rattle.zone_phase.specs.Siblings.{around, IsBroughtTo, Brings, AreShifts}
use Rattle.zone_phase.specs.declared.siblings.Shifts.{Shifts}
use Rattle.zone_phase.proofs.Around.{none_times, times_sum, compared}

-- shifts stay near
ahead_within : (x y : ℤ) → (x ≡ pos 0) ⊎ (y ≡ pos 0) → IsWithin (2 ^ 37) x → IsWithin (2 ^ 37) y → IsWithin (2 ^ 37) (x -ℤ y)
ahead_within x y (inl e) h g = let l = h.low in let u = h.high in let l' = g.low in let u' = g.high in record { low = omega (arith, ints); high = omega (arith, ints) }
ahead_within x y (inr e) h g = let l = h.low in let u = h.high in let l' = g.low in let u' = g.high in record { low = omega (arith, ints); high = omega (arith, ints) }

start_within : (s x y : ℤ) → IsWithin (2 ^ 36) s → IsWithin (2 ^ 37) x → IsWithin (2 ^ 37) y → IsWithin (2 ^ 39) ((s +ℤ x) +ℤ y)
start_within s x y k h g = let a = k.low in let b = k.high in let l = h.low in let u = h.high in let l' = g.low in let u' = g.high in record { low = omega (arith, ints); high = omega (arith, ints) }

both_within : (x y z : ℤ) → z ≡ x +ℤ y → IsWithin (2 ^ 37) x → IsWithin (2 ^ 37) y → IsWithin (2 ^ 38) z
both_within x y z e h g = let l = h.low in let u = h.high in let l' = g.low in let u' = g.high in record { low = omega (arith, ints); high = omega (arith, ints) }

no_steps : (a b : ℕ) (s : ℤ) → (a ≡ 0) ⊎ (b ≡ 0) → (pos a *ℤ s ≡ pos 0) ⊎ (pos b *ℤ s ≡ pos 0)
no_steps a b s (inl e) = inl (ap (λ k. pos k *ℤ s) e ∙ none_times s)
no_steps a b s (inr e) = inr (ap (λ k. pos k *ℤ s) e ∙ none_times s)

-- twice as many steps
wide_steps : (n m c : ℕ) (s : ℤ) → ((k : ℕ) → k < n → IsWithin (2 ^ 37) (pos k *ℤ s)) → m < 2 * n → c < m → IsWithin (2 ^ 38) (pos c *ℤ s)
wide_steps n m c s near lt less = elim (compared c n) [
  | inl h ↦ wider (2 ^ 37) (2 ^ 38) (pos c *ℤ s) (omega arith) (near c h)
  | inr g ↦
      let le : n ≤ c = elim g [ inl e ↦ omega arith | inr h ↦ omega arith ] in
      let e : (n - 1) + (c - (n - 1)) ≡ c = omega arith in
      both_within (pos (n - 1) *ℤ s) (pos (c - (n - 1)) *ℤ s) (pos c *ℤ s) (ap (λ k. pos k *ℤ s) (sym e) ∙ times_sum (n - 1) (c - (n - 1)) s) (near (n - 1) (omega arith)) (near (c - (n - 1)) (omega arith))
]

pub near_around : (p : Place) (s : Shifts) → IsCloseArray p → AreShifts p s → IsNearArray (around p s)
near_around p s h b = record {
  dx = start_within p.motion.dx _ _ h.dx
      (ahead_within _ _ (no_steps s.columns.ahead s.columns.back p.column_step.x b.across) (h.column_x s.columns.ahead b.right_in) (h.column_x s.columns.back b.left_in))
      (ahead_within _ _ (no_steps s.rows.ahead s.rows.back p.row_step.x b.along) (h.row_x s.rows.ahead b.up_in) (h.row_x s.rows.back b.down_in));
  dy = start_within p.motion.dy _ _ h.dy
      (ahead_within _ _ (no_steps s.columns.ahead s.columns.back p.column_step.y b.across) (h.column_y s.columns.ahead b.right_in) (h.column_y s.columns.back b.left_in))
      (ahead_within _ _ (no_steps s.rows.ahead s.rows.back p.row_step.y b.along) (h.row_y s.rows.ahead b.up_in) (h.row_y s.rows.back b.down_in));
  column_x = λ column lt. wide_steps p.columns s.columns.count column p.column_step.x h.column_x b.columns_in lt;
  column_y = λ column lt. wide_steps p.columns s.columns.count column p.column_step.y h.column_y b.columns_in lt;
  row_x = λ row lt. let le = b.rows_in in wider (2 ^ 37) (2 ^ 38) (pos row *ℤ p.row_step.x) (omega arith) (h.row_x row (omega arith));
  row_y = λ row lt. let le = b.rows_in in wider (2 ^ 37) (2 ^ 38) (pos row *ℤ p.row_step.y) (omega arith) (h.row_y row (omega arith));
}

-- what is there so far is right
pub right_more : (d : Linked) (p : Place) (key : LayerKey) (hull w : Rect) (start old new list : List Rect) (v : Visit) → IsSound d → IsElementVisit p hull w v
    → ((s : Square) → covers old s ≡ true → (covers start s ≡ true) ⊎ ((has w s ≡ true) × IsBroughtTo d p key s)) → IsExact d p.cell None key v.window list → Adds old new list v.motion w
    → (s : Square) → covers new s ≡ true → (covers start s ≡ true) ⊎ ((has w s ≡ true) × IsBroughtTo d p key s)
right_more d p key hull w start old new list v sound h right exact adds q e =
    let o = onto v.motion q in
    subst (λ x. (covers start x ≡ true) ⊎ ((has w x ≡ true) × IsBroughtTo d p key x)) o.1 (at o.0 (subst (λ x. covers new x ≡ true) (sym o.1) e))
  where
    at : (s : Square) → covers new (moved_square v.motion s) ≡ true → (covers start (moved_square v.motion s) ≡ true) ⊎ ((has w (moved_square v.motion s) ≡ true) × IsBroughtTo d p key (moved_square v.motion s))
    at s e = elim (or_cases (covers old (moved_square v.motion s)) (covers list s && has w (moved_square v.motion s)) (sym (adds s) ∙ e)) [
      | inl f ↦ right (moved_square v.motion s) f
      | inr f ↦
          let b = (exact s).0 ((and_parts (covers list s) (has w (moved_square v.motion s)) f).0) in
          inr (
            (and_parts (covers list s) (has w (moved_square v.motion s)) f).1,
            record {
              row = h.row;
              column = h.column;
              row_in = h.row_in;
              column_in = h.column_in;
              square = s;
              flat = (over_flat d sound p.cell key s).0 b.1;
              image = ap (λ (m : Motion). moved_square m s) (sym h.motion);
            },
          )
    ]

-- all that the array brings is there
pub all_brought : (d : Linked) (p : Place) (key : LayerKey) (hull w : Rect) (out : List Rect) (vs : List Visit) (none : Visit) → IsSound d → hull_of (cell_at d p.cell) ≡ Some hull
    → ((k : ℕ) → k < length vs → (r : Square) → has (slice_index_or vs k none).window r ≡ true → InFlatInput (plain d) p.cell key r → has w (moved_square (slice_index_or vs k none).motion r) ≡ true → covers out (moved_square (slice_index_or vs k none).motion r) ≡ true)
    → ((row column : ℕ) (q : Square) → row < p.rows → column < p.columns → IsMet p hull w row column q → IsFound p row column q vs) → (s : Square) → has w s ≡ true → IsBroughtTo d p key s → covers out s ≡ true
all_brought d p key hull w out vs none sound is brings found s g b =
    let inner = hull_has (hull_of (cell_at d p.cell)) hull b.square (sym is) (hulls d sound p.cell key b.square b.flat) in
    let outer = subst (λ x. has w x ≡ true) (sym b.image) g in
    let k = some_at (IsVisited p b.row b.column b.square) vs none (found b.row b.column b.square b.row_in b.column_in (record { inner = inner; outer = outer })) in
    let m : moved_square (slice_index_or vs k.0 none).motion b.square ≡ s = ap (λ (m : Motion). moved_square m b.square) k.2.motion ∙ b.image in
    subst (λ x. covers out x ≡ true) m (brings k.0 k.1 b.square k.2.has b.flat (subst (λ x. has w x ≡ true) (sym m) g))

pub visit_near : (p : Place) (hull w : Rect) (v : Visit) → IsNearArray p → IsElementVisit p hull w v → IsNearMotion v.motion
visit_near p hull w v near h = subst IsNearMotion (sym h.motion) (near_motion p h.row h.column near h.row_in h.column_in)

pub visit_within : (p : Place) (hull w : Rect) (v : Visit) → IsElementVisit p hull w v → IsRectWithin (2 ^ 39) v.window
visit_within p hull w v h = wider_rect (2 ^ 37) (2 ^ 39) v.window (omega arith) h.near.near

pub brings_flat : (d : Linked) (p : Place) (key : LayerKey) (hull w : Rect) (old new list : List Rect) (v : Visit) → IsSound d → IsExact d p.cell None key v.window list → Adds old new list v.motion w
    → (r : Square) → has v.window r ≡ true → InFlatInput (plain d) p.cell key r → has w (moved_square v.motion r) ≡ true → covers new (moved_square v.motion r) ≡ true
brings_flat d p key hull w old new list v sound exact adds r h flat g =
    adds r ∙ or_right (covers old (moved_square v.motion r)) (covers list r && has w (moved_square v.motion r)) (and_from (covers list r) (has w (moved_square v.motion r)) ((exact r).1 (h, (over_flat d sound p.cell key r).1 flat)) g)

-- an array without elements brings nothing
pub none_brought : (d : Linked) (v : Place) (key : LayerKey) (w : Rect) (old : List Rect) → ((0 < v.rows) × (0 < v.columns) → ⊥) → Brings d v key w old old
none_brought d v key w old none s = (λ e. inl e, λ h. elim h [ inl e ↦ e | inr b ↦ let i = b.1.row_in in let j = b.1.column_in in absurd (none ((omega arith), (omega arith))) ])
