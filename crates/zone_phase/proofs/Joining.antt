-- Lists of rectangles that grow.
use Rattle.std.proofs.Common.{◌≡◌, ◌⊎◌, ◌↔◌, inl, inr, ℕ, ◌<◌, ◌+◌, ◌^◌, true, ◌&&◌, List, Some, length, take, slice_index_or, sym, ◌∙◌}
use Rattle.std.proofs.lemmas.Bool.{and_from, or_cases, or_left, or_right, and_parts}
use Rattle.std.specs.List.{All}
use Rattle.geo_base.specs.Motions.{moved_square}
use Rattle.geo_base.specs.Rects.{has}
use Rattle.geo_base.specs.declared.layer.LayerKey.{LayerKey}
use Rattle.geo_base.specs.declared.shapes.Rect.{Rect}
use Rattle.geo_base.specs.declared.shapes.Square.{Square}
use Rattle.rect_sets.specs.Rects.{covers}
use Rattle.cell_graph.specs.declared.cells.Place.{Place}
use Rattle.cell_graph.specs.Linked.{Linked, IsRectWithin, motion_at}
use Rattle.cell_context.specs.Over.{IsOver, IsPiece}
use Rattle.cell_context.proofs.Collecting.{covers_more}
use Rattle.cell_context.proofs.Visiting.{within_inside}
use Rattle.zone_phase.specs.Pulls.{IsPulled, IsSome, Adds, OnRects, OnRectsIn, BesideIn}

-- two growths are one
pub joined : (p : Place) (hull : Rect) (P Q R : ℕ → ℕ → Square → Type 0) (old out new : List Rect)
    → ((row column : ℕ) (q : Square) → row < p.rows → column < p.columns → has hull q ≡ true → R row column q ↔ (P row column q ⊎ Q row column q)) → Adds p hull P old out → Adds p hull Q out new → Adds p hull R old new
joined p hull P Q R old out new same first second q = (to, from)
  where
    to : covers new q ≡ true → (covers old q ≡ true) ⊎ IsSome p hull R q
    to e = elim ((second q).0 e) [
      | inl f ↦ elim ((first q).0 f) [
        | inl g ↦ inl g
        | inr s ↦ inr (record { row = s.row; column = s.column; row_in = s.row_in; column_in = s.column_in; inner = s.inner; holds = (same s.row s.column q s.row_in s.column_in s.inner).1 (inl s.holds) })
      ]
      | inr s ↦ inr (record { row = s.row; column = s.column; row_in = s.row_in; column_in = s.column_in; inner = s.inner; holds = (same s.row s.column q s.row_in s.column_in s.inner).1 (inr s.holds) })
    ]

    from : (covers old q ≡ true) ⊎ IsSome p hull R q → covers new q ≡ true
    from (inl e) = (second q).1 (inl ((first q).1 (inl e)))
    from (inr s) = elim ((same s.row s.column q s.row_in s.column_in s.inner).0 s.holds) [
      | inl h ↦ (second q).1 (inl ((first q).1 (inr (record { row = s.row; column = s.column; row_in = s.row_in; column_in = s.column_in; inner = s.inner; holds = h }))))
      | inr h ↦ (second q).1 (inr (record { row = s.row; column = s.column; row_in = s.row_in; column_in = s.column_in; inner = s.inner; holds = h }))
    ]

-- nothing was added
pub same_still : (p : Place) (hull : Rect) (P : ℕ → ℕ → Square → Type 0) (old : List Rect) → ((row column : ℕ) (q : Square) → P row column q → ⊥) → Adds p hull P old old
same_still p hull P old none q = (λ e. inl e, λ h. elim h [ inl e ↦ e | inr s ↦ absurd (none s.row s.column q s.holds) ])

-- the growth of one rectangle
pub one_grows : (p : Place) (hull rect : Rect) (old new : List Rect) → ((q : Square) → (covers new q ≡ true) ↔ IsPulled p hull rect old q) → Adds p hull (λ row column q. has rect (moved_square (motion_at p row column) q) ≡ true) old new
one_grows p hull rect old new h q = (
  (λ e. elim ((h q).0 e) [ inl f ↦ inl f | inr t ↦ inr (record { row = t.row; column = t.column; row_in = t.row_in; column_in = t.column_in; inner = t.met.inner; holds = t.met.outer }) ]),
  (λ g. (h q).1 (elim g [ inl f ↦ inl f | inr s ↦ inr (record { row = s.row; column = s.column; row_in = s.row_in; column_in = s.column_in; met = record { inner = s.inner; outer = s.holds } }) ])),
)

-- the growth of one more rectangle
pub rect_more : (p : Place) (hull : Rect) (rects : List Rect) (k : ℕ) (z : Rect) (old out new : List Rect) → k < length rects → Adds p hull (OnRects p (take k rects)) old out
    → ((q : Square) → (covers new q ≡ true) ↔ IsPulled p hull (slice_index_or rects k z) out q) → Adds p hull (OnRects p (take (k + 1) rects)) old new
rect_more p hull rects k z old out new lt first second =
    joined p hull (OnRects p (take k rects)) (λ row column q. has (slice_index_or rects k z) (moved_square (motion_at p row column) q) ≡ true) (OnRects p (take (k + 1) rects)) old out new
    (λ row column q a b c. let m = moved_square (motion_at p row column) q in let e = covers_more rects k z m lt in (
      λ h. or_cases (covers (take k rects) m) (has (slice_index_or rects k z) m) (sym e ∙ h),
      λ h. e ∙ elim h [ inl f ↦ or_left (covers (take k rects) m) (has (slice_index_or rects k z) m) f | inr f ↦ or_right (covers (take k rects) m) (has (slice_index_or rects k z) m) f ],
    ))
    first (one_grows p hull (slice_index_or rects k z) out new second)

-- the growth of one more window
window_more : (P : Square → Type 0) (p : Place) (hull : Rect) (windows : List Rect) (k : ℕ) (z : Rect) (rects old out new : List Rect) → k < length windows
    → ((q : Square) → (covers rects q ≡ true) ↔ ((has (slice_index_or windows k z) q ≡ true) × P q))
    → Adds p hull (λ row column q. OnRects p (take k windows) row column q × P (moved_square (motion_at p row column) q)) old out → Adds p hull (OnRects p rects) out new
    → Adds p hull (λ row column q. OnRects p (take (k + 1) windows) row column q × P (moved_square (motion_at p row column) q)) old new
window_more P p hull windows k z rects old out new lt exact first second =
    joined p hull (λ row column q. OnRects p (take k windows) row column q × P (moved_square (motion_at p row column) q)) (OnRects p rects)
    (λ row column q. OnRects p (take (k + 1) windows) row column q × P (moved_square (motion_at p row column) q)) old out new
    (λ row column q a b c. let m = moved_square (motion_at p row column) q in let e = covers_more windows k z m lt in (
      λ h. elim (or_cases (covers (take k windows) m) (has (slice_index_or windows k z) m) (sym e ∙ h.0)) [ inl f ↦ inl (f, h.1) | inr f ↦ inr ((exact m).1 (f, h.1)) ],
      λ h. elim h [
        | inl f ↦ (e ∙ or_left (covers (take k windows) m) (has (slice_index_or windows k z) m) f.0, f.1)
        | inr f ↦ let g = (exact m).0 f in (e ∙ or_right (covers (take k windows) m) (has (slice_index_or windows k z) m) g.0, g.1)
      ],
    ))
    first second

-- of what stands beside the array
pub beside_more : (d : Linked) (parent index : ℕ) (key : LayerKey) (p : Place) (hull : Rect) (windows : List Rect) (k : ℕ) (z : Rect) (rects old out new : List Rect) → k < length windows
    → ((q : Square) → (covers rects q ≡ true) ↔ ((has (slice_index_or windows k z) q ≡ true) × IsOver d parent (Some index) key q))
    → Adds p hull (BesideIn (take k windows) d parent index key p) old out → Adds p hull (OnRects p rects) out new → Adds p hull (BesideIn (take (k + 1) windows) d parent index key p) old new
beside_more d parent index key p hull windows k z rects old out new lt exact first second = window_more (IsOver d parent (Some index) key) p hull windows k z rects old out new lt exact first second

-- of a set
pub among_more : (p : Place) (hull : Rect) (set windows : List Rect) (k : ℕ) (z : Rect) (pieces old out new : List Rect) → k < length windows
    → ((q : Square) → covers pieces q ≡ (covers set q && has (slice_index_or windows k z) q))
    → Adds p hull (OnRectsIn (take k windows) p set) old out → Adds p hull (OnRects p pieces) out new → Adds p hull (OnRectsIn (take (k + 1) windows) p set) old new
among_more p hull set windows k z pieces old out new lt same first second =
    let w = slice_index_or windows k z in
    window_more (λ q. covers set q ≡ true) p hull windows k z pieces old out new lt
    (λ q. (
      (λ e. let both = and_parts (covers set q) (has w q) (sym (same q) ∙ e) in (both.1, both.0)),
      (λ h. same q ∙ and_from (covers set q) (has w q) h.1 h.0),
    ))
    first second

-- pieces of a window are near
pub pieces_within : (w : Rect) (rects : List Rect) → IsRectWithin (2 ^ 39) w → All (IsPiece w) rects → All (IsRectWithin (2 ^ 39)) rects
pieces_within w rects near pieces = λ k z lt. let h = pieces k z lt in within_inside (2 ^ 39) (slice_index_or rects k z) w h.some h.inside near
