-- Images of rectangles through the elements of an array, one visit after another.
use Rattle.std.proofs.Common.{◌≡◌, ℕ, ◌<◌, true, ◌&&◌, List, slice_index_or, length, sym, ◌∙◌, subst}
use Rattle.std.proofs.lemmas.Bool.{and_from, or_right}
use Rattle.geo_base.specs.Motions.{moved_square}
use Rattle.geo_base.specs.Rects.{has}
use Rattle.geo_base.specs.declared.motion.Motion.{Motion}
use Rattle.geo_base.specs.declared.shapes.Rect.{Rect}
use Rattle.geo_base.specs.declared.shapes.Square.{Square}
use Rattle.rect_sets.specs.Rects.{covers}
use Rattle.cell_graph.specs.declared.cells.Place.{Place}
use Rattle.cell_context.specs.declared.arrays.Visit.{Visit}
use Rattle.cell_context.specs.Visits.{IsVisited, IsMet, IsFound}
use Rattle.cell_context.proofs.Gathering.{Adds, some_at}
use Rattle.cell_context.specs.Placed.{Brings}

-- the visit's images are covered in the window
abbrev pub BringsVisit : List Rect → Rect → List Rect → Visit → Type 0
BringsVisit rects w out v = (s : Square) → covers rects s ≡ true → has w (moved_square v.motion s) ≡ true → covers out (moved_square v.motion s) ≡ true

pub visit_here : (rects old new : List Rect) (w : Rect) (v : Visit) → Adds old new rects v.motion w → BringsVisit rects w new v
visit_here rects old new w v adds s e g =
    adds s ∙ or_right (covers old (moved_square v.motion s)) (covers rects s && has w (moved_square v.motion s)) (and_from (covers rects s) (has w (moved_square v.motion s)) e g)

pub all_brought : (p : Place) (below w : Rect) (rects out : List Rect) (vs : List Visit) (none : Visit) → ((k : ℕ) → k < length vs → BringsVisit rects w out (slice_index_or vs k none))
    → ((row column : ℕ) (q : Square) → row < p.rows → column < p.columns → IsMet p below w row column q → IsFound p row column q vs) → Brings p below rects w out
all_brought p below w rects out vs none there found row column s row_in column_in inner covered met =
    let f = some_at (IsVisited p row column s) vs none (found row column s row_in column_in (record { inner = inner; outer = met })) in
    let m = f.2.motion in
    subst (λ (x : Motion). covers out (moved_square x s) ≡ true) m (there f.0 f.1 s covered (subst (λ (x : Motion). has w (moved_square x s) ≡ true) (sym m) met))
