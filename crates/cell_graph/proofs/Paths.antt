-- Each path of placements takes the origin to a point that the bounds of its start hold; so the
-- finished design is sound.
use Rattle.std.proofs.Common.{◌≡◌, inr, ℕ, ◌<◌, ◌^◌, ℤ, pos, ◌+ℤ◌, List, [], ◌∷◌, Option, refl, sym, ◌∙◌, ap, subst, arith}
use Rattle.std.proofs.lemmas.Int.{ints}
use Rattle.std.proofs.lemmas.Option.{slice_get_within}
use Rattle.geo_base.specs.Motions.{turned, moved_point}
use Rattle.geo_base.specs.declared.motion.Motion.{Motion}
use Rattle.geo_base.specs.declared.motion.Turn.{Turn}
use Rattle.geo_base.specs.declared.motion.Turn.TheVariants.{R0, R90, R180, R270, M0, M90, M180, M270}
use Rattle.geo_base.specs.declared.shapes.Point.{Point}
use Rattle.flat_layout.specs.Hull.{TakesPoint}
use Rattle.cell_graph.specs.declared.bounds.Bounds.{Bounds}
use Rattle.cell_graph.specs.declared.cells.CellPart.{CellPart}
use Rattle.cell_graph.specs.declared.drafts.CellDraft.{CellDraft}
use Rattle.cell_graph.specs.Extents.{found_at}
use Rattle.cell_graph.specs.Linked.{linked_of, cell_at, origin, plain, HaveNearPaths, IsPointWithin, IsSound}
use Rattle.cell_graph.specs.Parts.{Part}
use Rattle.cell_graph.specs.Sides.{Holds}
use Rattle.cell_graph.proofs.PlainHulls.{finished_at, hull_sound_at, image_in, own_held}
use Rattle.cell_graph.proofs.Sound.{IsDone, near_held, cell_sound, levels_sound, order_sound}

turned_origin : (t : Turn) → turned t origin ≡ origin
turned_origin R0 = refl
turned_origin R90 = refl
turned_origin R180 = refl
turned_origin R270 = refl
turned_origin M0 = refl
turned_origin M90 = refl
turned_origin M180 = refl
turned_origin M270 = refl

from_zero : (z : ℤ) → z ≡ pos 0 +ℤ z
from_zero z = omega (arith, ints)

-- the origin goes as far as the motion shifts
shift_x : (m : Motion) (q : Point) → moved_point m origin ≡ q → m.dx ≡ q.x
shift_x m q e = from_zero m.dx ∙ ap (λ (p : Point). p.x +ℤ m.dx) (sym (turned_origin m.turn)) ∙ ap (λ (p : Point). p.x) e

shift_y : (m : Motion) (q : Point) → moved_point m origin ≡ q → m.dy ≡ q.y
shift_y m q e = from_zero m.dy ∙ ap (λ (p : Point). p.y +ℤ m.dy) (sym (turned_origin m.turn)) ∙ ap (λ (p : Point). p.y) e

origin_held : (cells : List CellDraft) (parts : List Part) (hs order : List ℕ) (found : List (Option Bounds)) (top : ℕ) (kept : List ℕ) (ds : List CellPart) → IsDone cells parts hs order found top kept ds
    → (ks : List ℕ) (k i to : ℕ) (q : Point) → TakesPoint (plain (linked_of ds top kept)) i (k ∷ ks) to origin q → Holds (found_at found i) q
origin_held cells parts hs order found top kept ds done [] k i to q (p, placed, r, rest, e) =
    let at : moved_point p.motion origin ≡ q = ap (moved_point p.motion) rest.1 ∙ e in
    own_held cells parts hs order found top kept ds done i q (inr (inr (k, p, placed, shift_x p.motion q at, shift_y p.motion q at)))
origin_held cells parts hs order found top kept ds done (j ∷ ks) k i to q (p, placed, r, rest, e) =
    let below = origin_held cells parts hs order found top kept ds done ks j p.cell to r rest in
    image_in cells parts hs order found top kept ds done i k p r q placed below e

path_near : (cells : List CellDraft) (parts : List Part) (hs order : List ℕ) (found : List (Option Bounds)) (top : ℕ) (kept : List ℕ) (ds : List CellPart) → IsDone cells parts hs order found top kept ds
    → (from to : ℕ) (path : List ℕ) (p : Point) → TakesPoint (plain (linked_of ds top kept)) from path to origin p → IsPointWithin (2 ^ 36) p
path_near cells parts hs order found top kept ds done from to [] p h = subst (IsPointWithin (2 ^ 36)) h.1 (record {
  x = record { low = omega (arith, ints); high = omega (arith, ints) };
  y = record { low = omega (arith, ints); high = omega (arith, ints) };
})
path_near cells parts hs order found top kept ds done from to (k ∷ ks) p h =
    let f = finished_at cells parts hs order found top kept ds done from h.1.0 h.1.1 in
    let near = (done.bounds.each from (slice_get_within cells from f.made.draft f.made.there)).near in
    near_held (found_at found from) p near (origin_held cells parts hs order found top kept ds done ks k from to p h)

paths_near : (cells : List CellDraft) (parts : List Part) (hs order : List ℕ) (found : List (Option Bounds)) (top : ℕ) (kept : List ℕ) (ds : List CellPart) → IsDone cells parts hs order found top kept ds
    → HaveNearPaths (linked_of ds top kept)
paths_near cells parts hs order found top kept ds done = record { each = path_near cells parts hs order found top kept ds done }

pub all_sound : (cells : List CellDraft) (parts : List Part) (hs order : List ℕ) (found : List (Option Bounds)) (top : ℕ) (kept : List ℕ) (ds : List CellPart) → IsDone cells parts hs order found top kept ds
    → IsSound (linked_of ds top kept)
all_sound cells parts hs order found top kept ds done = record {
  count = (let a = done.made.count in let b = done.sound.few in omega arith);
  top = subst (λ n. top < n) (sym done.made.count) done.top_in;
  each = λ i p at. cell_sound cells parts hs order found top kept ds done i p at;
  hulls = record { each = λ i. hull_sound_at cells parts hs order found top kept ds done i (cell_at (linked_of ds top kept) i) refl };
  paths = paths_near cells parts hs order found top kept ds done;
  order = order_sound cells parts hs order found top kept ds done;
  levels = levels_sound cells parts hs order found top kept ds done;
}
