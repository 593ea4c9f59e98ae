-- Images of rectangles through the elements of an array, one visit after another.
use Rattle.std.proofs.Common.{◌≡◌, ◌^◌, ℕ, true, false, ◌&&◌, ◌++◌, List, [], ◌∷◌, inl, inr, suc, slice_index_or, sym, ◌∙◌, subst, arith}
use Rattle.std.proofs.lemmas.Bool.{and_parts, or_cases}
use Rattle.std.specs.List.{All}
use Rattle.std.proofs.lemmas.Int.{ints}
use Rattle.std.proofs.lemmas.List.Elements.{All-append}
use Rattle.geo_base.specs.Near.{IsNearRect}
use Rattle.geo_base.specs.Rects.{has, IsRect}
use Rattle.geo_base.specs.declared.layer.LayerKey.{LayerKey}
use Rattle.geo_base.specs.declared.shapes.Rect.{Rect}
use Rattle.geo_base.specs.declared.shapes.Square.{Square}
use Rattle.rect_sets.specs.Near.{HasNearCorners}
use Rattle.sized_layers.specs.Sizes.{IsSetWithin}
use Rattle.rect_sets.specs.Rects.{covers}
use Rattle.rect_sets.proofs.Unique.{listed_get}
use Rattle.cell_graph.specs.Linked.{Linked, IsSound, IsFrame, IsRectWithin, cell_at, hull_of, own_of}
use Rattle.cell_graph.proofs.Bridge.{has_in, hull_sound, own_in_hull, inside_has}
use Rattle.cell_context.specs.Over.{IsPiece}
use Rattle.cell_context.proofs.Visiting.{inside_from, within_inside, near_rect, wider_rect}
use Rattle.gate_phase.specs.Kept.{HoldsNear}
use Rattle.gate_phase.proofs.Keeping.{held_rect, listed_has}

-- what lies in a frame is near
pub part_near : (w : Rect) (zone part : List Rect) → IsFrame w → All IsRect part → ((s : Square) → covers part s ≡ (covers zone s && has w s)) → All IsNearRect part
part_near w zone part frame some is = λ k r lt.
    let x = slice_index_or part k r in
    let inside = inside_from x w (some k r lt) (λ q e. (and_parts (covers zone q) (has w q) (sym (is q) ∙ listed_has part x q (listed_get part k r lt) e)).1) in
    near_rect x (within_inside (2 ^ 39) x w (some k r lt) inside (wider_rect (2 ^ 37) (2 ^ 39) w (omega arith) frame.near))

-- a cell's own rectangles lie in the plane
pub own_pieces : (d : Linked) (cell : ℕ) (key : LayerKey) (rects : List Rect) (plane : Rect) → IsSound d → HoldsNear plane → rects ≡ own_of (cell_at d cell) key → All IsRect rects → All (IsPiece plane) rects
own_pieces d cell key rects plane sound all is some = λ k r lt.
    let x = slice_index_or rects k r in
    record {
      some = some k r lt;
      inside = all x (held_rect (hull_of (cell_at d cell)) x (hull_sound d cell sound) (some k r lt)
          (λ q e. own_in_hull d cell key q sound (subst (λ l. covers l q ≡ true) is (listed_has rects x q (listed_get rects k r lt) e))));
    }

pub more_pieces : (plane : Rect) (old more new : List Rect) → new ≡ old ++ more → All (IsPiece plane) old → All (IsPiece plane) more → All (IsPiece plane) new
more_pieces plane old more new e a b = subst (All (IsPiece plane)) (sym e) (All-append (IsPiece plane) old more a b)

pub near_corners : (r : Rect) (q : Square) → IsRectWithin (2 ^ 39) r → has r q ≡ true → HasNearCorners q
near_corners r q near e =
    let i = has_in r q e in
    let i0 = i.0 in let i1 = i.1 in let i2 = i.2 in let i3 = i.3 in
    let a = near.x1.low in let b = near.x2.high in let c = near.y1.low in let d = near.y2.high in
    record {
      low = record { x = record { low = omega (arith, ints); high = omega (arith, ints) }; y = record { low = omega (arith, ints); high = omega (arith, ints) } };
      high = record { x = record { low = omega (arith, ints); high = omega (arith, ints) }; y = record { low = omega (arith, ints); high = omega (arith, ints) } };
    }

-- what is made of pieces of the plane lies within it
pub within_set : (plane : Rect) (out set : List Rect) → IsRectWithin (2 ^ 39) plane → All (IsPiece plane) out → ((s : Square) → covers set s ≡ covers out s) → IsSetWithin (2 ^ 39) set
within_set plane out set near pieces same q e =
    let i = has_in plane q (in_plane out pieces (sym (same q) ∙ e)) in let i0 = i.0 in let i1 = i.1 in let i2 = i.2 in let i3 = i.3 in
    let a = near.x1.low in let b = near.x2.high in let c = near.y1.low in let f = near.y2.high in
    record { left = omega (arith, ints); right = omega (arith, ints); low = omega (arith, ints); high = omega (arith, ints) }
  where
    in_plane : (rs : List Rect) → All (IsPiece plane) rs → covers rs q ≡ true → has plane q ≡ true
    in_plane [] all f = let g : false ≡ true = f in absurd (let z : ⊥ = cc in z)
    in_plane (x ∷ xs) all f = elim (or_cases (has x q) (covers xs q) f) [
      | inl g ↦ inside_has x plane q (all 0 x (omega arith)).inside g
      | inr g ↦ in_plane xs (λ k r lt. all (suc k) r (omega arith)) g
    ]
