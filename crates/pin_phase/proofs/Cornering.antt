-- Squares with a point as a corner, and the pieces that cover them.
use Rattle.std.proofs.Common.{◌≡◌, ◌⊎◌, inl, inr, ◌≤ℤ◌, ◌<ℤ◌, ◌+ℤ◌, ◌-ℤ◌, ◌&&◌, ℤ, pos, ℕ, true, false, List, [], ◌∷◌, Option, Some, None, Result, Ok, Err, IfOk, sym, ◌∙◌, arith}
use Rattle.std.proofs.lemmas.Bool.{false≢true, and_from, and_parts}
use Rattle.std.proofs.lemmas.Int.{ints, by_lt_z}
use Rattle.geo_base.specs.Near.{IsNearPoint, IsNearRect}
use Rattle.geo_base.specs.Rects.{IsRect, has}
use Rattle.geo_base.specs.declared.shapes.Point.{Point}
use Rattle.geo_base.specs.declared.shapes.Rect.{Rect}
use Rattle.geo_base.specs.declared.shapes.Square.{Square}
use Rattle.flat_layout.specs.Layout.{Design}
use Rattle.flat_layout.specs.Nets.{Tables}
use Rattle.flat_layout.specs.Plane.{IsCorner, IsIn}
use Rattle.cell_graph.proofs.Bridge.{has_in, in_has}
use Rattle.cell_context.specs.Arrays.{IsMeet}
use Rattle.net_link_laws.specs.Collected.{IsOver}
use Rattle.net_link_laws.specs.declared.piece.NetPiece.{NetPiece}
use Rattle.net_walk.specs.Walk.{AreInside, HasNoSquare, IsCollection, IsHull}
use Rattle.pin_phase.specs.Corners.{AreAtCorners, IsAt, IsBetween, IsCornerPart, IsCornerWindow, IsPieceOf, around}

side : (low high p q : ℤ) → low ≤ℤ q → q <ℤ high → (p ≡ q) ⊎ (p ≡ q +ℤ pos 1) → IsBetween low p high
side low high p q a b (inl e) = record { from = omega (arith, ints); to = omega (arith, ints) }
side low high p q a b (inr e) = record { from = omega (arith, ints); to = omega (arith, ints) }

-- a point outside is no corner of a square inside
pub corner_at : (at : Point) (frame : Rect) (q : Square) → IsIn q frame → IsCorner at q → IsAt at frame
corner_at at frame q i c = record { x = side frame.x1 frame.x2 at.x q.x i.0 i.1 c.x; y = side frame.y1 frame.y2 at.y q.y i.2 i.3 c.y }

pub near_point : (at : Point) (frame : Rect) → IsNearRect frame → IsAt at frame → IsNearPoint at
near_point at frame n h =
    let x = h.x in let y = h.y in let x1 = n.x1 in let x2 = n.x2 in let y1 = n.y1 in let y2 = n.y2 in
    record { x = record { low = omega (arith, ints); high = omega (arith, ints) }; y = record { low = omega (arith, ints); high = omega (arith, ints) } }

beside : (p q : ℤ) → (p ≡ q) ⊎ (p ≡ q +ℤ pos 1) → ((p -ℤ pos 1) ≤ℤ q) × (q <ℤ (p +ℤ pos 1))
beside p q (inl e) = (omega (arith, ints), omega (arith, ints))
beside p q (inr e) = (omega (arith, ints), omega (arith, ints))

corner_of : (p q : ℤ) → (p -ℤ pos 1) ≤ℤ q → q <ℤ (p +ℤ pos 1) → (p ≡ q) ⊎ (p ≡ q +ℤ pos 1)
corner_of p q a b = by_lt_z q p (λ lt. inr (omega (arith, ints))) (λ le. inl (omega (arith, ints)))

in_around : (at : Point) (q : Square) → IsCorner at q → IsIn q (around at)
in_around at q c = let x = beside at.x q.x c.x in let y = beside at.y q.y c.y in (x.0, x.1, y.0, y.1)

around_in : (at : Point) (q : Square) → IsIn q (around at) → IsCorner at q
around_in at q i = record { x = corner_of at.x q.x i.0 i.1; y = corner_of at.y q.y i.2 i.3 }

pub window_of : (at : Point) (frame : Rect) (m : Option Rect) → IsNearRect frame → IsMeet (around at) frame m → IsCornerWindow at frame m
window_of at frame None n h = λ q i c. false≢true (sym (h q) ∙ and_from (has (around at) q) (has frame q) (in_has (around at) q (in_around at q c)) (in_has frame q i))
window_of at frame (Some w) n h =
    let s = h.second in let some = h.some in let s1 = s.x1 in let s2 = s.x2 in let s3 = s.y1 in let s4 = s.y2 in
    let wide = some.wide in let high = some.high in
    let x1 = n.x1 in let x2 = n.x2 in let y1 = n.y1 in let y2 = n.y2 in
    record {
      near = record {
        x1 = record { low = omega (arith, ints); high = omega (arith, ints) };
        y1 = record { low = omega (arith, ints); high = omega (arith, ints) };
        x2 = record { low = omega (arith, ints); high = omega (arith, ints) };
        y2 = record { low = omega (arith, ints); high = omega (arith, ints) };
      };
      inside = λ q i.
          let e : (has (around at) q && has frame q) ≡ true = sym (h.has q) ∙ in_has w q i in
          (has_in frame q ((and_parts (has (around at) q) (has frame q) e).1), around_in at q (has_in (around at) q ((and_parts (has (around at) q) (has frame q) e).0)));
      all = λ q i c. has_in w q (h.has q ∙ and_from (has (around at) q) (has frame q) (in_has (around at) q (in_around at q c)) (in_has frame q i));
    }

first_in : (r : Rect) → IsRect r → IsIn (record { x = r.x1; y = r.y1 }) r
first_in r h = let wide = h.wide in let high = h.high in (omega (arith, ints), omega (arith, ints), omega (arith, ints), omega (arith, ints))

over_of : (window : Rect) (pieces : List NetPiece) (x : ℕ) → AreInside window pieces → IsPieceOf pieces x → (q : Square) × IsOver pieces x q
over_of window [] x i h = absurd h
over_of window (p ∷ ps) x i (inl e) =
    (record { x = p.rect.x1; y = p.rect.y1 }, inl (e, first_in p.rect i.0.rect))
over_of window (p ∷ ps) x i (inr h) = let g = over_of window ps x i.1 h in (g.0, inr g.1)

piece_of : (pieces : List NetPiece) (x : ℕ) (q : Square) → IsOver pieces x q → IsPieceOf pieces x
piece_of [] x q h = absurd h
piece_of (p ∷ ps) x q (inl h) = inl h.0
piece_of (p ∷ ps) x q (inr h) = inr (piece_of ps x q h)

-- what was collected in the window is at the corners
pub collected_at : (d : Design) (t : Tables) (cell c : ℕ) (at : Point) (hull window : Rect) (pieces : List NetPiece) → IsHull d t cell hull → IsCornerPart at hull window → IsCollection d t cell c window pieces → AreAtCorners d t cell c at pieces
collected_at d t cell c at hull window pieces h w k x = (
  (λ p.
      let g = over_of window pieces x k.inside p in
      let e = k.collected.each x g.0 g.1 in
      record { square = g.0; corner = (w.inside g.0 e.0).1; holds = e.1 }),
  (λ p. piece_of pieces x p.square (k.collected.found x p.square (w.all p.square (h.all c x p.square p.holds) p.corner) p.holds)),
)

pub outside_at : (d : Design) (t : Tables) (cell c : ℕ) (at : Point) (hull : Rect) (pieces : List NetPiece) → pieces ≡ [] → IsHull d t cell hull → IsCornerWindow at hull None → AreAtCorners d t cell c at pieces
outside_at d t cell c at hull [] e h w x = ((λ p. absurd p), (λ p. absurd (w p.square (h.all c x p.square p.holds) p.corner)))
outside_at d t cell c at hull (p ∷ ps) e h w x = let z : ⊥ = cc in absurd z

pub none_at : (d : Design) (t : Tables) (cell c : ℕ) (at : Point) (pieces : List NetPiece) → pieces ≡ [] → HasNoSquare d t cell → AreAtCorners d t cell c at pieces
none_at d t cell c at [] e h x = ((λ p. absurd p), (λ p. absurd (h c x p.square p.holds)))
none_at d t cell c at (p ∷ ps) e h x = let z : ⊥ = cc in absurd z

pub if_ok : {T E : Type 0} (P Q : T → Type 0) (r : Result T E) → ((x : T) → P x → Q x) → IfOk r P → IfOk r Q
if_ok P Q (Ok x) f h = f x h
if_ok P Q (Err e) f h = h
