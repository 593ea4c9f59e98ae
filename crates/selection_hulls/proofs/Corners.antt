-- Corners of squares on their way up, and of rectangles whose squares lie somewhere.
use Rattle.std.proofs.Common.{◌≡◌, ◌⊎◌, inl, inr, ℤ, pos, ◌+ℤ◌, ◌-ℤ◌, ◌≤ℤ◌, ◌<ℤ◌, true, List, [], ◌∷◌, arith}
use Rattle.std.proofs.lemmas.Bool.{or_left, or_right}
use Rattle.std.proofs.lemmas.Int.{ints}
use Rattle.std.proofs.lemmas.List.Elements.{All-head, All-tail}
use Rattle.std.specs.List.{All}
use Rattle.geo_base.specs.Motions.{moved_point, moved_square, turned, turned_x, turned_y}
use Rattle.geo_base.specs.Rects.{IsRect, has}
use Rattle.geo_base.specs.declared.motion.Motion.{Motion}
use Rattle.geo_base.specs.declared.motion.Turn.{Turn}
use Rattle.geo_base.specs.declared.motion.Turn.TheVariants.{R0, R90, R180, R270, M0, M90, M180, M270}
use Rattle.geo_base.specs.declared.shapes.Point.{Point}
use Rattle.geo_base.specs.declared.shapes.Rect.{Rect}
use Rattle.geo_base.specs.declared.shapes.Square.{Square}
use Rattle.rect_sets.specs.Rects.{covers}
use Rattle.flat_layout.specs.Layout.{Some_of}
use Rattle.flat_layout.specs.Plane.{IsCorner}
use Rattle.cell_graph.specs.Drafts.{IsCorner as IsRectCorner}
use Rattle.cell_graph.proofs.Bridge.{in_has}

-- a number is another or the next
abbrev IsSide : ℤ → ℤ → Type 0
IsSide a x = (a ≡ x) ⊎ (a ≡ x +ℤ pos 1)

kept : (a x v : ℤ) → IsSide a x → IsSide (a +ℤ v) (x +ℤ v)
kept a x v (inl e) = inl (omega (arith, ints))
kept a x v (inr e) = inr (omega (arith, ints))

flipped : (a b x v : ℤ) → IsSide a x → b ≡ pos 0 -ℤ a → IsSide (b +ℤ v) ((pos 0 -ℤ x -ℤ pos 1) +ℤ v)
flipped a b x v (inl e) f = inr (omega (arith, ints))
flipped a b x v (inr e) f = inl (omega (arith, ints))

same : (a b x v : ℤ) → IsSide a x → b ≡ a → IsSide (b +ℤ v) (x +ℤ v)
same a b x v (inl e) f = inl (omega (arith, ints))
same a b x v (inr e) f = inr (omega (arith, ints))

sides : (t : Turn) (p : Point) (q : Square) (u v : ℤ) → IsSide p.x q.x → IsSide p.y q.y → IsSide ((turned t p).x +ℤ u) (turned_x t q.x q.y +ℤ u) × IsSide ((turned t p).y +ℤ v) (turned_y t q.x q.y +ℤ v)
sides R0 p q u v h g = (kept p.x q.x u h, kept p.y q.y v g)
sides R90 p q u v h g = (flipped p.y _ q.y u g (omega (arith, ints)), kept p.x q.x v h)
sides R180 p q u v h g = (flipped p.x _ q.x u h (omega (arith, ints)), flipped p.y _ q.y v g (omega (arith, ints)))
sides R270 p q u v h g = (same p.y _ q.y u g (omega (arith, ints)), flipped p.x _ q.x v h (omega (arith, ints)))
sides M0 p q u v h g = (kept p.x q.x u h, flipped p.y _ q.y v g (omega (arith, ints)))
sides M90 p q u v h g = (same p.y _ q.y u g (omega (arith, ints)), kept p.x q.x v h)
sides M180 p q u v h g = (flipped p.x _ q.x u h (omega (arith, ints)), same p.y _ q.y v g (omega (arith, ints)))
sides M270 p q u v h g = (flipped p.y _ q.y u g (omega (arith, ints)), flipped p.x _ q.x v h (omega (arith, ints)))

-- the image of a corner is a corner of the image
pub moved_corner : (m : Motion) (p : Point) (q : Square) → IsCorner p q → IsCorner (moved_point m p) (moved_square m q)
moved_corner m p q h = let r = sides m.turn p q m.dx m.dy h.x h.y in record { x = r.0; y = r.1 }

-- a side of a range is that of a number of it
side_in : (a b x : ℤ) → a <ℤ b → (x ≡ a) ⊎ (x ≡ b) → (y : ℤ) × (a ≤ℤ y) × (y <ℤ b) × IsSide x y
side_in a b x lt (inl e) = (a, omega (arith, ints), lt, inl e)
side_in a b x lt (inr e) = (b -ℤ pos 1, omega (arith, ints), omega (arith, ints), inr (omega (arith, ints)))

-- a corner of a rectangle is one of a square of it
rect_corner : (r : Rect) (p : Point) → IsRect r → IsRectCorner r p → (q : Square) × (has r q ≡ true) × IsCorner p q
rect_corner r p is h =
    let x = side_in r.x1 r.x2 p.x is.wide h.0 in
    let y = side_in r.y1 r.y2 p.y is.high h.1 in
    let q : Square = record { x = x.0; y = y.0 } in
    (q, in_has r q (x.1, x.2, y.1, y.2), record { x = x.3; y = y.3 })

-- and so of a list of them
pub rects_corner : (rects : List Rect) (p : Point) → All IsRect rects → Some_of (λ r. IsRectCorner r p) rects → (q : Square) × (covers rects q ≡ true) × IsCorner p q
rects_corner [] p all h = absurd h
rects_corner (r ∷ rects) p all (inl h) =
    let c = rect_corner r p (All-head IsRect r rects all) h in
    (c.0, or_left (has r c.0) (covers rects c.0) c.1, c.2)
rects_corner (r ∷ rects) p all (inr h) =
    let c = rects_corner rects p (All-tail IsRect r rects all) h in
    (c.0, or_right (has r c.0) (covers rects c.0) c.1, c.2)
