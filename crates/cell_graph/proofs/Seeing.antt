-- Squares of a cell seen from a cell below it.
use Rattle.std.proofs.Common.{◌≡◌, ◌^◌, ◌+◌, ◌≤ℤ◌, ◌+ℤ◌, ◌-ℤ◌, ℕ, ℤ, pos, List, [], ◌∷◌, Option, Some, None, refl, sym, subst, true, arith}
use Rattle.std.proofs.lemmas.Int.{ints}
use Rattle.geo_base.specs.Motions.{moved_point, moved_square}
use Rattle.geo_base.specs.Rects.{has}
use Rattle.geo_base.specs.declared.motion.Motion.{Motion}
use Rattle.geo_base.specs.declared.motion.Turn.{Turn}
use Rattle.geo_base.specs.declared.motion.Turn.TheVariants.{R0, R90, R180, R270, M0, M90, M180, M270}
use Rattle.geo_base.specs.declared.shapes.Point.{Point}
use Rattle.geo_base.specs.declared.shapes.Rect.{Rect}
use Rattle.geo_base.specs.declared.shapes.Square.{Square}
use Rattle.flat_layout.specs.Hull.{TakesPoint}
use Rattle.flat_layout.specs.Layout.{Design, Takes}
use Rattle.cell_graph.specs.Linked.{IsHull, IsPointWithin, HullHas, HullIsSound, cell_at, hull_of, origin, plain}
use Rattle.cell_graph.specs.Laws.{SeenLaw}
use Rattle.cell_graph.proofs.Bridge.{has_in, hull_sound}

-- the square lies within n of the point, in both directions
record IsBeside (n : ℕ) (s : Square) (p : Point) : Type 0 where
  pub x_low : (pos 0 -ℤ pos n) ≤ℤ (s.x -ℤ p.x)
  pub x_high : ((s.x -ℤ p.x) +ℤ pos 1) ≤ℤ pos n
  pub y_low : (pos 0 -ℤ pos n) ≤ℤ (s.y -ℤ p.y)
  pub y_high : ((s.y -ℤ p.y) +ℤ pos 1) ≤ℤ pos n

abbrev motion_by : Turn → ℤ → ℤ → Motion
motion_by t dx dy = record { turn = t; dx = dx; dy = dy }

-- images lie as far apart as what they are images of
closer : (t : Turn) (dx dy : ℤ) (n : ℕ) (s : Square) (p : Point)
    → IsBeside n (moved_square (motion_by t dx dy) s) (moved_point (motion_by t dx dy) p) → IsBeside n s p
closer R0 dx dy n s p h =
    let a = h.x_low in let b = h.x_high in let c = h.y_low in let d = h.y_high in
    record { x_low = omega (arith, ints); x_high = omega (arith, ints); y_low = omega (arith, ints); y_high = omega (arith, ints) }
closer R90 dx dy n s p h =
    let a = h.x_low in let b = h.x_high in let c = h.y_low in let d = h.y_high in
    record { x_low = omega (arith, ints); x_high = omega (arith, ints); y_low = omega (arith, ints); y_high = omega (arith, ints) }
closer R180 dx dy n s p h =
    let a = h.x_low in let b = h.x_high in let c = h.y_low in let d = h.y_high in
    record { x_low = omega (arith, ints); x_high = omega (arith, ints); y_low = omega (arith, ints); y_high = omega (arith, ints) }
closer R270 dx dy n s p h =
    let a = h.x_low in let b = h.x_high in let c = h.y_low in let d = h.y_high in
    record { x_low = omega (arith, ints); x_high = omega (arith, ints); y_low = omega (arith, ints); y_high = omega (arith, ints) }
closer M0 dx dy n s p h =
    let a = h.x_low in let b = h.x_high in let c = h.y_low in let d = h.y_high in
    record { x_low = omega (arith, ints); x_high = omega (arith, ints); y_low = omega (arith, ints); y_high = omega (arith, ints) }
closer M90 dx dy n s p h =
    let a = h.x_low in let b = h.x_high in let c = h.y_low in let d = h.y_high in
    record { x_low = omega (arith, ints); x_high = omega (arith, ints); y_low = omega (arith, ints); y_high = omega (arith, ints) }
closer M180 dx dy n s p h =
    let a = h.x_low in let b = h.x_high in let c = h.y_low in let d = h.y_high in
    record { x_low = omega (arith, ints); x_high = omega (arith, ints); y_low = omega (arith, ints); y_high = omega (arith, ints) }
closer M270 dx dy n s p h =
    let a = h.x_low in let b = h.x_high in let c = h.y_low in let d = h.y_high in
    record { x_low = omega (arith, ints); x_high = omega (arith, ints); y_low = omega (arith, ints); y_high = omega (arith, ints) }

-- what a path takes, seen from its end
record Seen (d : Design) (from : ℕ) (path : List ℕ) (to : ℕ) (s q : Square) : Type 0 where
  pub shift : Point
  pub takes : TakesPoint d from path to origin shift
  pub beside : (n : ℕ) → IsBeside n q shift → IsBeside n s origin

follow : (d : Design) (path : List ℕ) (from to : ℕ) (s q : Square) → Takes d from path to s q → Seen d from path to s q
follow d [] from to s q h = record {
  shift = origin;
  takes = (h.0, refl);
  beside = λ n b. subst (λ (r : Square). IsBeside n r origin) (sym h.1) b;
}
follow d (k ∷ ks) from to s q (p, placed, r, rest, e) =
    let below = follow d ks p.cell to s r rest in
    let m = p.motion in
    record {
      shift = moved_point m below.shift;
      takes = (p, placed, below.shift, below.takes, refl);
      beside = λ n b. below.beside n (closer m.turn m.dx m.dy n r below.shift (subst (λ (t : Square). IsBeside n t (moved_point m below.shift)) (sym e) b));
    }

-- what a hull holds lies within twice its range of each point of that range
beside_hull : (h : Rect) (q : Square) (p : Point) → IsHull h → has h q ≡ true → IsPointWithin (2 ^ 36) p → IsBeside (2 ^ 37) q p
beside_hull h q p hull inside near =
    let i = has_in h q inside in
    let i0 = i.0 in let i1 = i.1 in let i2 = i.2 in let i3 = i.3 in
    let a = hull.near.x1.low in let b = hull.near.y1.low in let c = hull.near.x2.high in let e = hull.near.y2.high in
    let f = near.x.low in let g = near.x.high in let j = near.y.low in let k = near.y.high in
    record { x_low = omega (arith, ints); x_high = omega (arith, ints); y_low = omega (arith, ints); y_high = omega (arith, ints) }

beside_some : (o : Option Rect) (q : Square) (p : Point) → HullIsSound o → HullHas o q → IsPointWithin (2 ^ 36) p → IsBeside (2 ^ 37) q p
beside_some None q p sound inside near = absurd inside
beside_some (Some h) q p sound inside near = beside_hull h q p sound inside near

pub seen : SeenLaw
seen d sound cell end path s q inside takes =
    let f = follow (plain d) path cell end s q takes in
    let near = sound.paths.each cell end path f.shift f.takes in
    let b = f.beside (2 ^ 37) (beside_some (hull_of (cell_at d cell)) q f.shift (hull_sound d cell sound) inside near) in
    let x0 = b.x_low in let x1 = b.x_high in let y0 = b.y_low in let y1 = b.y_high in
    (record { low = omega (arith, ints); high = omega (arith, ints) }, record { low = omega (arith, ints); high = omega (arith, ints) })
