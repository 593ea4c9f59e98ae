-- Hulls by hull points.
use Rattle.std.proofs.Common.{◌≡◌, ◌⊎◌, inl, inr, ℕ, ℤ, pos, ◌+ℤ◌, ◌≤ℤ◌, List, [], ◌∷◌, refl, subst, arith}
use Rattle.std.proofs.lemmas.Int.{ints}
use Rattle.geo_base.specs.Motions.{moved_point, moved_square, turned, turned_x, turned_y}
use Rattle.geo_base.specs.declared.layer.LayerKey.{LayerKey}
use Rattle.geo_base.specs.declared.motion.Motion.{Motion}
use Rattle.geo_base.specs.declared.motion.Turn.{Turn}
use Rattle.geo_base.specs.declared.motion.Turn.TheVariants.{R0, R90, R180, R270, M0, M90, M180, M270}
use Rattle.geo_base.specs.declared.shapes.Point.{Point}
use Rattle.geo_base.specs.declared.shapes.Square.{Square}
use Rattle.flat_layout.specs.Hull.{IsHullPoint, IsInHull, TakesPoint}
use Rattle.flat_layout.specs.Layout.{Design, IsOwn, Takes}
use Rattle.table_laws.specs.HullLaws.{FlatHullLaw, GrownLaw, NoHullLaw, ReachHullLaw}

pub grown : GrownLaw
grown d cell n h q rect = (
  (λ i.
      let w = i.west in let e = i.east in let s = i.south in let o = i.north in
      let a = rect.holds w.0 w.1 in let b = rect.holds e.0 e.1 in let c = rect.holds s.0 s.1 in let f = rect.holds o.0 o.1 in
      let a0 = a.0 in let b1 = b.1 in let c2 = c.2 in let f3 = f.3 in
      let w2 = w.2 in let e2 = e.2 in let s2 = s.2 in let o2 = o.2 in
      record { left = omega (arith, ints); right = omega (arith, ints); low = omega (arith, ints); high = omega (arith, ints) }),
  (λ i.
      let l = i.left in let r = i.right in let lo = i.low in let hi = i.high in
      let w = rect.west in let e = rect.east in let s = rect.south in let o = rect.north in
      let w2 = w.2 in let e2 = e.2 in let s2 = s.2 in let o2 = o.2 in
      let wide = rect.wide in let tall = rect.tall in
      record {
        west = (w.0, w.1, omega (arith, ints));
        east = (e.0, e.1, omega (arith, ints));
        south = (s.0, s.1, omega (arith, ints));
        north = (o.0, o.1, omega (arith, ints));
        wide = (w.0, e.0, w.1, e.1, omega (arith, ints));
        tall = (s.0, o.0, s.1, o.1, omega (arith, ints));
      }),
)

-- a wide and tall hull has a square
pub none : NoHullLaw
none d cell n q empty i =
    let w = i.wide in let t = i.tall in
    let lt = w.4 in let up = t.4 in
    empty (record { x = w.0.x; y = t.0.y }) (record {
      west = (w.0, w.2, omega (arith, ints));
      east = (w.1, w.3, omega (arith, ints));
      south = (t.0, t.2, omega (arith, ints));
      north = (t.1, t.3, omega (arith, ints));
      wide = w;
      tall = t;
    })

-- one of two numbers is x, and the other the next
abbrev AreSides : ℤ → ℤ → ℤ → Type 0
AreSides a b x = ((a ≡ x) × (b ≡ x +ℤ pos 1)) ⊎ ((b ≡ x) × (a ≡ x +ℤ pos 1))

-- two opposite corners of the square
record AreOpposite (a b : Point) (q : Square) : Type 0 where
  x : AreSides a.x b.x q.x
  y : AreSides a.y b.y q.y

turned_sides : (t : Turn) (a b : Point) (q : Square) (u v : ℤ) → AreSides a.x b.x q.x → AreSides a.y b.y q.y
    → AreSides ((turned t a).x +ℤ u) ((turned t b).x +ℤ u) (turned_x t q.x q.y +ℤ u) × AreSides ((turned t a).y +ℤ v) ((turned t b).y +ℤ v) (turned_y t q.x q.y +ℤ v)
turned_sides R0 a b q u v (inl (e, f)) (inl (g, h)) = (inl (omega (arith, ints), omega (arith, ints)), inl (omega (arith, ints), omega (arith, ints)))
turned_sides R0 a b q u v (inl (e, f)) (inr (g, h)) = (inl (omega (arith, ints), omega (arith, ints)), inr (omega (arith, ints), omega (arith, ints)))
turned_sides R0 a b q u v (inr (e, f)) (inl (g, h)) = (inr (omega (arith, ints), omega (arith, ints)), inl (omega (arith, ints), omega (arith, ints)))
turned_sides R0 a b q u v (inr (e, f)) (inr (g, h)) = (inr (omega (arith, ints), omega (arith, ints)), inr (omega (arith, ints), omega (arith, ints)))
turned_sides R90 a b q u v (inl (e, f)) (inl (g, h)) = (inr (omega (arith, ints), omega (arith, ints)), inl (omega (arith, ints), omega (arith, ints)))
turned_sides R90 a b q u v (inl (e, f)) (inr (g, h)) = (inl (omega (arith, ints), omega (arith, ints)), inl (omega (arith, ints), omega (arith, ints)))
turned_sides R90 a b q u v (inr (e, f)) (inl (g, h)) = (inr (omega (arith, ints), omega (arith, ints)), inr (omega (arith, ints), omega (arith, ints)))
turned_sides R90 a b q u v (inr (e, f)) (inr (g, h)) = (inl (omega (arith, ints), omega (arith, ints)), inr (omega (arith, ints), omega (arith, ints)))
turned_sides R180 a b q u v (inl (e, f)) (inl (g, h)) = (inr (omega (arith, ints), omega (arith, ints)), inr (omega (arith, ints), omega (arith, ints)))
turned_sides R180 a b q u v (inl (e, f)) (inr (g, h)) = (inr (omega (arith, ints), omega (arith, ints)), inl (omega (arith, ints), omega (arith, ints)))
turned_sides R180 a b q u v (inr (e, f)) (inl (g, h)) = (inl (omega (arith, ints), omega (arith, ints)), inr (omega (arith, ints), omega (arith, ints)))
turned_sides R180 a b q u v (inr (e, f)) (inr (g, h)) = (inl (omega (arith, ints), omega (arith, ints)), inl (omega (arith, ints), omega (arith, ints)))
turned_sides R270 a b q u v (inl (e, f)) (inl (g, h)) = (inl (omega (arith, ints), omega (arith, ints)), inr (omega (arith, ints), omega (arith, ints)))
turned_sides R270 a b q u v (inl (e, f)) (inr (g, h)) = (inr (omega (arith, ints), omega (arith, ints)), inr (omega (arith, ints), omega (arith, ints)))
turned_sides R270 a b q u v (inr (e, f)) (inl (g, h)) = (inl (omega (arith, ints), omega (arith, ints)), inl (omega (arith, ints), omega (arith, ints)))
turned_sides R270 a b q u v (inr (e, f)) (inr (g, h)) = (inr (omega (arith, ints), omega (arith, ints)), inl (omega (arith, ints), omega (arith, ints)))
turned_sides M0 a b q u v (inl (e, f)) (inl (g, h)) = (inl (omega (arith, ints), omega (arith, ints)), inr (omega (arith, ints), omega (arith, ints)))
turned_sides M0 a b q u v (inl (e, f)) (inr (g, h)) = (inl (omega (arith, ints), omega (arith, ints)), inl (omega (arith, ints), omega (arith, ints)))
turned_sides M0 a b q u v (inr (e, f)) (inl (g, h)) = (inr (omega (arith, ints), omega (arith, ints)), inr (omega (arith, ints), omega (arith, ints)))
turned_sides M0 a b q u v (inr (e, f)) (inr (g, h)) = (inr (omega (arith, ints), omega (arith, ints)), inl (omega (arith, ints), omega (arith, ints)))
turned_sides M90 a b q u v (inl (e, f)) (inl (g, h)) = (inl (omega (arith, ints), omega (arith, ints)), inl (omega (arith, ints), omega (arith, ints)))
turned_sides M90 a b q u v (inl (e, f)) (inr (g, h)) = (inr (omega (arith, ints), omega (arith, ints)), inl (omega (arith, ints), omega (arith, ints)))
turned_sides M90 a b q u v (inr (e, f)) (inl (g, h)) = (inl (omega (arith, ints), omega (arith, ints)), inr (omega (arith, ints), omega (arith, ints)))
turned_sides M90 a b q u v (inr (e, f)) (inr (g, h)) = (inr (omega (arith, ints), omega (arith, ints)), inr (omega (arith, ints), omega (arith, ints)))
turned_sides M180 a b q u v (inl (e, f)) (inl (g, h)) = (inr (omega (arith, ints), omega (arith, ints)), inl (omega (arith, ints), omega (arith, ints)))
turned_sides M180 a b q u v (inl (e, f)) (inr (g, h)) = (inr (omega (arith, ints), omega (arith, ints)), inr (omega (arith, ints), omega (arith, ints)))
turned_sides M180 a b q u v (inr (e, f)) (inl (g, h)) = (inl (omega (arith, ints), omega (arith, ints)), inl (omega (arith, ints), omega (arith, ints)))
turned_sides M180 a b q u v (inr (e, f)) (inr (g, h)) = (inl (omega (arith, ints), omega (arith, ints)), inr (omega (arith, ints), omega (arith, ints)))
turned_sides M270 a b q u v (inl (e, f)) (inl (g, h)) = (inr (omega (arith, ints), omega (arith, ints)), inr (omega (arith, ints), omega (arith, ints)))
turned_sides M270 a b q u v (inl (e, f)) (inr (g, h)) = (inl (omega (arith, ints), omega (arith, ints)), inr (omega (arith, ints), omega (arith, ints)))
turned_sides M270 a b q u v (inr (e, f)) (inl (g, h)) = (inr (omega (arith, ints), omega (arith, ints)), inl (omega (arith, ints), omega (arith, ints)))
turned_sides M270 a b q u v (inr (e, f)) (inr (g, h)) = (inl (omega (arith, ints), omega (arith, ints)), inl (omega (arith, ints), omega (arith, ints)))

moved_corners : (m : Motion) (a b : Point) (q : Square) → AreOpposite a b q → AreOpposite (moved_point m a) (moved_point m b) (moved_square m q)
moved_corners m a b q h = let r = turned_sides m.turn a b q m.dx m.dy h.x h.y in record { x = r.0; y = r.1 }

-- a flat square has two opposite corners that are hull points
record HasCorners (d : Design) (cell : ℕ) (q : Square) : Type 0 where
  a : Point
  b : Point
  opposite : AreOpposite a b q
  is_a : IsHullPoint d cell a
  is_b : IsHullPoint d cell b

above : (d : Design) (cell end : ℕ) (path : List ℕ) (s q : Square) (a b : Point) → Takes d cell path end s q → AreOpposite a b s
    → (c : Point) × (e : Point) × TakesPoint d cell path end a c × TakesPoint d cell path end b e × AreOpposite c e q
above d cell end [] s q a b (here, same) h = (a, b, (here, refl), (here, refl), subst (λ (v : Square). AreOpposite a b v) same h)
above d cell end (k ∷ ks) s q a b (p, placed, r, rest, image) h =
    let t = above d p.cell end ks s r a b rest h in
    (moved_point p.motion t.0, moved_point p.motion t.1, (p, placed, t.0, t.2, refl), (p, placed, t.1, t.3, refl), subst (λ (v : Square). AreOpposite (moved_point p.motion t.0) (moved_point p.motion t.1) v) image (moved_corners p.motion t.0 t.1 r t.4))

corners : (d : Design) (cell : ℕ) (key : LayerKey) (path : List ℕ) (end : ℕ) (s q : Square) → Takes d cell path end s q → IsOwn d end key s → HasCorners d cell q
corners d cell key path end s q takes own =
    let low : Point = record { x = s.x; y = s.y } in
    let high : Point = record { x = s.x +ℤ pos 1; y = s.y +ℤ pos 1 } in
    let t = above d cell end path s q low high takes (record { x = inl (refl, refl); y = inl (refl, refl) }) in
    record {
      a = t.0;
      b = t.1;
      opposite = t.4;
      is_a = record { path = path; end = end; point = low; takes = t.2; own = inl (key, s, own, record { x = inl refl; y = inl refl }) };
      is_b = record { path = path; end = end; point = high; takes = t.3; own = inl (key, s, own, record { x = inr refl; y = inr refl }) };
    }

-- within n of such a square one is in the hull grown by n
in_hull : (d : Design) (cell n : ℕ) (s q : Square) → HasCorners d cell s → s.x ≤ℤ (q.x +ℤ pos n) → q.x ≤ℤ (s.x +ℤ pos n) → s.y ≤ℤ (q.y +ℤ pos n) → q.y ≤ℤ (s.y +ℤ pos n) → IsInHull d cell n q
in_hull d cell n s q c l r lo hi = by c.opposite.x c.opposite.y
  where
    by : AreSides c.a.x c.b.x s.x → AreSides c.a.y c.b.y s.y → IsInHull d cell n q
    by (inl (e, f)) (inl (g, h)) = record { west = (c.a, c.is_a, omega (arith, ints)); east = (c.b, c.is_b, omega (arith, ints)); south = (c.a, c.is_a, omega (arith, ints)); north = (c.b, c.is_b, omega (arith, ints)); wide = (c.a, c.b, c.is_a, c.is_b, omega (arith, ints)); tall = (c.a, c.b, c.is_a, c.is_b, omega (arith, ints)) }
    by (inl (e, f)) (inr (g, h)) = record { west = (c.a, c.is_a, omega (arith, ints)); east = (c.b, c.is_b, omega (arith, ints)); south = (c.b, c.is_b, omega (arith, ints)); north = (c.a, c.is_a, omega (arith, ints)); wide = (c.a, c.b, c.is_a, c.is_b, omega (arith, ints)); tall = (c.b, c.a, c.is_b, c.is_a, omega (arith, ints)) }
    by (inr (e, f)) (inl (g, h)) = record { west = (c.b, c.is_b, omega (arith, ints)); east = (c.a, c.is_a, omega (arith, ints)); south = (c.a, c.is_a, omega (arith, ints)); north = (c.b, c.is_b, omega (arith, ints)); wide = (c.b, c.a, c.is_b, c.is_a, omega (arith, ints)); tall = (c.a, c.b, c.is_a, c.is_b, omega (arith, ints)) }
    by (inr (e, f)) (inr (g, h)) = record { west = (c.b, c.is_b, omega (arith, ints)); east = (c.a, c.is_a, omega (arith, ints)); south = (c.b, c.is_b, omega (arith, ints)); north = (c.a, c.is_a, omega (arith, ints)); wide = (c.b, c.a, c.is_b, c.is_a, omega (arith, ints)); tall = (c.b, c.a, c.is_b, c.is_a, omega (arith, ints)) }

pub flat : FlatHullLaw
flat d cell key q h = in_hull d cell 0 q q (corners d cell key h.path h.end h.square q h.takes h.own) (omega (arith, ints)) (omega (arith, ints)) (omega (arith, ints)) (omega (arith, ints))

pub reach : ReachHullLaw
reach d keys n cell q h =
    let f = h.flat in
    let a = h.within.left in let b = h.within.right in let c = h.within.low in let e = h.within.high in
    in_hull d cell n h.square q (corners d cell h.key f.path f.end f.square h.square f.takes f.own) (omega (arith, ints)) (omega (arith, ints)) (omega (arith, ints)) (omega (arith, ints))
