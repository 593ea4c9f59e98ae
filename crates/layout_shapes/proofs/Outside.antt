-- The hull of a cell, and how far out it lies once it is grown.
use Rattle.std.proofs.Common.{◌≡◌, ℕ, ◌^◌, ℤ, pos, ◌+ℤ◌, ◌-ℤ◌, ◌≤ℤ◌, ◌<ℤ◌, Bool, true, false, not, Some, None, refl, subst, arith}
use Rattle.std.proofs.lemmas.Int.{ints}
use Rattle.std.specs.Bool.{Decides}
use Rattle.geo_base.specs.Near.{IsWithin}
use Rattle.geo_base.specs.declared.shapes.Rect.{Rect}
use Rattle.geo_base.specs.declared.shapes.Square.{Square}
use Rattle.flat_layout.specs.Hull.{IsHullOf, IsHullRect, IsInHull}
use Rattle.flat_layout.specs.Layout.{Design}
use Rattle.geo_base.specs.Rects.{grown}
use Rattle.cell_graph.specs.Linked.{IsRectWithin}
use Rattle.layout_shapes.specs.Wide.{IsFarOut}

both : (a b : ℤ) → a ≤ℤ b → b ≤ℤ a → a ≡ b
both a b h g = omega (arith, ints)

-- a hull isn't two rectangles
record IsOneRect (h k : Rect) : Type 0 where
  pub x1 : h.x1 ≡ k.x1
  pub y1 : h.y1 ≡ k.y1
  pub x2 : h.x2 ≡ k.x2
  pub y2 : h.y2 ≡ k.y2

one_rect : (d : Design) (cell : ℕ) (h k : Rect) → IsHullRect d cell h → IsHullRect d cell k → IsOneRect h k
one_rect d cell h k a b = record {
  x1 = both h.x1 k.x1 (subst (λ z. h.x1 ≤ℤ z) b.west.2 (a.holds b.west.0 b.west.1).0) (subst (λ z. k.x1 ≤ℤ z) a.west.2 (b.holds a.west.0 a.west.1).0);
  y1 = both h.y1 k.y1 (subst (λ z. h.y1 ≤ℤ z) b.south.2 (a.holds b.south.0 b.south.1).2) (subst (λ z. k.y1 ≤ℤ z) a.south.2 (b.holds a.south.0 a.south.1).2);
  x2 = both h.x2 k.x2 (subst (λ z. z ≤ℤ k.x2) a.east.2 (b.holds a.east.0 a.east.1).1) (subst (λ z. z ≤ℤ h.x2) b.east.2 (a.holds b.east.0 b.east.1).1);
  y2 = both h.y2 k.y2 (subst (λ z. z ≤ℤ k.y2) a.north.2 (b.holds a.north.0 a.north.1).3) (subst (λ z. z ≤ℤ h.y2) b.north.2 (a.holds b.north.0 b.north.1).3);
}

-- and whatever is its rectangle holds a square
corner : (x1 x2 a b : ℤ) → x1 <ℤ x2 → a ≡ x1 → b ≡ x2 → (a ≤ℤ (x1 +ℤ pos 0)) × ((x1 +ℤ pos 1) ≤ℤ (b +ℤ pos 0)) × (a <ℤ b)
corner x1 x2 a b lt e f = ((omega (arith, ints)), (omega (arith, ints)), (omega (arith, ints)))

holds_square : (d : Design) (cell : ℕ) (h : Rect) → IsHullRect d cell h → (q : Square) × IsInHull d cell 0 q
holds_square d cell h a =
    let x = corner h.x1 h.x2 a.west.0.x a.east.0.x a.wide a.west.2 a.east.2 in
    let y = corner h.y1 h.y2 a.south.0.y a.north.0.y a.tall a.south.2 a.north.2 in (
      record { x = h.x1; y = h.y1 },
      record {
        west = (a.west.0, a.west.1, x.0);
        east = (a.east.0, a.east.1, x.1);
        south = (a.south.0, a.south.1, y.0);
        north = (a.north.0, a.north.1, y.1);
        wide = (a.west.0, a.east.0, a.west.1, a.east.1, x.2);
        tall = (a.south.0, a.north.0, a.south.1, a.north.1, y.2);
      },
    )

within : (n : ℕ) (h k : Rect) → IsOneRect h k → IsRectWithin (2 ^ 36) (grown n h) → IsRectWithin (2 ^ 36) (grown n k)
within n h k e w = record {
  x1 = subst (λ z. IsWithin (2 ^ 36) (z -ℤ pos n)) e.x1 w.x1;
  y1 = subst (λ z. IsWithin (2 ^ 36) (z -ℤ pos n)) e.y1 w.y1;
  x2 = subst (λ z. IsWithin (2 ^ 36) (z +ℤ pos n)) e.x2 w.x2;
  y2 = subst (λ z. IsWithin (2 ^ 36) (z +ℤ pos n)) e.y2 w.y2;
}

-- whether it lies too far out, by the rectangle
pub far_by : (d : Design) (n cell : ℕ) (h : Rect) (near : Bool) → IsHullOf d cell (Some h) → Decides near (IsRectWithin (2 ^ 36) (grown n h)) → Decides (not near) (IsFarOut d n cell)
far_by d n cell h true is near = ((λ e. absurd (let z : ⊥ = cc in z)), λ f. absurd (f.far (within n h f.hull (one_rect d cell h f.hull is f.is) (near.0 refl))))
far_by d n cell h false is near = ((λ e. record { hull = h; is = is; far = λ w. (let e : false ≡ true = near.1 w in cc) }), λ f. refl)

pub not_far : (d : Design) (n cell : ℕ) → IsHullOf d cell None → IsFarOut d n cell → ⊥
not_far d n cell none f = let s = holds_square d cell f.hull f.is in none s.0 s.1

-- both corners
pub then_low : (r : Rect) (low high : Bool) → Decides low (IsWithin (2 ^ 36) r.x1 × IsWithin (2 ^ 36) r.y1) → low ≡ true → Decides high (IsWithin (2 ^ 36) r.x2 × IsWithin (2 ^ 36) r.y2)
    → Decides high (IsRectWithin (2 ^ 36) r)
then_low r low high l e h = ((λ f. let a = l.0 e in let b = h.0 f in record { x1 = a.0; y1 = a.1; x2 = b.0; y2 = b.1 }), λ w. h.1 (w.x2, w.y2))
