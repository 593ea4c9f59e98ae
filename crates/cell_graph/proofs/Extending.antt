-- Bounds of what stands in a cell, item by item.
use Rattle.std.proofs.Common.{◌≡◌, ◌⊎◌, inl, inr, ℕ, ◌+◌, ◌<◌, ℤ, pos, ◌≤ℤ◌, ◌-ℤ◌, List, Option, Some, slice_get, refl, sym, ◌∙◌, ap, subst, arith}
use Rattle.std.specs.List.{All}
use Rattle.std.proofs.lemmas.Int.{ints}
use Rattle.geo_base.specs.Rects.{IsRect}
use Rattle.geo_base.specs.declared.shapes.Point.{Point}
use Rattle.geo_base.specs.declared.shapes.Rect.{Rect}
use Rattle.cell_graph.specs.declared.cells.OwnLayer.{OwnLayer}
use Rattle.cell_graph.specs.declared.bounds.Bounds.{Bounds}
use Rattle.cell_graph.specs.Drafts.{IsCorner}
use Rattle.cell_graph.specs.Sides.{Left, Low, Right, High, value, Holds, Widens, AmongFirst, Among}
use Rattle.std.proofs.Math.Decide.{ℕ_discrete}
use Rattle.cell_graph.proofs.Widening.{swapped, no_item, next_item}

-- the first n layers
pub record LayersTo (layers : List OwnLayer) (n : ℕ) (old new : Option Bounds) : Type 0 where
  pub widens : Widens old (AmongFirst (λ l. Among IsCorner l.set) layers n) new
  pub rects : (k : ℕ) (l : OwnLayer) → k < n → slice_get layers k ≡ Some l → All IsRect l.set

abbrev pub low_of : Rect → Point
low_of r = record { x = r.x1; y = r.y1 }

abbrev pub high_of : Rect → Point
high_of r = record { x = r.x2; y = r.y2 }

-- all four corners have the bounds of two
pub rect_corners : (old : Option Bounds) (r : Rect) (b : Bounds) → Widens old (λ p. (p ≡ low_of r) ⊎ (p ≡ high_of r)) (Some b) → Widens old (IsCorner r) (Some b)
rect_corners old r b h = swapped old (Some b) (λ p. (p ≡ low_of r) ⊎ (p ≡ high_of r)) (IsCorner r) h
    (λ p (x, y). held p x y (h.holds (low_of r) (inl refl)) (h.holds (high_of r) (inr refl)))
    (λ q is s. (
      q,
      elim is [
        | inl e ↦ (inl (ap (λ (v : Point). v.x) e), inl (ap (λ (v : Point). v.y) e))
        | inr e ↦ (inr (ap (λ (v : Point). v.x) e), inr (ap (λ (v : Point). v.y) e))
      ],
      same (value s q),
    ))
  where
    same : (z : ℤ) → z ≤ℤ z
    same z = omega (arith, ints)

    from : (a z w : ℤ) → a ≤ℤ z → w ≡ z → a ≤ℤ w
    from a z w le e = omega (arith, ints)

    minus : (z w : ℤ) → z ≡ w → pos 0 -ℤ z ≡ pos 0 -ℤ w
    minus z w e = ap (λ v. pos 0 -ℤ v) e

    held : (p : Point) → (p.x ≡ r.x1) ⊎ (p.x ≡ r.x2) → (p.y ≡ r.y1) ⊎ (p.y ≡ r.y2) → Holds (Some b) (low_of r) → Holds (Some b) (high_of r) → Holds (Some b) p
    held p (inl e) y low high Left = from b.x1 r.x1 p.x (low Left) e
    held p (inr e) y low high Left = from b.x1 r.x2 p.x (high Left) e
    held p (inl e) y low high Right = from (pos 0 -ℤ b.x2) (pos 0 -ℤ r.x1) (pos 0 -ℤ p.x) (low Right) (minus p.x r.x1 e)
    held p (inr e) y low high Right = from (pos 0 -ℤ b.x2) (pos 0 -ℤ r.x2) (pos 0 -ℤ p.x) (high Right) (minus p.x r.x2 e)
    held p x (inl e) low high Low = from b.y1 r.y1 p.y (low Low) e
    held p x (inr e) low high Low = from b.y1 r.y2 p.y (high Low) e
    held p x (inl e) low high High = from (pos 0 -ℤ b.y2) (pos 0 -ℤ r.y1) (pos 0 -ℤ p.y) (low High) (minus p.y r.y1 e)
    held p x (inr e) low high High = from (pos 0 -ℤ b.y2) (pos 0 -ℤ r.y2) (pos 0 -ℤ p.y) (high High) (minus p.y r.y2 e)

pub no_layer : (layers : List OwnLayer) (old : Option Bounds) → LayersTo layers 0 old old
no_layer layers old = record {
  widens = no_item (λ (l : OwnLayer). Among IsCorner l.set) layers old;
  rects = λ k l lt. absurd (let z : ⊥ = omega arith in z);
}

pub next_layer : (layers : List OwnLayer) (n : ℕ) (l : OwnLayer) (rects : List Rect) (old mid new : Option Bounds) → slice_get layers n ≡ Some l → rects ≡ l.set → All IsRect l.set
    → Widens mid (Among IsCorner rects) new → LayersTo layers n old mid → LayersTo layers (n + 1) old new
next_layer layers n l rects old mid new at e sound h to = record {
  widens = next_item (λ (l : OwnLayer). Among IsCorner l.set) layers n l old mid new at to.widens (subst (λ rs. Widens mid (Among IsCorner rs) new) e h);
  rects = λ k m lt there. elim (ℕ_discrete k n) [
    | yes f ↦
        let same : l ≡ m = (let g : Some l ≡ Some m = sym at ∙ subst (λ i. slice_get layers i ≡ Some m) f there in cc) in
        subst (λ (m : OwnLayer). All IsRect m.set) same sound
    | no f ↦ to.rects k m (let g : k < n = omega arith in g) there
  ];
}
