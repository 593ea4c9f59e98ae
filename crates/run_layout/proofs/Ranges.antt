-- Ranges that stay within plus or minus 2^36 once they are grown.
use Rattle.std.proofs.Common.{◌≡◌, ℕ, ◌≤◌, ◌^◌, ℤ, pos, ◌+ℤ◌, ◌-ℤ◌, ◌≤ℤ◌, Bool, true, false, arith}
use Rattle.std.proofs.lemmas.Int.{ints}
use Rattle.std.specs.Bool.{Decides}
use Rattle.std.specs.Int.Signed.{le_z}
use Rattle.geo_base.specs.Near.{IsWithin}
use Rattle.geo_base.specs.Rects.{grown}
use Rattle.geo_base.specs.declared.shapes.Rect.{Rect}
use Rattle.cell_graph.specs.Linked.{IsRectWithin}

abbrev pub StaysNear : ℤ → ℤ → ℕ → Type 0
StaysNear low high n = IsWithin (2 ^ 36) (low -ℤ pos n) × IsWithin (2 ^ 36) (high +ℤ pos n)

-- whether it does, by the room that is left on both sides
pub by_high : (low high : ℤ) (n : ℕ) → IsWithin (2 ^ 36) low → IsWithin (2 ^ 36) high → le_z (pos 0 -ℤ (pos (2 ^ 36) -ℤ pos n)) low ≡ true → Decides (le_z high (pos (2 ^ 36) -ℤ pos n)) (StaysNear low high n)
by_high low high n l h e = (yes, no)
  where
    yes : le_z high (pos (2 ^ 36) -ℤ pos n) ≡ true → StaysNear low high n
    yes f =
        let l1 = l.low in let l2 = l.high in let h1 = h.low in let h2 = h.high in
        let a : (pos 0 -ℤ (pos (2 ^ 36) -ℤ pos n)) ≤ℤ low = grind (arith, ints, e) in
        let b : high ≤ℤ (pos (2 ^ 36) -ℤ pos n) = grind (arith, ints, f) in
        (record { low = omega (arith, ints); high = omega (arith, ints) }, record { low = omega (arith, ints); high = omega (arith, ints) })

    no : StaysNear low high n → le_z high (pos (2 ^ 36) -ℤ pos n) ≡ true
    no w =
        let u = w.1.high in
        let b : high ≤ℤ (pos (2 ^ 36) -ℤ pos n) = omega (arith, ints) in
        grind (arith, ints, b)

pub by_low : (low high : ℤ) (n : ℕ) → le_z (pos 0 -ℤ (pos (2 ^ 36) -ℤ pos n)) low ≡ false → Decides false (StaysNear low high n)
by_low low high n e = ((λ f. absurd (let z : ⊥ = cc in z)), no)
  where
    no : StaysNear low high n → false ≡ true
    no w =
        let u = w.0.low in
        let a : (pos 0 -ℤ (pos (2 ^ 36) -ℤ pos n)) ≤ℤ low = omega (arith, ints) in
        let f : le_z (pos 0 -ℤ (pos (2 ^ 36) -ℤ pos n)) low ≡ true = grind (arith, ints, a) in
        cc

-- both directions
pub then_up : (r : Rect) (n : ℕ) (across up : Bool) → Decides across (StaysNear r.x1 r.x2 n) → across ≡ true → Decides up (StaysNear r.y1 r.y2 n) → Decides up (IsRectWithin (2 ^ 36) (grown n r))
then_up r n across up a e b = (
  (λ f. let x = a.0 e in let y = b.0 f in record { x1 = x.0; y1 = y.0; x2 = x.1; y2 = y.1 }),
  (λ w. b.1 (w.y1, w.y2)),
)
