-- Motions keep which squares lie beside and around each other, and reach each square.
use Rattle.std.proofs.Common.{◌≡◌, ◌↔◌, inl, inr, ℕ, ◌+◌, ◌≤◌, ℤ, pos, ◌+ℤ◌, ◌-ℤ◌, ◌≤ℤ◌, arith}
use Rattle.std.proofs.lemmas.Int.{ints}
use Rattle.flat_layout.specs.Plane.{SharesEdge, AreWithin, IsAround}
use Rattle.geo_base.specs.Motions.{moved_square, turned_x, turned_y}
use Rattle.geo_base.specs.declared.motion.Motion.{Motion}
use Rattle.geo_base.specs.declared.motion.Turn.{Turn}
use Rattle.geo_base.specs.declared.motion.Turn.TheVariants.{R0, R90, R180, R270, M0, M90, M180, M270}
use Rattle.geo_base.specs.declared.shapes.Square.{Square}
use Rattle.flat_laws.proofs.Squares.{same_square, AreBeside, edge_moved}

edge_unmoved : (t : Turn) (a b c d u v : ℤ) → AreBeside (turned_x t a b +ℤ u) (turned_y t a b +ℤ v) (turned_x t c d +ℤ u) (turned_y t c d +ℤ v) → AreBeside a b c d
edge_unmoved R0 a b c d u v (inl (e, inl f)) = inl (omega (arith, ints), inl (omega (arith, ints)))
edge_unmoved R0 a b c d u v (inl (e, inr f)) = inl (omega (arith, ints), inr (omega (arith, ints)))
edge_unmoved R0 a b c d u v (inr (e, inl f)) = inr (omega (arith, ints), inl (omega (arith, ints)))
edge_unmoved R0 a b c d u v (inr (e, inr f)) = inr (omega (arith, ints), inr (omega (arith, ints)))
edge_unmoved R90 a b c d u v (inl (e, inl f)) = inr (omega (arith, ints), inl (omega (arith, ints)))
edge_unmoved R90 a b c d u v (inl (e, inr f)) = inr (omega (arith, ints), inr (omega (arith, ints)))
edge_unmoved R90 a b c d u v (inr (e, inl f)) = inl (omega (arith, ints), inr (omega (arith, ints)))
edge_unmoved R90 a b c d u v (inr (e, inr f)) = inl (omega (arith, ints), inl (omega (arith, ints)))
edge_unmoved R180 a b c d u v (inl (e, inl f)) = inl (omega (arith, ints), inr (omega (arith, ints)))
edge_unmoved R180 a b c d u v (inl (e, inr f)) = inl (omega (arith, ints), inl (omega (arith, ints)))
edge_unmoved R180 a b c d u v (inr (e, inl f)) = inr (omega (arith, ints), inr (omega (arith, ints)))
edge_unmoved R180 a b c d u v (inr (e, inr f)) = inr (omega (arith, ints), inl (omega (arith, ints)))
edge_unmoved R270 a b c d u v (inl (e, inl f)) = inr (omega (arith, ints), inr (omega (arith, ints)))
edge_unmoved R270 a b c d u v (inl (e, inr f)) = inr (omega (arith, ints), inl (omega (arith, ints)))
edge_unmoved R270 a b c d u v (inr (e, inl f)) = inl (omega (arith, ints), inl (omega (arith, ints)))
edge_unmoved R270 a b c d u v (inr (e, inr f)) = inl (omega (arith, ints), inr (omega (arith, ints)))
edge_unmoved M0 a b c d u v (inl (e, inl f)) = inl (omega (arith, ints), inr (omega (arith, ints)))
edge_unmoved M0 a b c d u v (inl (e, inr f)) = inl (omega (arith, ints), inl (omega (arith, ints)))
edge_unmoved M0 a b c d u v (inr (e, inl f)) = inr (omega (arith, ints), inl (omega (arith, ints)))
edge_unmoved M0 a b c d u v (inr (e, inr f)) = inr (omega (arith, ints), inr (omega (arith, ints)))
edge_unmoved M90 a b c d u v (inl (e, inl f)) = inr (omega (arith, ints), inl (omega (arith, ints)))
edge_unmoved M90 a b c d u v (inl (e, inr f)) = inr (omega (arith, ints), inr (omega (arith, ints)))
edge_unmoved M90 a b c d u v (inr (e, inl f)) = inl (omega (arith, ints), inl (omega (arith, ints)))
edge_unmoved M90 a b c d u v (inr (e, inr f)) = inl (omega (arith, ints), inr (omega (arith, ints)))
edge_unmoved M180 a b c d u v (inl (e, inl f)) = inl (omega (arith, ints), inl (omega (arith, ints)))
edge_unmoved M180 a b c d u v (inl (e, inr f)) = inl (omega (arith, ints), inr (omega (arith, ints)))
edge_unmoved M180 a b c d u v (inr (e, inl f)) = inr (omega (arith, ints), inr (omega (arith, ints)))
edge_unmoved M180 a b c d u v (inr (e, inr f)) = inr (omega (arith, ints), inl (omega (arith, ints)))
edge_unmoved M270 a b c d u v (inl (e, inl f)) = inr (omega (arith, ints), inr (omega (arith, ints)))
edge_unmoved M270 a b c d u v (inl (e, inr f)) = inr (omega (arith, ints), inl (omega (arith, ints)))
edge_unmoved M270 a b c d u v (inr (e, inl f)) = inl (omega (arith, ints), inr (omega (arith, ints)))
edge_unmoved M270 a b c d u v (inr (e, inr f)) = inl (omega (arith, ints), inl (omega (arith, ints)))

pub edges : (m : Motion) (p q : Square) → SharesEdge (moved_square m p) (moved_square m q) ↔ SharesEdge p q
edges m p q = (edge_unmoved m.turn p.x p.y q.x q.y m.dx m.dy, edge_moved m.turn p.x p.y q.x q.y m.dx m.dy)

abbrev AreNear : ℕ → ℤ → ℤ → ℤ → ℤ → Type 0
AreNear n a b c d = (c ≤ℤ (a +ℤ pos n)) × (a ≤ℤ (c +ℤ pos n)) × (d ≤ℤ (b +ℤ pos n)) × (b ≤ℤ (d +ℤ pos n))

near_moved : (t : Turn) (n : ℕ) (a b c d u v : ℤ) → AreNear n a b c d → AreNear n (turned_x t a b +ℤ u) (turned_y t a b +ℤ v) (turned_x t c d +ℤ u) (turned_y t c d +ℤ v)
near_moved R0 n a b c d u v (e, f, g, h) = (omega (arith, ints), omega (arith, ints), omega (arith, ints), omega (arith, ints))
near_moved R90 n a b c d u v (e, f, g, h) = (omega (arith, ints), omega (arith, ints), omega (arith, ints), omega (arith, ints))
near_moved R180 n a b c d u v (e, f, g, h) = (omega (arith, ints), omega (arith, ints), omega (arith, ints), omega (arith, ints))
near_moved R270 n a b c d u v (e, f, g, h) = (omega (arith, ints), omega (arith, ints), omega (arith, ints), omega (arith, ints))
near_moved M0 n a b c d u v (e, f, g, h) = (omega (arith, ints), omega (arith, ints), omega (arith, ints), omega (arith, ints))
near_moved M90 n a b c d u v (e, f, g, h) = (omega (arith, ints), omega (arith, ints), omega (arith, ints), omega (arith, ints))
near_moved M180 n a b c d u v (e, f, g, h) = (omega (arith, ints), omega (arith, ints), omega (arith, ints), omega (arith, ints))
near_moved M270 n a b c d u v (e, f, g, h) = (omega (arith, ints), omega (arith, ints), omega (arith, ints), omega (arith, ints))

near_unmoved : (t : Turn) (n : ℕ) (a b c d u v : ℤ) → AreNear n (turned_x t a b +ℤ u) (turned_y t a b +ℤ v) (turned_x t c d +ℤ u) (turned_y t c d +ℤ v) → AreNear n a b c d
near_unmoved R0 n a b c d u v (e, f, g, h) = (omega (arith, ints), omega (arith, ints), omega (arith, ints), omega (arith, ints))
near_unmoved R90 n a b c d u v (e, f, g, h) = (omega (arith, ints), omega (arith, ints), omega (arith, ints), omega (arith, ints))
near_unmoved R180 n a b c d u v (e, f, g, h) = (omega (arith, ints), omega (arith, ints), omega (arith, ints), omega (arith, ints))
near_unmoved R270 n a b c d u v (e, f, g, h) = (omega (arith, ints), omega (arith, ints), omega (arith, ints), omega (arith, ints))
near_unmoved M0 n a b c d u v (e, f, g, h) = (omega (arith, ints), omega (arith, ints), omega (arith, ints), omega (arith, ints))
near_unmoved M90 n a b c d u v (e, f, g, h) = (omega (arith, ints), omega (arith, ints), omega (arith, ints), omega (arith, ints))
near_unmoved M180 n a b c d u v (e, f, g, h) = (omega (arith, ints), omega (arith, ints), omega (arith, ints), omega (arith, ints))
near_unmoved M270 n a b c d u v (e, f, g, h) = (omega (arith, ints), omega (arith, ints), omega (arith, ints), omega (arith, ints))

pub withins : (n : ℕ) (m : Motion) (p q : Square) → AreWithin n (moved_square m p) (moved_square m q) ↔ AreWithin n p q
withins n m p q = (
  (λ h. let r = near_unmoved m.turn n p.x p.y q.x q.y m.dx m.dy (h.left, h.right, h.low, h.high) in record { left = r.0; right = r.1; low = r.2; high = r.3 }),
  (λ h. let r = near_moved m.turn n p.x p.y q.x q.y m.dx m.dy (h.left, h.right, h.low, h.high) in record { left = r.0; right = r.1; low = r.2; high = r.3 }),
)

pub arounds : (m : Motion) (p q : Square) → IsAround (moved_square m p) (moved_square m q) ↔ IsAround p q
arounds m p q = withins 1 m p q

pub within_same : (n : ℕ) (q : Square) → AreWithin n q q
within_same n q = record { left = omega (arith, ints); right = omega (arith, ints); low = omega (arith, ints); high = omega (arith, ints) }

pub around_same : (p : Square) → IsAround p p
around_same p = within_same 1 p

-- within 0 of a square lies that square alone
pub within_none : (p q : Square) → AreWithin 0 p q → p ≡ q
within_none p q h =
    let a = h.left in let b = h.right in let c = h.low in let e = h.high in
    same_square p q (omega (arith, ints)) (omega (arith, ints))

pub within_back : (n : ℕ) (p q : Square) → AreWithin n p q → AreWithin n q p
within_back n p q h = record { left = h.right; right = h.left; low = h.high; high = h.low }

pub wider : (m n : ℕ) (p q : Square) → m ≤ n → AreWithin m p q → AreWithin n p q
wider m n p q lt h =
    let a = h.left in let b = h.right in let c = h.low in let e = h.high in
    record { left = omega (arith, ints); right = omega (arith, ints); low = omega (arith, ints); high = omega (arith, ints) }

pub farther : (m n : ℕ) (p q r : Square) → AreWithin m p q → AreWithin n q r → AreWithin (m + n) p r
farther m n p q r h k =
    let a = h.left in let b = h.right in let c = h.low in let e = h.high in
    let a' = k.left in let b' = k.right in let c' = k.low in let e' = k.high in
    record { left = omega (arith, ints); right = omega (arith, ints); low = omega (arith, ints); high = omega (arith, ints) }

beside_round : (a b c d : ℤ) → AreBeside a b c d → AreNear 1 a b c d
beside_round a b c d (inl (e, inl f)) = (omega (arith, ints), omega (arith, ints), omega (arith, ints), omega (arith, ints))
beside_round a b c d (inl (e, inr f)) = (omega (arith, ints), omega (arith, ints), omega (arith, ints), omega (arith, ints))
beside_round a b c d (inr (e, inl f)) = (omega (arith, ints), omega (arith, ints), omega (arith, ints), omega (arith, ints))
beside_round a b c d (inr (e, inr f)) = (omega (arith, ints), omega (arith, ints), omega (arith, ints), omega (arith, ints))

pub edge_around : (p q : Square) → SharesEdge p q → IsAround p q
edge_around p q h = let r = beside_round p.x p.y q.x q.y h in record { left = r.0; right = r.1; low = r.2; high = r.3 }

onto_at : (t : Turn) (u v a b : ℤ) → (c : ℤ) × (e : ℤ) × (turned_x t c e +ℤ u ≡ a) × (turned_y t c e +ℤ v ≡ b)
onto_at R0 u v a b = ((a -ℤ u), (b -ℤ v), omega (arith, ints), omega (arith, ints))
onto_at R90 u v a b = ((b -ℤ v), (pos 0 -ℤ (a -ℤ u) -ℤ pos 1), omega (arith, ints), omega (arith, ints))
onto_at R180 u v a b = ((pos 0 -ℤ (a -ℤ u) -ℤ pos 1), (pos 0 -ℤ (b -ℤ v) -ℤ pos 1), omega (arith, ints), omega (arith, ints))
onto_at R270 u v a b = ((pos 0 -ℤ (b -ℤ v) -ℤ pos 1), (a -ℤ u), omega (arith, ints), omega (arith, ints))
onto_at M0 u v a b = ((a -ℤ u), (pos 0 -ℤ (b -ℤ v) -ℤ pos 1), omega (arith, ints), omega (arith, ints))
onto_at M90 u v a b = ((b -ℤ v), (a -ℤ u), omega (arith, ints), omega (arith, ints))
onto_at M180 u v a b = ((pos 0 -ℤ (a -ℤ u) -ℤ pos 1), (b -ℤ v), omega (arith, ints), omega (arith, ints))
onto_at M270 u v a b = ((pos 0 -ℤ (b -ℤ v) -ℤ pos 1), (pos 0 -ℤ (a -ℤ u) -ℤ pos 1), omega (arith, ints), omega (arith, ints))

-- each square is the image of one
pub onto : (m : Motion) (q : Square) → (s : Square) × (moved_square m s ≡ q)
onto m q =
    let h = onto_at m.turn m.dx m.dy q.x q.y in
    let s : Square = record { x = h.0; y = h.1 } in
    (s, same_square (moved_square m s) q h.2 h.3)
