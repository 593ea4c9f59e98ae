-- Turns that undo themselves.
use Rattle.std.proofs.Common.{◌≡◌, ℤ, refl, arith}
use Rattle.std.proofs.lemmas.Int.{ints}
use Rattle.geo_base.specs.declared.motion.Turn.{Turn}
use Rattle.geo_base.specs.declared.motion.Turn.TheVariants.{R0, R90, R180, R270, M0, M90, M180, M270}
use Rattle.geo_base.specs.Motions.{turned_x, turned_y}

pub twice_x : (t : Turn) (x y u v : ℤ) → (t ≡ R90 → ⊥) → (t ≡ R270 → ⊥) → u ≡ turned_x t x y → v ≡ turned_y t x y → turned_x t u v ≡ x
twice_x R0 x y u v g h a b = omega (arith, ints)
twice_x R90 x y u v g h a b = absurd (g refl)
twice_x R180 x y u v g h a b = omega (arith, ints)
twice_x R270 x y u v g h a b = absurd (h refl)
twice_x M0 x y u v g h a b = omega (arith, ints)
twice_x M90 x y u v g h a b = omega (arith, ints)
twice_x M180 x y u v g h a b = omega (arith, ints)
twice_x M270 x y u v g h a b = omega (arith, ints)

pub twice_y : (t : Turn) (x y u v : ℤ) → (t ≡ R90 → ⊥) → (t ≡ R270 → ⊥) → u ≡ turned_x t x y → v ≡ turned_y t x y → turned_y t u v ≡ y
twice_y R0 x y u v g h a b = omega (arith, ints)
twice_y R90 x y u v g h a b = absurd (g refl)
twice_y R180 x y u v g h a b = omega (arith, ints)
twice_y R270 x y u v g h a b = absurd (h refl)
twice_y M0 x y u v g h a b = omega (arith, ints)
twice_y M90 x y u v g h a b = omega (arith, ints)
twice_y M180 x y u v g h a b = omega (arith, ints)
twice_y M270 x y u v g h a b = omega (arith, ints)
