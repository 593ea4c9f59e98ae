-- Two sizes.
use Rattle.std.proofs.Common.{◌≡◌, List, [], ◌∷◌, length, map, refl, arith}
use Rattle.std.specs.Prelude.{get_or}
use Rattle.fixed_num.specs.declared.femto.Femto.{Femto}

pub two_are : (sizes : List Femto) (f : Femto) → length sizes ≡ 2 → map (λ (s : Femto). s.0) sizes ≡ (get_or sizes 0 f).0 ∷ (get_or sizes 1 f).0 ∷ []
two_are (a ∷ b ∷ []) f e = refl
two_are [] f e = absurd (omega (arith, e))
two_are (a ∷ []) f e = absurd (omega (arith, e))
two_are (a ∷ b ∷ c ∷ more) f e = absurd (omega (arith, e))
