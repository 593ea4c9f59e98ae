-- Signed numbers as they are handed to a function.
use Rattle.std.proofs.Common.{◌≡◌, ℕ, [], ◌∷◌, ap, ◌∙◌, ◌≤◌, rules, ℤ, pos, w32, w64, SFits, to_z, of_z}
use Rattle.std.specs.List.{flat_map}
use Rattle.std.proofs.lemmas.Int.{to_z-of_z}
use Rattle.gds_shapes.specs.Data.{point_bytes}

-- a point of two of them
pub passed_point : (x y : ℤ) → SFits w32 x → SFits w32 y
    → flat_map point_bytes (record { x = to_z w32 (of_z w32 x); y = to_z w32 (of_z w32 y) } ∷ []) ≡ flat_map point_bytes (record { x = x; y = y } ∷ [])
passed_point x y f g =
    ap (λ (z : ℤ). flat_map point_bytes (record { x = z; y = to_z w32 (of_z w32 y) } ∷ [])) (to_z-of_z w32 x f)
    ∙ ap (λ (z : ℤ). flat_map point_bytes (record { x = x; y = z } ∷ [])) (to_z-of_z w32 y g)

-- a coordinate in the chip
pub passed_place : (x : ℕ) (z : ℤ) → x ≤ 4000000 → z ≡ pos x → to_z w64 (of_z w64 z) ≡ pos x
passed_place x z h e =
    let f : SFits w64 (pos x) = search rules in
    ap (λ (y : ℤ). to_z w64 (of_z w64 y)) e ∙ to_z-of_z w64 (pos x) f
