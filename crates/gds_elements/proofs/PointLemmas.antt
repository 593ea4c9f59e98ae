-- One point more.
use Rattle.std.proofs.Common.{◌≡◌, ℕ, ◌-◌, ◌≤◌, ◌<◌, List, [], ◌∷◌, ◌++◌, length, take, drop, refl, sym, ap, ◌∙◌, append_assoc, arith}
use Rattle.std.proofs.lemmas.List.{take_all, length-drop}
use Rattle.geo_base.specs.declared.shapes.Point.{Point}
use Rattle.gds_elements.specs.Data.{points_of, first_point}

pub points_more : (bytes : List ℕ) → 8 ≤ length bytes → points_of bytes ≡ first_point bytes ∷ points_of (drop 8 bytes)
points_more [] h = absurd (omega arith)
points_more (a ∷ []) h = absurd (omega arith)
points_more (a ∷ b ∷ []) h = absurd (omega arith)
points_more (a ∷ b ∷ c ∷ []) h = absurd (omega arith)
points_more (a ∷ b ∷ c ∷ d ∷ []) h = absurd (omega arith)
points_more (a ∷ b ∷ c ∷ d ∷ e ∷ []) h = absurd (omega arith)
points_more (a ∷ b ∷ c ∷ d ∷ e ∷ f ∷ []) h = absurd (omega arith)
points_more (a ∷ b ∷ c ∷ d ∷ e ∷ f ∷ g ∷ []) h = absurd (omega arith)
points_more (a ∷ b ∷ c ∷ d ∷ e ∷ f ∷ g ∷ i ∷ rest) h = refl

pub goes_on : (front total : List Point) (bytes : List ℕ) (p : Point) → 8 ≤ length bytes → p ≡ first_point bytes → front ++ points_of bytes ≡ total
    → (front ++ p ∷ []) ++ points_of (take (length bytes - 8) (drop 8 bytes)) ≡ total
goes_on front total bytes p h e so_far =
    let whole : take (length bytes - 8) (drop 8 bytes) ≡ drop 8 bytes = take_all _ _ (omega (arith, length-drop 8 bytes)) in
    rw (whole, e) (append_assoc front (first_point bytes ∷ []) (points_of (drop 8 bytes)) ∙ ap (λ (ps : List Point). front ++ ps) (sym (points_more bytes h)) ∙ so_far)

pub no_more : (bytes : List ℕ) → length bytes < 8 → points_of bytes ≡ []
no_more [] h = refl
no_more (a ∷ []) h = refl
no_more (a ∷ b ∷ []) h = refl
no_more (a ∷ b ∷ c ∷ []) h = refl
no_more (a ∷ b ∷ c ∷ d ∷ []) h = refl
no_more (a ∷ b ∷ c ∷ d ∷ e ∷ []) h = refl
no_more (a ∷ b ∷ c ∷ d ∷ e ∷ f ∷ []) h = refl
no_more (a ∷ b ∷ c ∷ d ∷ e ∷ f ∷ g ∷ []) h = refl
no_more (a ∷ b ∷ c ∷ d ∷ e ∷ f ∷ g ∷ i ∷ rest) h = absurd (omega arith)
