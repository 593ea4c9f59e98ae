-- The length of points as data, and one point more.
use Rattle.std.proofs.Common.{◌≡◌, ℕ, ◌+◌, ◌*◌, ◌<◌, ◌≤◌, List, [], ◌∷◌, ◌++◌, take, length, get_or, refl, sym, ap, ◌∙◌, arith}
use Rattle.std.specs.List.{flat_map}
use Rattle.std.proofs.lemmas.List.{append-nil, take_all, take_more}
use Rattle.std.proofs.lemmas.Grind.{flat_map-append}
use Rattle.geo_base.specs.declared.shapes.Point.{Point}
use Rattle.gds_shapes.specs.Data.{point_bytes}

pub points_length : (ps : List Point) → length (flat_map point_bytes ps) ≡ 8 * length ps
points_length [] = refl
points_length (p ∷ ps) = let e = points_length ps in omega (arith, e)

pub point_push : (ps : List Point) (i : ℕ) (d : Point) (body new : List ℕ) → i < length ps → body ≡ flat_map point_bytes (take i ps) → new ≡ body ++ point_bytes (get_or ps i d)
    → new ≡ flat_map point_bytes (take (i + 1) ps)
point_push ps i d body new lt e f =
    let one : flat_map point_bytes (get_or ps i d ∷ []) ≡ point_bytes (get_or ps i d) = append-nil (point_bytes (get_or ps i d)) in
    f ∙ ap (λ (bs : List ℕ). bs ++ point_bytes (get_or ps i d)) e ∙ ap (λ (bs : List ℕ). flat_map point_bytes (take i ps) ++ bs) (sym one)
    ∙ sym (flat_map-append point_bytes (take i ps) (get_or ps i d ∷ [])) ∙ ap (λ (qs : List Point). flat_map point_bytes qs) (sym (take_more ps i d lt))

pub all_points : (ps : List Point) (i : ℕ) (body shown : List ℕ) → shown ≡ body → body ≡ flat_map point_bytes (take i ps) → length ps ≤ i → shown ≡ flat_map point_bytes ps
all_points ps i body shown e f end = e ∙ f ∙ ap (λ (qs : List Point). flat_map point_bytes qs) (take_all i ps end)

pub all_length : (ps : List Point) (shown : List ℕ) → shown ≡ flat_map point_bytes ps → length shown ≡ 8 * length ps
all_length ps shown e = ap (λ (bs : List ℕ). length bs) e ∙ points_length ps
