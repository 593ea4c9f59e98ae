-- Points that are the same.
use Rattle.std.proofs.Common.{◌≡◌, ℤ, Bool, true, false, [], ◌∷◌, refl, ap, ◌∙◌, arith}
use Rattle.std.specs.Prelude.{◌&&◌}
use Rattle.std.proofs.lemmas.Int.{ints}
use Rattle.geo_base.specs.declared.shapes.Point.{Point}
use Rattle.gds_elements.specs.Data.{is_same}

pub same_point : (p q : Point) → is_same p q ≡ true → p ≡ q
same_point p q h =
    let x : p.x ≡ q.x = grind (arith, ints) in
    let y : p.y ≡ q.y = grind (arith, ints) in
    ap (λ (z : ℤ). let r : Point = record { x = z; y = p.y } in r) x ∙ ap (λ (z : ℤ). let r : Point = record { x = q.x; y = z } in r) y

both : (x y z : Bool) → (x && (y && z)) ≡ true → (x ≡ true) × (y ≡ true) × (z ≡ true)
both true true true h = (refl, refl, refl)
both true true false h = absurd (cc)
both true false z h = absurd (cc)
both false y z h = absurd (cc)

-- five points of which b, d and e are p, q and a
pub went : (a b c d e p q : Point) → (is_same b p && (is_same d q && is_same e a)) ≡ true → a ∷ b ∷ c ∷ d ∷ e ∷ [] ≡ a ∷ p ∷ c ∷ q ∷ a ∷ []
went a b c d e p q h =
    let (f, g, k) = both (is_same b p) (is_same d q) (is_same e a) h in
    let one : b ≡ p = same_point b p f in
    let two : d ≡ q = same_point d q g in
    let three : e ≡ a = same_point e a k in
    cc
