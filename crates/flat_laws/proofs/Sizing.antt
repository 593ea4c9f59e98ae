-- Sized sets that a placement carries.
use Rattle.std.proofs.Common.{suc, ℤ, pos, negsuc, unsigned_abs, sym, subst}
use Rattle.flat_layout.specs.Layout.{Place}
use Rattle.flat_layout.specs.Plane.{AreWithin, IsSized}
use Rattle.geo_base.specs.Motions.{moved_square}
use Rattle.geo_base.specs.declared.shapes.Square.{Square}
use Rattle.flat_laws.proofs.Moves.{onto, withins}

-- what is carried up within the size is so when sized
pub size_up : (set there : Square → Type 0) (p : Place) (by : ℤ) (q : Square) → ((z : Square) → AreWithin (unsigned_abs by) z q → set z → there (moved_square p.motion z)) → IsSized by set q → IsSized by there (moved_square p.motion q)
size_up set there p (pos n) q up = λ h. record { square = moved_square p.motion h.square; within = (withins n p.motion h.square q).1 h.within; has = up h.square h.within h.has }
size_up set there p (negsuc n) q up = λ h z near.
    let o = onto p.motion z in
    let close : AreWithin (suc n) o.0 q = (withins (suc n) p.motion o.0 q).0 (subst (λ v. AreWithin (suc n) v (moved_square p.motion q)) (sym o.1) near) in
    subst (λ v. there v) o.1 (up o.0 close (h o.0 close))

-- and what is carried down
pub size_down : (set there : Square → Type 0) (p : Place) (by : ℤ) (q : Square) → ((z : Square) → AreWithin (unsigned_abs by) z q → there (moved_square p.motion z) → set z) → IsSized by there (moved_square p.motion q) → IsSized by set q
size_down set there p (pos n) q down = λ h.
    let o = onto p.motion h.square in
    let near : AreWithin n o.0 q = (withins n p.motion o.0 q).0 (subst (λ z. AreWithin n z (moved_square p.motion q)) (sym o.1) h.within) in
    record { square = o.0; within = near; has = down o.0 near (subst (λ z. there z) (sym o.1) h.has) }
size_down set there p (negsuc n) q down = λ h z near. down z near (h (moved_square p.motion z) ((withins (suc n) p.motion z q).1 near))
