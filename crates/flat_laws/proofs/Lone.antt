-- What others may make alone.
use Rattle.std.proofs.Common.{◌≡◌, inl, inr, ℕ, suc, ◌+◌, max, ℤ, pos, negsuc, unsigned_abs, [], ◌∷◌, ◌++◌, refl, sym, subst}
use Rattle.std.proofs.Math.Nat.{le-max_left, le-max_right}
use Rattle.flat_layout.specs.Layers.{Formula, Input, Empty, Binary, Sized, inputs, reach, InFlat, IsLone}
use Rattle.flat_layout.specs.Layout.{Place, Design, IsPlaced, IsDisturbed, IsReached, IsHeight}
use Rattle.flat_layout.specs.Plane.{AreWithin, IsSized}
use Rattle.flat_layout.specs.declared.way.Way.{Way}
use Rattle.geo_base.specs.Motions.{moved_square}
use Rattle.geo_base.specs.declared.layer.Op.{Op}
use Rattle.geo_base.specs.declared.layer.Op.TheVariants.{And, Or, Not, Xor}
use Rattle.geo_base.specs.declared.shapes.Square.{Square}
use Rattle.flat_laws.specs.ShutLaws.{LoneLaw, keeping}
use Rattle.flat_laws.proofs.Moves.{onto, withins, within_same, wider, farther}
use Rattle.flat_laws.proofs.Names.{more_left, more_right, fewer}
use Rattle.flat_laws.proofs.Paths.{disturbs, first_differs}
use Rattle.flat_laws.proofs.Sizing.{size_down}
use Rattle.flat_laws.proofs.Shut.{calm_top, disturbed_below}

module _ (d : Design) (cell j k : ℕ) (p r : Place) (reached : IsReached d cell) (first : IsPlaced d cell j p) (second : IsPlaced d cell k r) (not : j ≡ k → ⊥) where
  -- a set of the other placement's, taken over to this one, sized
  over : (set here : Square → Type 0) (by : ℤ) (q z : Square) → moved_square p.motion q ≡ moved_square r.motion z
      → ((b a : Square) → moved_square p.motion b ≡ moved_square r.motion a → set a → here b) → IsSized by set z → IsSized by here q
  over set here (pos n) q z e each h =
      let o = onto p.motion (moved_square r.motion h.square) in
      let up : AreWithin n (moved_square r.motion h.square) (moved_square r.motion z) = (withins n r.motion h.square z).1 h.within in
      let there : AreWithin n (moved_square p.motion o.0) (moved_square p.motion q) = subst (λ v. AreWithin n (moved_square p.motion o.0) v) (sym e) (subst (λ v. AreWithin n v (moved_square r.motion z)) (sym o.1) up) in
      record { square = o.0; within = (withins n p.motion o.0 q).0 there; has = each o.0 h.square o.1 h.has }
  over set here (negsuc n) q z e each h = λ b near.
      let o = onto r.motion (moved_square p.motion b) in
      let up : AreWithin (suc n) (moved_square p.motion b) (moved_square p.motion q) = (withins (suc n) p.motion b q).1 near in
      let there : AreWithin (suc n) (moved_square r.motion o.0) (moved_square r.motion z) = subst (λ v. AreWithin (suc n) (moved_square r.motion o.0) v) e (subst (λ v. AreWithin (suc n) v (moved_square p.motion q)) (sym o.1) up) in
      each b o.0 (sym o.1) (h o.0 ((withins (suc n) r.motion o.0 z).0 there))

  alone : (name : Formula) (q z : Square) → moved_square p.motion q ≡ moved_square r.motion z → InFlat d r.cell name z → IsLone d p.cell name q
  alone (Input key) q z e h = disturbs d (key ∷ []) key cell j p q h.square (k ∷ h.path) h.end reached first (inl refl) (r, second, z, h.takes, sym e) h.own (first_differs k j h.path (λ i. not (sym i)))
  alone Empty q z e h = h
  alone (Binary And a b) q z e h = (alone a q z e h.0, alone b q z e h.1)
  alone (Binary Or a b) q z e (inl h) = inl (alone a q z e h)
  alone (Binary Or a b) q z e (inr h) = inr (alone b q z e h)
  alone (Binary Not a b) q z e h = alone a q z e h.0
  alone (Binary Xor a b) q z e (inl h) = inl (alone a q z e h.0)
  alone (Binary Xor a b) q z e (inr h) = inr (alone b q z e h.0)
  alone (Sized by a) q z e h = over (InFlat d r.cell a) (IsLone d p.cell a) by q z e (λ y x i f. alone a y x i f) h

pub lone : (v : Way) → LoneLaw (keeping v)
lone v d name cell j k p r q z reached first second not e h = alone d cell j k p r reached first second not name q z e h

-- it goes down through placements
pub lone_below : (d : Design) (name : Formula) (parent k : ℕ) (p : Place) (q : Square) → IsPlaced d parent k p → IsLone d parent name (moved_square p.motion q) → IsLone d p.cell name q
lone_below d (Input key) parent k p q placed h = disturbed_below d (key ∷ []) parent k p q placed h
lone_below d Empty parent k p q placed h = h
lone_below d (Binary And a b) parent k p q placed h = (lone_below d a parent k p q placed h.0, lone_below d b parent k p q placed h.1)
lone_below d (Binary Or a b) parent k p q placed (inl h) = inl (lone_below d a parent k p q placed h)
lone_below d (Binary Or a b) parent k p q placed (inr h) = inr (lone_below d b parent k p q placed h)
lone_below d (Binary Not a b) parent k p q placed h = lone_below d a parent k p q placed h
lone_below d (Binary Xor a b) parent k p q placed (inl h) = inl (lone_below d a parent k p q placed h)
lone_below d (Binary Xor a b) parent k p q placed (inr h) = inr (lone_below d b parent k p q placed h)
lone_below d (Sized by a) parent k p q placed h = size_down (IsLone d p.cell a) (IsLone d parent a) p by q (λ z near i. lone_below d a parent k p z placed i) h

-- and lies near what is disturbed
abbrev IsNearDisturbed : Design → ℕ → Formula → Square → Type 0
IsNearDisturbed d cell name q = (z : Square) × AreWithin (reach name) z q × IsDisturbed d (inputs name) cell z

from_left : (d : Design) (cell : ℕ) (op : Op) (a b : Formula) (q : Square) → IsNearDisturbed d cell a q → IsNearDisturbed d cell (Binary op a b) q
from_left d cell op a b q h = (h.0, wider (reach a) (max (reach a) (reach b)) h.0 q (le-max_left (reach a) (reach b)) h.1, fewer d (inputs a) (inputs a ++ inputs b) cell h.0 (λ key l. more_left (λ j. j ≡ key) (inputs a) (inputs b) l) h.2)

from_right : (d : Design) (cell : ℕ) (op : Op) (a b : Formula) (q : Square) → IsNearDisturbed d cell b q → IsNearDisturbed d cell (Binary op a b) q
from_right d cell op a b q h = (h.0, wider (reach b) (max (reach a) (reach b)) h.0 q (le-max_right (reach a) (reach b)) h.1, fewer d (inputs b) (inputs a ++ inputs b) cell h.0 (λ key l. more_right (λ j. j ≡ key) (inputs a) (inputs b) l) h.2)

from_size : (set : Square → Type 0) (by : ℤ) (q : Square) → IsSized by set q → (z : Square) × AreWithin (unsigned_abs by) z q × set z
from_size set (pos n) q h = (h.square, h.within, h.has)
from_size set (negsuc n) q h = (q, within_same (suc n) q, h q (within_same (suc n) q))

pub near_disturbed : (d : Design) (cell : ℕ) (name : Formula) (q : Square) → IsLone d cell name q → IsNearDisturbed d cell name q
near_disturbed d cell (Input key) q h = (q, within_same 0 q, h)
near_disturbed d cell Empty q h = absurd h
near_disturbed d cell (Binary And a b) q h = from_left d cell And a b q (near_disturbed d cell a q h.0)
near_disturbed d cell (Binary Or a b) q (inl h) = from_left d cell Or a b q (near_disturbed d cell a q h)
near_disturbed d cell (Binary Or a b) q (inr h) = from_right d cell Or a b q (near_disturbed d cell b q h)
near_disturbed d cell (Binary Not a b) q h = from_left d cell Not a b q (near_disturbed d cell a q h)
near_disturbed d cell (Binary Xor a b) q (inl h) = from_left d cell Xor a b q (near_disturbed d cell a q h)
near_disturbed d cell (Binary Xor a b) q (inr h) = from_right d cell Xor a b q (near_disturbed d cell b q h)
near_disturbed d cell (Sized by a) q h =
    let z = from_size (IsLone d cell a) by q h in
    let r = near_disturbed d cell a z.0 z.2 in
    (r.0, farther (reach a) (unsigned_abs by) r.0 z.0 q r.1 z.1, r.2)

pub lone_top : (d : Design) (height : ℕ → ℕ) → IsHeight d height → (name : Formula) (q : Square) → IsLone d d.top name q → ⊥
lone_top d height linked name q h = let r = near_disturbed d d.top name q h in calm_top d height linked (inputs name) r.0 r.2
