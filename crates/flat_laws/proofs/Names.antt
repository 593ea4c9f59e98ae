-- What is stirred for a name, and how far from a flat square of it its shapes lie.
use Rattle.std.proofs.Common.{◌≡◌, inl, inr, ℕ, suc, max, ◌≤◌, ℤ, pos, negsuc, unsigned_abs, List, [], ◌∷◌, ◌++◌, refl, subst}
use Rattle.std.proofs.Math.Nat.{le-max_left, le-max_right}
use Rattle.flat_laws.specs.LayerLaws.{NearInputLaw, StillLaw}
use Rattle.flat_layout.specs.Layers.{Formula, Input, Empty, Binary, Sized, inputs, reach, InFlat, IsStirred}
use Rattle.flat_layout.specs.Layout.{Design, Some_of, InFlatInput, IsDisturbed}
use Rattle.flat_layout.specs.Plane.{AreWithin, IsSized}
use Rattle.geo_base.specs.declared.layer.LayerKey.{LayerKey}
use Rattle.geo_base.specs.declared.layer.Op.{Op}
use Rattle.geo_base.specs.declared.layer.Op.TheVariants.{And, Or, Not, Xor}
use Rattle.geo_base.specs.declared.shapes.Square.{Square}
use Rattle.flat_laws.proofs.Moves.{within_same, within_none, wider, farther}

-- a disturbed square is stirred, however far one looks
pub stirs : (d : Design) (keys : List LayerKey) (n cell : ℕ) (q : Square) → IsDisturbed d keys cell q → IsStirred d keys n cell q
stirs d keys n cell q h = record { square = q; within = within_same n q; disturbed = h }

pub still : StillLaw
still d keys cell q = (
  (λ h. subst (λ z. IsDisturbed d keys cell z) (within_none h.square q h.within) h.disturbed),
  stirs d keys 0 cell q,
)

pub more_left : (P : LayerKey → Type 0) (xs ys : List LayerKey) → Some_of P xs → Some_of P (xs ++ ys)
more_left P [] ys h = absurd h
more_left P (x ∷ xs) ys (inl h) = inl h
more_left P (x ∷ xs) ys (inr h) = inr (more_left P xs ys h)

pub more_right : (P : LayerKey → Type 0) (xs ys : List LayerKey) → Some_of P ys → Some_of P (xs ++ ys)
more_right P [] ys h = h
more_right P (x ∷ xs) ys h = inr (more_right P xs ys h)

pub fewer : (d : Design) (keys more : List LayerKey) (cell : ℕ) (q : Square) → ((key : LayerKey) → Some_of (λ k. k ≡ key) keys → Some_of (λ k. k ≡ key) more) → IsDisturbed d keys cell q → IsDisturbed d more cell q
fewer d keys more cell q grow h = record { path = h.path; other = h.other; end = h.end; square = h.square; place = h.place; key = h.key; listed = grow h.key h.listed; takes = h.takes; others = h.others; own = h.own; apart = h.apart }

pub fewer_stirred : (d : Design) (keys more : List LayerKey) (m n cell : ℕ) (q : Square) → m ≤ n → ((key : LayerKey) → Some_of (λ k. k ≡ key) keys → Some_of (λ k. k ≡ key) more) → IsStirred d keys m cell q → IsStirred d more n cell q
fewer_stirred d keys more m n cell q lt grow h = record { square = h.square; within = wider m n h.square q lt h.within; disturbed = fewer d keys more cell h.square grow h.disturbed }

abbrev IsNearInput : Design → ℕ → Formula → Square → Type 0
IsNearInput d cell name q = (key : LayerKey) × Some_of (λ k. k ≡ key) (inputs name) × (z : Square) × AreWithin (reach name) z q × InFlatInput d cell key z

from_left : (d : Design) (cell : ℕ) (op : Op) (a b : Formula) (q : Square) → IsNearInput d cell a q → IsNearInput d cell (Binary op a b) q
from_left d cell op a b q h = (h.0, more_left (λ j. j ≡ h.0) (inputs a) (inputs b) h.1, h.2, wider (reach a) (max (reach a) (reach b)) h.2 q (le-max_left (reach a) (reach b)) h.3, h.4)

from_right : (d : Design) (cell : ℕ) (op : Op) (a b : Formula) (q : Square) → IsNearInput d cell b q → IsNearInput d cell (Binary op a b) q
from_right d cell op a b q h = (h.0, more_right (λ j. j ≡ h.0) (inputs a) (inputs b) h.1, h.2, wider (reach b) (max (reach a) (reach b)) h.2 q (le-max_right (reach a) (reach b)) h.3, h.4)

-- a square of the sized set comes from one of the set within the size
from_size : (set : Square → Type 0) (by : ℤ) (q : Square) → IsSized by set q → (z : Square) × AreWithin (unsigned_abs by) z q × set z
from_size set (pos n) q h = (h.square, h.within, h.has)
from_size set (negsuc n) q h = (q, within_same (suc n) q, h q (within_same (suc n) q))

pub near_input : NearInputLaw
near_input d cell (Input key) q h = (key, inl refl, q, within_same 0 q, h)
near_input d cell Empty q h = absurd h
near_input d cell (Binary And a b) q h = from_left d cell And a b q (near_input d cell a q h.0)
near_input d cell (Binary Or a b) q (inl h) = from_left d cell Or a b q (near_input d cell a q h)
near_input d cell (Binary Or a b) q (inr h) = from_right d cell Or a b q (near_input d cell b q h)
near_input d cell (Binary Not a b) q h = from_left d cell Not a b q (near_input d cell a q h.0)
near_input d cell (Binary Xor a b) q (inl h) = from_left d cell Xor a b q (near_input d cell a q h.0)
near_input d cell (Binary Xor a b) q (inr h) = from_right d cell Xor a b q (near_input d cell b q h.0)
near_input d cell (Sized by a) q h =
    let z = from_size (InFlat d cell a) by q h in
    let r = near_input d cell a z.0 z.2 in
    (r.0, r.1, r.2, farther (reach a) (unsigned_abs by) r.2 z.0 q r.3 z.1, r.4)
