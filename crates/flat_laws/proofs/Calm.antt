-- A name looks the same above where all within its reach is shut.
use Rattle.std.proofs.Common.{◌≡◌, ◌↔◌, inl, inr, ℕ, ◌+◌, ◌≤◌, max, ℤ, unsigned_abs, List, [], ◌∷◌, ◌++◌, refl, sym, subst}
use Rattle.std.proofs.Math.Nat.{le-max_left, le-max_right}
use Rattle.flat_laws.specs.LayerLaws.{CalmLaw, SameFlatLaw}
use Rattle.flat_laws.specs.ShutLaws.{AreShutLaws, Keeping, keeping}
use Rattle.flat_layout.specs.Layers.{Formula, Input, Empty, Binary, Sized, inputs, reach, Combines, InFlat, IsCalmAt}
use Rattle.flat_layout.specs.Layout.{Place, Design, Some_of, IsDisturbed, IsHeight, IsPlaced, IsReached}
use Rattle.flat_layout.specs.Plane.{AreWithin}
use Rattle.geo_base.specs.declared.layer.LayerKey.{LayerKey}
use Rattle.geo_base.specs.Motions.{moved_square}
use Rattle.geo_base.specs.declared.layer.Op.{Op}
use Rattle.geo_base.specs.declared.layer.Op.TheVariants.{And, Or, Not, Xor}
use Rattle.geo_base.specs.declared.shapes.Square.{Square}
use Rattle.flat_laws.proofs.Moves.{onto, withins, within_same, wider, farther}
use Rattle.flat_laws.proofs.Sizing.{size_up, size_down}
use Rattle.flat_laws.proofs.Names.{more_left, more_right}
use Rattle.flat_laws.proofs.Ways.{shut_laws}

combined : (op : Op) (A B C D : Type 0) → A ↔ C → B ↔ D → Combines op A B → Combines op C D
combined And A B C D f g h = (f.0 h.0, g.0 h.1)
combined Or A B C D f g (inl h) = inl (f.0 h)
combined Or A B C D f g (inr h) = inr (g.0 h)
combined Not A B C D f g h = (f.0 h.0, λ k. h.1 (g.1 k))
combined Xor A B C D f g (inl h) = inl (f.0 h.0, λ k. h.1 (g.1 k))
combined Xor A B C D f g (inr h) = inr (g.0 h.0, λ k. h.1 (f.1 k))

-- in any way of keeping
module _ (way : Keeping) (laws : AreShutLaws way) where
  -- all within n is shut
  abbrev AllShut : Design → List LayerKey → ℕ → ℕ → Square → Type 0
  AllShut d keys n cell q = (z : Square) → AreWithin n z q → way.shut d keys cell z

  all_fewer : (d : Design) (keys more : List LayerKey) (m n cell : ℕ) (q : Square) → m ≤ n → ((key : LayerKey) → Some_of (λ k. k ≡ key) keys → Some_of (λ k. k ≡ key) more) → AllShut d more n cell q → AllShut d keys m cell q
  all_fewer d keys more m n cell q lt grow shut = λ z near. laws.fewer d keys more cell z grow (shut z (wider m n z q lt near))

  all_above : (d : Design) (keys : List LayerKey) (n parent k : ℕ) (p : Place) (q : Square) → IsPlaced d parent k p → AllShut d keys n p.cell q → AllShut d keys n parent (moved_square p.motion q)
  all_above d keys n parent k p q placed shut = λ z near.
      let o = onto p.motion z in
      let close : AreWithin n o.0 q = (withins n p.motion o.0 q).0 (subst (λ y. AreWithin n y (moved_square p.motion q)) (sym o.1) near) in
      subst (λ y. way.shut d keys parent y) o.1 (laws.above d keys parent k p o.0 placed (shut o.0 close))

  left_shut : (d : Design) (a b : Formula) (cell : ℕ) (q : Square) → AllShut d (inputs a ++ inputs b) (max (reach a) (reach b)) cell q → AllShut d (inputs a) (reach a) cell q
  left_shut d a b cell q shut = all_fewer d (inputs a) (inputs a ++ inputs b) (reach a) (max (reach a) (reach b)) cell q (le-max_left (reach a) (reach b)) (λ key l. more_left (λ j. j ≡ key) (inputs a) (inputs b) l) shut

  right_shut : (d : Design) (a b : Formula) (cell : ℕ) (q : Square) → AllShut d (inputs a ++ inputs b) (max (reach a) (reach b)) cell q → AllShut d (inputs b) (reach b) cell q
  right_shut d a b cell q shut = all_fewer d (inputs b) (inputs a ++ inputs b) (reach b) (max (reach a) (reach b)) cell q (le-max_right (reach a) (reach b)) (λ key l. more_right (λ j. j ≡ key) (inputs a) (inputs b) l) shut

  size_shut : (d : Design) (by : ℤ) (a : Formula) (cell : ℕ) (z q : Square) → AreWithin (unsigned_abs by) z q → AllShut d (inputs a) (reach a + unsigned_abs by) cell q → AllShut d (inputs a) (reach a) cell z
  size_shut d by a cell z q near shut = λ y close. shut y (farther (reach a) (unsigned_abs by) y z q close near)

  same_name : (d : Design) (name : Formula) (parent k : ℕ) (p : Place) (q : Square) → IsReached d parent → IsPlaced d parent k p → AllShut d (inputs name) (reach name) p.cell q → InFlat d parent name (moved_square p.motion q) ↔ InFlat d p.cell name q
  same_name d (Input key) parent k p q reached placed shut = laws.input d (key ∷ []) key parent k p q reached placed (inl refl) (shut q (within_same 0 q))
  same_name d Empty parent k p q reached placed shut = ((λ h. h), (λ h. h))
  same_name d (Binary op a b) parent k p q reached placed shut =
      let one = same_name d a parent k p q reached placed (left_shut d a b p.cell q shut) in
      let two = same_name d b parent k p q reached placed (right_shut d a b p.cell q shut) in (
        (λ h. combined op _ _ _ _ one two h),
        (λ h. combined op _ _ _ _ (one.1, one.0) (two.1, two.0) h),
      )
  same_name d (Sized by a) parent k p q reached placed shut =
      let each : (z : Square) → AreWithin (unsigned_abs by) z q → InFlat d parent a (moved_square p.motion z) ↔ InFlat d p.cell a z = λ z near. same_name d a parent k p z reached placed (size_shut d by a p.cell z q near shut) in (
        size_down (InFlat d p.cell a) (InFlat d parent a) p by q (λ z near h. (each z near).0 h),
        size_up (InFlat d p.cell a) (InFlat d parent a) p by q (λ z near h. (each z near).1 h),
      )

-- in the design's way

pub calm_fewer : (d : Design) (keys more : List LayerKey) (m n cell : ℕ) (q : Square) → m ≤ n → ((key : LayerKey) → Some_of (λ k. k ≡ key) keys → Some_of (λ k. k ≡ key) more) → IsCalmAt d more n cell q → IsCalmAt d keys m cell q
calm_fewer d keys more m n cell q lt grow calm = all_fewer (keeping d.way) (shut_laws d.way) d keys more m n cell q lt grow calm

pub calm_above : CalmLaw
calm_above d keys n parent k p q placed calm = all_above (keeping d.way) (shut_laws d.way) d keys n parent k p q placed calm

pub top_calm : (d : Design) (height : ℕ → ℕ) → IsHeight d height → (keys : List LayerKey) (n : ℕ) (q : Square) → IsCalmAt d keys n d.top q
top_calm d height linked keys n q = λ z near. (shut_laws d.way).top d height linked keys z

pub calm_still : (d : Design) (keys : List LayerKey) (n cell : ℕ) (q : Square) → ((z : Square) → AreWithin n z q → IsDisturbed d keys cell z → ⊥) → IsCalmAt d keys n cell q
calm_still d keys n cell q none = λ z near. (shut_laws d.way).still d keys cell z (none z near)

pub same_flat : SameFlatLaw
same_flat d name parent k p q reached placed calm = same_name (keeping d.way) (shut_laws d.way) d name parent k p q reached placed calm
