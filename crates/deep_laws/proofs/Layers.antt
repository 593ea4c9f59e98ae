-- Where local squares can lie.
use Rattle.std.proofs.Common.{◌≡◌, ◌⊎◌, inl, inr, ℕ, List, [], ◌∷◌, sym, subst}
use Rattle.geo_base.specs.Motions.{moved_square}
use Rattle.geo_base.specs.declared.layer.LayerKey.{LayerKey}
use Rattle.geo_base.specs.declared.shapes.Square.{Square}
use Rattle.flat_layout.specs.Layers.{Formula, Input, Empty, Binary, Sized, inputs, reach, InFlat, IsCalmFlat, IsKept, IsKeptBelow, IsLocal, IsNewlyKept, IsCalmAt}
use Rattle.flat_layout.specs.Layout.{Design, Place, Some_of, IsOwn, IsPlaced, IsReached, InFlatInput, Takes}
use Rattle.flat_layout.specs.Plane.{AreWithin}
use Rattle.flat_laws.proofs.Moves.{onto, withins}
use Rattle.flat_laws.proofs.Calm.{same_flat}
use Rattle.flat_laws.proofs.Names.{near_input}
use Rattle.deep_laws.specs.Layers.{CandidateLaw, BelowLaw, IsDerived, IsFromOpen, IsNearOwn, AreDecidedBelow}

-- a calm flat square is kept
pub keeps : (d : Design) (cell : ℕ) (name : Formula) (q : Square) → IsCalmFlat d cell name q → IsKept d cell name q
keeps d cell (Input key) q h = h.0
keeps d cell Empty q h = h.0
keeps d cell (Binary op a b) q h = h
keeps d cell (Sized by a) q h = h

-- of a derived name a kept square is one
pub calm_kept : (d : Design) (cell : ℕ) (name : Formula) (q : Square) → IsDerived name → IsKept d cell name q → IsCalmFlat d cell name q
calm_kept d cell (Input key) q derived h = absurd derived
calm_kept d cell Empty q derived h = absurd derived
calm_kept d cell (Binary op a b) q derived h = h
calm_kept d cell (Sized by a) q derived h = h

-- and what it keeps newly it holds itself
pub new_local : (d : Design) (cell : ℕ) (name : Formula) (q : Square) → IsDerived name → IsNewlyKept d cell name q → IsLocal d cell name q
new_local d cell (Input key) q derived h = absurd derived
new_local d cell Empty q derived h = absurd derived
new_local d cell (Binary op a b) q derived h = h
new_local d cell (Sized by a) q derived h = h

pub local_new : (d : Design) (cell : ℕ) (name : Formula) (q : Square) → IsDerived name → IsLocal d cell name q → IsNewlyKept d cell name q
local_new d cell (Input key) q derived h = absurd derived
local_new d cell Empty q derived h = absurd derived
local_new d cell (Binary op a b) q derived h = h
local_new d cell (Sized by a) q derived h = h

-- the placed cell keeps its square where that is calm
kept_there : (d : Design) (name : Formula) (cell k : ℕ) (p : Place) (r q : Square) → IsReached d cell → IsPlaced d cell k p → IsCalmAt d (inputs name) (reach name) p.cell r → moved_square p.motion r ≡ q
    → InFlat d cell name q → IsKept d p.cell name r
kept_there d name cell k p r q reached placed calm e flat =
    keeps d p.cell name r ((same_flat d name cell k p r reached placed calm).0 (subst (λ x. InFlat d cell name x) (sym e) flat), calm)

by_path : (d : Design) (name : Formula) (cell : ℕ) (q : Square) → IsReached d cell → AreDecidedBelow d cell name → InFlat d cell name q
    → (key : LayerKey) → Some_of (λ k. k ≡ key) (inputs name) → (z : Square) → AreWithin (reach name) z q → (path : List ℕ) (end : ℕ) (s : Square) → Takes d cell path end s z → IsOwn d end key s
    → IsNearOwn d cell name q ⊎ (IsFromOpen d cell name q ⊎ IsKeptBelow d cell name q)
by_path d name cell q reached decided flat key listed z near [] end s takes own =
    inl (record { key = key; square = z; listed = listed; own = subst (λ c. IsOwn d c key z) (sym takes.0) (subst (λ x. IsOwn d end key x) takes.1 own); within = near })
by_path d name cell q reached decided flat key listed z near (k ∷ ks) end s takes own =
    let p = takes.0 in let placed = takes.1 in
    let below : InFlatInput d p.cell key takes.2 = record { path = ks; end = end; square = s; takes = takes.3; own = own } in
    let o = onto p.motion q in
    let close : AreWithin (reach name) takes.2 o.0 =
    (withins (reach name) p.motion takes.2 o.0).0 (subst (λ v. AreWithin (reach name) v (moved_square p.motion o.0)) (sym takes.4) (subst (λ v. AreWithin (reach name) z v) (sym o.1) near)) in
    elim (decided k p key takes.2 o.0 placed below close) [
      | inl calm ↦ inr (inr (record { number = k; place = p; square = o.0; placed = placed; kept = kept_there d name cell k p o.0 q reached placed calm o.1 flat; image = o.1 }))
      | inr h ↦ inr (inl (record { number = k; place = p; square = o.0; placed = placed; key = key; listed = listed; shape = takes.2; flat = below; within = close; left = h; image = o.1 }))
    ]

pub candidate : CandidateLaw
candidate d name cell q reached decided flat =
    let u = near_input d cell name q flat in
    by_path d name cell q reached decided flat u.0 u.1 u.2 u.3 u.4.path u.4.end u.4.square u.4.takes u.4.own

pub below : BelowLaw
below d name cell q derived reached flat = (
  (λ h. record { number = h.number; place = h.place; square = h.square; placed = h.placed; calm = (calm_kept d h.place.cell name h.square derived h.kept).1; image = h.image }),
  (λ h. record { number = h.number; place = h.place; square = h.square; placed = h.placed; kept = kept_there d name cell h.number h.place h.square q reached h.placed h.calm h.image flat; image = h.image }),
)
