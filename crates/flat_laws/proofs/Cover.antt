-- What the cells hold covers what a cell keeps.
use Rattle.std.proofs.Common.{◌⊎◌, inl, inr, ℕ, zero, suc, ◌<◌, ◌++◌, List, [], ◌∷◌, refl, sym, subst, arith}
use Rattle.flat_laws.specs.LayerLaws.{CoverLaw}
use Rattle.flat_layout.specs.Layers.{Formula, Input, Empty, Binary, Sized, inputs, reach, IsCalmFlat, IsKept, IsKeptBelow, IsLocal, IsCovered}
use Rattle.flat_layout.specs.Layout.{Place, Design, IsPlaced, Leads, Takes, IsReached, IsHeight}
use Rattle.geo_base.specs.Motions.{moved_square}
use Rattle.geo_base.specs.declared.shapes.Square.{Square}
use Rattle.flat_laws.proofs.Calm.{calm_above, same_flat}

leads_on : (d : Design) (from mid to k : ℕ) (p : Place) (ks : List ℕ) → Leads d from ks mid → IsPlaced d mid k p → Leads d from (ks ++ k ∷ []) p.cell
leads_on d from mid to k p [] h placed = (p, subst (λ (c : ℕ). IsPlaced d c k p) (sym h) placed, refl)
leads_on d from mid to k p (j ∷ ks) h placed = (h.0, h.1, leads_on d h.0.cell mid to k p ks h.2 placed)

pub reached_below : (d : Design) (cell k : ℕ) (p : Place) → IsReached d cell → IsPlaced d cell k p → IsReached d p.cell
reached_below d cell k p r placed = record { path = r.path ++ k ∷ []; leads = leads_on d d.top cell p.cell k p r.path r.leads placed }

calm_flat_above : (d : Design) (cell k : ℕ) (p : Place) (name : Formula) (q : Square) → IsReached d cell → IsPlaced d cell k p → IsCalmFlat d p.cell name q → IsCalmFlat d cell name (moved_square p.motion q)
calm_flat_above d cell k p name q reached placed h =
    ((same_flat d name cell k p q reached placed h.1).1 h.0, calm_above d (inputs name) (reach name) cell k p q placed h.1)

-- what a placed cell keeps, its parent keeps
pub kept_above : (d : Design) (cell k : ℕ) (p : Place) (name : Formula) (q : Square) → IsReached d cell → IsPlaced d cell k p → IsKept d p.cell name q → IsKept d cell name (moved_square p.motion q)
kept_above d cell k p (Input key) q reached placed kept = record { path = k ∷ kept.path; end = kept.end; square = kept.square; takes = (p, placed, q, kept.takes, refl); own = kept.own }
kept_above d cell k p Empty q reached placed kept = kept
kept_above d cell k p (Binary op a b) q reached placed kept = calm_flat_above d cell k p (Binary op a b) q reached placed kept
kept_above d cell k p (Sized by a) q reached placed kept = calm_flat_above d cell k p (Sized by a) q reached placed kept

pub kept_here : (d : Design) (cell : ℕ) (name : Formula) (q : Square) → IsLocal d cell name q → IsKept d cell name q
kept_here d cell (Input key) q h = record { path = []; end = cell; square = q; takes = (refl, refl); own = h }
kept_here d cell Empty q h = h
kept_here d cell (Binary op a b) q h = h.0
kept_here d cell (Sized by a) q h = h.0

kept_along : (d : Design) (name : Formula) (path : List ℕ) (cell end : ℕ) (s q : Square) → IsReached d cell → Takes d cell path end s q → IsLocal d end name s → IsKept d cell name q
kept_along d name [] cell end s q reached takes here =
    subst (λ (c : ℕ). IsKept d c name q) (sym takes.0) (subst (λ (v : Square). IsKept d end name v) takes.1 (kept_here d end name s here))
kept_along d name (k ∷ ks) cell end s q reached takes here =
    let below = kept_along d name ks takes.0.cell end s takes.2 (reached_below d cell k takes.0 reached takes.1) takes.3 here in
    subst (λ (v : Square). IsKept d cell name v) takes.4 (kept_above d cell k takes.0 name takes.2 reached takes.1 below)

found : (d : Design) (height : ℕ → ℕ) (name : Formula) → IsHeight d height → ((cell : ℕ) (q : Square) → IsReached d cell → IsKept d cell name q → IsLocal d cell name q ⊎ IsKeptBelow d cell name q)
    → (n cell : ℕ) (q : Square) → height cell < n → IsReached d cell → IsKept d cell name q → IsCovered d cell name q
found d height name linked parted zero cell q lt reached kept = absurd (omega arith)
found d height name linked parted (suc n) cell q lt reached kept =
    elim (parted cell q reached kept) [
      | inl here ↦ record { path = []; end = cell; square = q; takes = (refl, refl); here = here }
      | inr below ↦
          let down = linked cell below.number below.place below.placed in
          let h = found d height name linked parted n below.place.cell below.square (omega arith) (reached_below d cell below.number below.place reached below.placed) below.kept in
          record { path = below.number ∷ h.path; end = h.end; square = h.square; takes = (below.place, below.placed, below.square, h.takes, below.image); here = h.here }
    ]

pub cover : CoverLaw
cover d height name linked parted cell q reached = (
  (λ h. kept_along d name h.path cell h.end h.square q reached h.takes h.here),
  (λ h. let lt : height cell < suc (height cell) = omega arith in found d height name linked parted (suc (height cell)) cell q lt reached h),
)
