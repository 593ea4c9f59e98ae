-- The image of a whole region is a whole region, with what is round it.
use Rattle.std.proofs.Common.{◌≡◌, ◌↔◌, ℕ, List, [], ◌∷◌, sym, ap, subst}
use Rattle.flat_layout.specs.Gates.{Geometry, IsReadBy, IsSoundGeometry}
use Rattle.flat_layout.specs.Layers.{Formula, inputs, reach, InFlat, IsCalmAt, IsStirred}
use Rattle.flat_layout.specs.Layout.{Place, Design, IsDisturbed, IsPlaced, IsReached}
use Rattle.flat_layout.specs.Parts.{IsCloseTo}
use Rattle.flat_layout.specs.Plane.{AreWithin, IsAround}
use Rattle.geo_base.specs.Motions.{moved_square}
use Rattle.geo_base.specs.declared.layer.LayerKey.{LayerKey}
use Rattle.geo_base.specs.declared.shapes.Square.{Square}
use Rattle.plain_netlist.specs.Chains.{IsChain, Reaches}
use Rattle.plain_netlist.proofs.Links.{stays, prepend}
use Rattle.flat_laws.proofs.Paths.{moved_square-injective}
use Rattle.flat_laws.proofs.Calm.{same_flat}
use Rattle.flat_laws.proofs.Leaving.{calm_unstirred}
use Rattle.flat_laws.proofs.Moves.{arounds, around_same, onto, withins}
use Rattle.flat_laws.proofs.Names.{fewer_stirred}
use Rattle.flat_laws.proofs.Shut.{disturbed_below}
use Rattle.flat_layout.specs.Parts.{Joint, IsJoint, AreAdjacent}
use Rattle.select_laws.specs.RegionLaws.{KeptRegionLaw}
use Rattle.select_laws.specs.Whole.{RegionAt, IsByRegion, IsWhole}
use Rattle.flat_laws.proofs.Joints.{joints, joint_around, region_self, region_next}

-- what stirs the parent there stirs the placed cell
stirred_below : (d : Design) (keys : List LayerKey) (n parent k : ℕ) (p : Place) (q : Square) → IsPlaced d parent k p → IsStirred d keys n parent (moved_square p.motion q) → IsStirred d keys n p.cell q
stirred_below d keys n parent k p q placed h =
    let r = onto p.motion h.square in
    record {
      square = r.0;
      within = (withins n p.motion r.0 q).0 (subst (λ y. AreWithin n y (moved_square p.motion q)) (sym r.1) h.within);
      disturbed = disturbed_below d keys parent k p r.0 placed (subst (λ y. IsDisturbed d keys parent y) (sym r.1) h.disturbed);
    }

-- where nothing is stirred for the geometry, all is calm for a name that it reads
pub calm_name : (d : Design) (g : Geometry) (name : Formula) (cell : ℕ) (q : Square) → IsReadBy g name → (IsStirred d g.keys g.reach cell q → ⊥) → IsCalmAt d (inputs name) (reach name) cell q
calm_name d g name cell q read none = calm_unstirred d (inputs name) (reach name) cell q (λ h. none (fewer_stirred d (inputs name) g.keys (reach name) g.reach cell q read.reach read.keys h))

-- a set's square is close to it
pub in_close : (A : Square → Type 0) (q : Square) → A q → IsCloseTo A q
in_close A q h = record { square = q; in_part = h; around = around_same q }

module _ (d : Design) (j : Joint) (g : Geometry) (cell : ℕ) (s : Square) where
  pub close_in : (a : Square) → RegionAt d j g cell s a → IsByRegion d j g cell s a
  close_in a h = in_close (RegionAt d j g cell s) a h

  pub close_by : (a x : Square) → RegionAt d j g cell s a → IsJoint j a x → IsByRegion d j g cell s x
  close_by a x h e = record { square = a; in_part = h; around = joint_around j a x e }

module _ (d : Design) (j : Joint) (g : Geometry) (sound : IsSoundGeometry g) (cell k : ℕ) (p : Place) (s : Square) (reached : IsReached d cell) (placed : IsPlaced d cell k p) (whole : IsWhole d j g p.cell s) where
  abbrev f : Square → Square
  f = moved_square p.motion

  abbrev Below : Square → Type 0
  Below = InFlat d p.cell g.region

  abbrev Above : Square → Type 0
  Above = InFlat d cell g.region

  pub one_square : (a c : Square) → f a ≡ f c → a ≡ c
  one_square a c e = moved_square-injective p.motion a c e

  -- by the region, the flat sets that the geometry reads are the same
  pub same_read : (name : Formula) → IsReadBy g name → (q : Square) → IsByRegion d j g p.cell s q → InFlat d cell name (f q) ↔ InFlat d p.cell name q
  same_read name read q near = same_flat d name cell k p q reached placed (calm_name d g name p.cell q read (whole.calm q near))

  same : (q : Square) → IsByRegion d j g p.cell s q → InFlat d cell g.region (f q) ↔ InFlat d p.cell g.region q
  same q near = same_read g.region sound q near

  start : RegionAt d j g p.cell s s
  start = region_self j Below s whole.is

  is_above : Above (f s)
  is_above = (same s (close_in d j g p.cell s s start)).1 whole.is

  up : (a q : Square) (via : List Square) → RegionAt d j g p.cell s a → IsChain (AreAdjacent j Below) a via q → Reaches (AreAdjacent j Above) (f a) (f q)
  up a q [] h chain = stays (AreAdjacent j Above) (f a) (f q) (ap f chain)
  up a q (x ∷ xs) h chain =
      let next = region_next j Below s a x h chain.0 in
      let link : AreAdjacent j Above (f a) (f x) = record {
        from = (same a (close_in d j g p.cell s a h)).1 chain.0.from;
        to = (same x (close_in d j g p.cell s x next)).1 chain.0.to;
        edge = (joints j p.motion a x).1 chain.0.edge;
      } in
      prepend (AreAdjacent j Above) (f a) (f x) (f q) link (up x q xs next chain.1)

  pub region_up : (q : Square) → RegionAt d j g p.cell s q → RegionAt d j g cell (f s) (f q)
  region_up q h = record { from = is_above; joined = up s q h.joined.via start h.joined.chain }

  down : (a q : Square) (via : List Square) → RegionAt d j g p.cell s a → IsChain (AreAdjacent j Above) (f a) via q → (c : Square) × (f c ≡ q) × RegionAt d j g p.cell s c
  down a q [] h chain = (a, chain, h)
  down a q (x ∷ xs) h chain =
      let r = onto p.motion x in
      let joint : IsJoint j a r.0 = (joints j p.motion a r.0).0 (subst (λ y. IsJoint j (f a) y) (sym r.1) chain.0.edge) in
      let close = close_by d j g p.cell s a r.0 h joint in
      let here : Below r.0 = (same r.0 close).0 (subst (λ y. Above y) (sym r.1) chain.0.to) in
      let was : Below a = (same a (close_in d j g p.cell s a h)).0 chain.0.from in
      down r.0 q xs (region_next j Below s a r.0 h (record { from = was; to = here; edge = joint })) (subst (λ y. IsChain (AreAdjacent j Above) y xs q) (sym r.1) chain.1)

  pub region_down : (q : Square) → RegionAt d j g cell (f s) q → (c : Square) × (f c ≡ q) × RegionAt d j g p.cell s c
  region_down q h = down s q h.joined.via start h.joined.chain

  pub squares : (q : Square) → RegionAt d j g cell (f s) (f q) ↔ RegionAt d j g p.cell s q
  squares q = ((λ h. let r = region_down (f q) h in subst (λ y. RegionAt d j g p.cell s y) (one_square r.0 q r.1) r.2), region_up q)

  pub close : (q : Square) → IsByRegion d j g cell (f s) (f q) ↔ IsByRegion d j g p.cell s q
  close q = (
    (λ h. let r = region_down h.square h.in_part in record { square = r.0; in_part = r.2; around = (arounds p.motion r.0 q).0 (subst (λ y. IsAround y (f q)) (sym r.1) h.around) }),
    (λ h. record { square = f h.square; in_part = region_up h.square h.in_part; around = (arounds p.motion h.square q).1 h.around }),
  )

  pub still : IsWhole d j g cell (f s)
  still = record {
    is = is_above;
    calm = λ q c.
        let r = onto p.motion q in
        let near = (close r.0).0 (subst (λ y. IsByRegion d j g cell (f s) y) (sym r.1) c) in
        λ h. whole.calm r.0 near (stirred_below d g.keys g.reach cell k p r.0 placed (subst (λ y. IsStirred d g.keys g.reach cell y) (sym r.1) h));
  }

pub kept_region : KeptRegionLaw
kept_region d j g cell k p s sound reached placed whole = record {
  whole = still d j g sound cell k p s reached placed whole;
  squares = squares d j g sound cell k p s reached placed whole;
  close = close d j g sound cell k p s reached placed whole;
}
