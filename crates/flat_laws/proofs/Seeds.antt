-- A gate near which there is no seed comes from below.
use Rattle.std.proofs.Common.{◌≡◌, ◌↔◌, inl, inr, ℕ, ◌+◌, List, [], ◌∷◌, refl, sym, subst, arith}
use Rattle.flat_laws.specs.SeedLaws.{ReachLaw, SeedLaw}
use Rattle.flat_layout.specs.Gates.{Geometry, IsStep, InGate, IsGateOrRing, IsSoundGeometry, IsGateBelow}
use Rattle.flat_layout.specs.Layers.{inputs, reach as reach_from, InFlat, IsCalmAt, IsLone}
use Rattle.flat_layout.specs.Layout.{Place, Design, Some_of, IsOwn, IsPlaced, Takes, IsReached, IsDisturbed}
use Rattle.flat_layout.specs.Plane.{AreWithin, IsAround}
use Rattle.flat_layout.specs.Seeds.{IsInReach, IsNearSeed}
use Rattle.geo_base.specs.declared.layer.LayerKey.{LayerKey}
use Rattle.geo_base.specs.Motions.{moved_square}
use Rattle.geo_base.specs.declared.shapes.Square.{Square}
use Rattle.plain_netlist.specs.Chains.{IsChain}
use Rattle.flat_laws.proofs.Calm.{calm_fewer, same_flat}
use Rattle.flat_laws.proofs.Kept.{in_next, close_in, close}
use Rattle.flat_laws.proofs.Lone.{near_disturbed}
use Rattle.flat_laws.proofs.Moves.{edges, arounds, edge_around, farther, onto, wider, within_back, withins}
use Rattle.flat_laws.proofs.Names.{fewer, near_input}
use Rattle.flat_laws.proofs.Once.{gate_flat, gate_self}
use Rattle.flat_laws.proofs.Ways.{shut_laws}

reach_of : (d : Design) (geo : Geometry) (sound : IsSoundGeometry geo) (cell : ℕ) (a q : Square) → InFlat d cell geo.region a → IsAround a q → IsInReach d geo.keys (geo.reach + 1) cell q
reach_of d geo sound cell a q h around =
    let f = near_input d cell geo.region a h in
    record { square = f.2; key = f.0; listed = sound.keys f.0 f.1; flat = f.4; within = farther geo.reach 1 f.2 a q (wider (reach_from geo.region) geo.reach f.2 a sound.reach f.3) around }

pub reach : ReachLaw
reach d geo cell s q small h = reach_of d geo small cell h.square q (gate_flat d geo cell s h.square h.in_part) h.around

module _ (d : Design) (g : Geometry) (cell : ℕ) (s : Square) (sound : IsSoundGeometry g) (reached : IsReached d cell) (gate : InFlat d cell g.region s)
    (none : (q : Square) → IsGateOrRing d g cell s q → IsNearSeed d g cell q → ⊥) (k : ℕ) (p : Place) (placed : IsPlaced d cell k p) where
  abbrev f : Square → Square
  f = moved_square p.motion

  -- near a shape of the placed cell, nothing is disturbed that comes close to the gate
  none_near : (q z : Square) → IsInReach d g.keys (g.reach + 1) p.cell q → IsGateOrRing d g cell s (f q) → AreWithin g.reach z q → IsDisturbed d g.keys p.cell z → ⊥
  none_near q z near close within h =
      none (f q) close (record {
        square = f z;
        within = (withins g.reach p.motion z q).1 within;
        seed = inr (record {
          number = k;
          place = p;
          square = z;
          placed = placed;
          reach = record { square = near.square; key = near.key; listed = near.listed; flat = near.flat; within = farther (g.reach + 1) g.reach near.square q z near.within (within_back g.reach z q within) };
          disturbed = h;
          image = refl;
        });
      })

  calm_near : (q : Square) → IsInReach d g.keys (g.reach + 1) p.cell q → IsGateOrRing d g cell s (f q) → IsCalmAt d g.keys g.reach p.cell q
  calm_near q near close = λ z within. (shut_laws d.way).still d g.keys p.cell z (none_near q z near close within)

  same : (q : Square) → IsCalmAt d g.keys g.reach p.cell q → InFlat d cell g.region (f q) ↔ InFlat d p.cell g.region q
  same q calm = same_flat d g.region cell k p q reached placed (calm_fewer d (inputs g.region) g.keys (reach_from g.region) g.reach p.cell q sound.reach sound.keys calm)

  near_flat : (a q : Square) → InFlat d p.cell g.region a → IsAround a q → IsInReach d g.keys (g.reach + 1) p.cell q
  near_flat a q h around =
      let i = near_input d p.cell g.region a h in
      record { square = i.2; key = i.0; listed = sound.keys i.0 i.1; flat = i.4; within = farther g.reach 1 i.2 a q (wider (reach_from g.region) g.reach i.2 a sound.reach i.3) around }

  module _ (r : Square) (here : f r ≡ s) (in_reach : IsInReach d g.keys g.reach p.cell r) where
    start : InGate d g cell s (f r)
    start = subst (λ y. InGate d g cell s y) (sym here) (gate_self d g cell s gate)

    close_start : IsGateOrRing d g cell s (f r)
    close_start = close_in d g cell s (f r) start

    there : IsInReach d g.keys (g.reach + 1) p.cell r
    there = record { square = in_reach.square; key = in_reach.key; listed = in_reach.listed; flat = in_reach.flat; within = wider g.reach (g.reach + 1) in_reach.square r (omega arith) in_reach.within }

    is : InFlat d p.cell g.region r
    is = (same r (calm_near r there close_start)).0 (gate_flat d g cell s (f r) start)

    close_of : (a q : Square) → InGate d g cell s (f a) → IsAround a q → IsGateOrRing d g cell s (f q)
    close_of a q h around = record { square = f a; in_part = h; around = (arounds p.motion a q).1 around }

    up : (a q : Square) (via : List Square) → InFlat d p.cell g.region a → InGate d g cell s (f a) → IsChain (IsStep (InFlat d p.cell g.region)) a via q → InGate d g cell s (f q)
    up a q [] low h chain = subst (λ y. InGate d g cell s (f y)) chain h
    up a q (x ∷ xs) low h chain =
        let around = edge_around a x chain.0.edge in
        let high = (same x (calm_near x (near_flat a x low around) (close_of a x h around))).1 chain.0.to in
        up x q xs chain.0.to (in_next d g cell s (f a) (f x) h (record { from = gate_flat d g cell s (f a) h; to = high; edge = (edges p.motion a x).1 chain.0.edge })) chain.1

    not_lone : IsLone d p.cell g.region r → ⊥
    not_lone a =
        let n = near_disturbed d p.cell g.region r a in
        none_near r n.0 there close_start (wider (reach_from g.region) g.reach n.0 r sound.reach n.1) (fewer d (inputs g.region) g.keys p.cell n.0 sound.keys n.2)

    pub under : IsGateBelow d g cell s
    under = record {
      number = k;
      place = p;
      square = r;
      placed = placed;
      settled = record {
        is = is;
        calm = λ q c. calm_near q (near_flat c.square q (gate_flat d g p.cell r c.square c.in_part) c.around) (close_of c.square q (up r c.square c.in_part.joined.via is start c.in_part.joined.chain) c.around);
        mine = r;
        in_gate = gate_self d g p.cell r is;
        alone = not_lone;
      };
      image = start;
    }

pub seed : SeedLaw
seed d g cell s sound reached gate none =
    let u = near_input d cell g.region s gate in
    by u.0 (sound.keys u.0 u.1) u.2 (wider (reach_from g.region) g.reach u.2 s sound.reach u.3) u.4.path u.4.end u.4.square u.4.takes u.4.own
  where
    by : (key : LayerKey) → Some_of (λ j. j ≡ key) g.keys → (z : Square) → AreWithin g.reach z s → (path : List ℕ) (end : ℕ) (t : Square) → Takes d cell path end t z → IsOwn d end key t → IsGateBelow d g cell s
    by key listed z near [] end t takes mine =
        let here : IsOwn d cell key z = subst (λ (c : ℕ). IsOwn d c key z) (sym takes.0) (subst (λ (y : Square). IsOwn d end key y) takes.1 mine) in
        absurd (none s (close_in d g cell s s (gate_self d g cell s gate)) (record { square = z; within = near; seed = inl (record { key = key; listed = listed; own = here }) }))
    by key listed z near (k ∷ ks) end t takes mine =
        let p = takes.0 in let y = takes.2 in
        let o = onto p.motion s in
        let within : AreWithin g.reach y o.0 =
        (withins g.reach p.motion y o.0).0 (subst (λ (x : Square). AreWithin g.reach x (moved_square p.motion o.0)) (sym takes.4) (subst (λ (x : Square). AreWithin g.reach z x) (sym o.1) near)) in
        under d g cell s sound reached gate none k p takes.1 o.0 o.1 (record { square = y; key = key; listed = listed; flat = record { path = ks; end = end; square = t; takes = takes.3; own = mine }; within = within })
