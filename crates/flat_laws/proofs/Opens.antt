-- A gate near which nothing is left, nor made by others alone, comes from below.
use Rattle.std.proofs.Common.{◌≡◌, ◌↔◌, inl, inr, ℕ, ◌+◌, List, [], ◌∷◌, Bool, true, refl, sym, subst, arith}
use Rattle.flat_layout.specs.Gates.{Geometry, IsStep, InGate, IsGateOrRing, IsGateBelow, IsSettled, IsSoundGeometry}
use Rattle.flat_layout.specs.Layers.{inputs, reach, InFlat, IsKept, IsShut, IsCalmAt, IsLone}
use Rattle.flat_layout.specs.Layout.{Place, Design, Some_of, IsOwn, IsPlaced, Takes, IsReached}
use Rattle.flat_layout.specs.Plane.{AreWithin, IsAround}
use Rattle.flat_layout.specs.Seeds.{IsClosed, IsInReach}
use Rattle.geo_base.specs.declared.layer.LayerKey.{LayerKey}
use Rattle.geo_base.specs.Motions.{moved_square}
use Rattle.geo_base.specs.declared.shapes.Square.{Square}
use Rattle.plain_netlist.specs.Chains.{IsChain}
use Rattle.flat_laws.proofs.Kept.{in_next, close_in}
use Rattle.flat_laws.proofs.Moves.{edges, arounds, edge_around, farther, onto, wider, within_back, within_same, withins}
use Rattle.flat_laws.proofs.Names.{near_input}
use Rattle.flat_laws.proofs.Once.{gate_flat, gate_self}
use Rattle.flat_laws.specs.SeedLaws.{AreLeft, SeedOpenLaw, PartedOpenLaw, IsNearOpen}
use Rattle.flat_laws.proofs.Calm.{calm_fewer, same_flat}
use Rattle.flat_laws.proofs.Found.{ends_found, same_part}
use Rattle.flat_laws.proofs.Terminals.{keep}
use Rattle.base_laws.proofs.Tests.{true_or_not}
use Rattle.flat_laws.proofs.Joints.{region_back, region_has}
use Rattle.flat_layout.specs.Parts.{InPart, Edges}

module _ (d : Design) (g : Geometry) (cell : ℕ) (s : Square) (left : ℕ → Square → Bool) (sound : IsSoundGeometry g) (reached : IsReached d cell) (gate : InFlat d cell g.region s)
    (exact : AreLeft d g cell left)
    (none : (k : ℕ) (p : Place) (q z : Square) → IsPlaced d cell k p → IsGateOrRing d g cell s (moved_square p.motion q) → AreWithin g.reach z q → left p.cell z ≡ true → ⊥) (k : ℕ) (p : Place) (placed : IsPlaced d cell k p) where
  abbrev f : Square → Square
  f = moved_square p.motion

  -- near a shape of the placed cell, what comes close to the gate is calm
  calm_near : (q : Square) → IsInReach d g.keys (g.reach + 1) p.cell q → IsGateOrRing d g cell s (f q) → IsCalmAt d g.keys g.reach p.cell q
  calm_near q near close = λ z within.
      exact.shut k p z placed
      (record { square = near.square; key = near.key; listed = near.listed; flat = near.flat; within = farther (g.reach + 1) g.reach near.square q z near.within (within_back g.reach z q within) })
      (λ e. none k p q z placed close within e)

  same : (q : Square) → IsCalmAt d g.keys g.reach p.cell q → InFlat d cell g.region (f q) ↔ InFlat d p.cell g.region q
  same q calm = same_flat d g.region cell k p q reached placed (calm_fewer d (inputs g.region) g.keys (reach g.region) g.reach p.cell q sound.reach sound.keys calm)

  near_flat : (a q : Square) → InFlat d p.cell g.region a → IsAround a q → IsInReach d g.keys (g.reach + 1) p.cell q
  near_flat a q h around =
      let i = near_input d p.cell g.region a h in
      record { square = i.2; key = i.0; listed = sound.keys i.0 i.1; flat = i.4; within = farther g.reach 1 i.2 a q (wider (reach g.region) g.reach i.2 a sound.reach i.3) around }

  module _ (r : Square) (here : f r ≡ s) (in_reach : IsInReach d g.keys g.reach p.cell r) where
    start : InGate d g cell s (f r)
    start = subst (λ y. InGate d g cell s y) (sym here) (gate_self d g cell s gate)

    close_start : IsGateOrRing d g cell s (f r)
    close_start = close_in d g cell s (f r) start

    there : IsInReach d g.keys (g.reach + 1) p.cell r
    there = record { square = in_reach.square; key = in_reach.key; listed = in_reach.listed; flat = in_reach.flat; within = wider g.reach (g.reach + 1) in_reach.square r (omega arith) in_reach.within }

    is : InFlat d p.cell g.region r
    is = (same r (calm_near r there close_start)).0 (gate_flat d g cell s (f r) start)

    close_of : (a q : Square) → InGate d g cell s (f a) → IsAround a q → IsGateOrRing d g cell s (f q)
    close_of a q h around = record { square = f a; in_part = h; around = (arounds p.motion a q).1 around }

    up : (a q : Square) (via : List Square) → InFlat d p.cell g.region a → InGate d g cell s (f a) → IsChain (IsStep (InFlat d p.cell g.region)) a via q → InGate d g cell s (f q)
    up a q [] low h chain = subst (λ y. InGate d g cell s (f y)) chain h
    up a q (x ∷ xs) low h chain =
        let around = edge_around a x chain.0.edge in
        let high = (same x (calm_near x (near_flat a x low around) (close_of a x h around))).1 chain.0.to in
        up x q xs chain.0.to (in_next d g cell s (f a) (f x) h (record { from = gate_flat d g cell s (f a) h; to = high; edge = (edges p.motion a x).1 chain.0.edge })) chain.1

    not_lone : IsLone d p.cell g.region r → ⊥
    not_lone = exact.lone k p r placed in_reach (λ e. none k p r r placed close_start (within_same g.reach r) e)

    pub under : IsGateBelow d g cell s
    under = record {
      number = k;
      place = p;
      square = r;
      placed = placed;
      settled = record {
        is = is;
        calm = λ q c. calm_near q (near_flat c.square q (gate_flat d g p.cell r c.square c.in_part) c.around) (close_of c.square q (up r c.square c.in_part.joined.via is start c.in_part.joined.chain) c.around);
        mine = r;
        in_gate = gate_self d g p.cell r is;
        alone = not_lone;
      };
      image = start;
    }

pub seed_open : SeedOpenLaw
seed_open d g cell s left sound reached gate exact own none =
    let u = near_input d cell g.region s gate in
    by u.0 (sound.keys u.0 u.1) u.2 (wider (reach g.region) g.reach u.2 s sound.reach u.3) u.4.path u.4.end u.4.square u.4.takes u.4.own
  where
    by : (key : LayerKey) → Some_of (λ j. j ≡ key) g.keys → (z : Square) → AreWithin g.reach z s → (path : List ℕ) (end : ℕ) (t : Square) → Takes d cell path end t z → IsOwn d end key t → IsGateBelow d g cell s
    by key listed z near [] end t takes mine =
        let here : IsOwn d cell key z = subst (λ (c : ℕ). IsOwn d c key z) (sym takes.0) (subst (λ (y : Square). IsOwn d end key y) takes.1 mine) in
        absurd (own s z (close_in d g cell s s (gate_self d g cell s gate)) near (record { key = key; listed = listed; own = here }))
    by key listed z near (k ∷ ks) end t takes mine =
        let p = takes.0 in let y = takes.2 in
        let o = onto p.motion s in
        let within : AreWithin g.reach y o.0 =
        (withins g.reach p.motion y o.0).0 (subst (λ (x : Square). AreWithin g.reach x (moved_square p.motion o.0)) (sym takes.4) (subst (λ (x : Square). AreWithin g.reach z x) (sym o.1) near)) in
        under d g cell s left sound reached gate exact none k p takes.1 o.0 o.1 (record { square = y; key = key; listed = listed; flat = record { path = ks; end = end; square = t; takes = takes.3; own = mine }; within = within })

-- a settled gate that wasn't found comes from below
pub unfound_open : (d : Design) (g : Geometry) (cell : ℕ) (left : ℕ → Square → Bool) (found : Square → Bool) → IsSoundGeometry g → IsReached d cell → IsClosed d g cell found → AreLeft d g cell left
    → ((a q : Square) → IsKept d cell g.region a → IsAround a q → IsNearOpen d g left cell q → found a ≡ true) → (s : Square) → IsSettled d g cell s → (found s ≡ true → ⊥) → IsGateBelow d g cell s
unfound_open d g cell left found sound reached closed exact seeds s settled not =
    seed_open d g cell s left sound reached settled.is exact
    (λ q z c within own. not (led c.square (near c.square c.in_part q c.around (record { square = z; within = within; seed = inl own })) c.in_part))
    (λ k p q z placed c within has.
    not (led c.square (near c.square c.in_part (moved_square p.motion q) c.around (record {
      square = moved_square p.motion z;
      within = (withins g.reach p.motion z q).1 within;
      seed = inr (record { number = k; place = p; square = z; placed = placed; has = has; image = refl });
    })) c.in_part))
  where
    self : InGate d g cell s s
    self = gate_self d g cell s settled.is

    is : IsKept d cell g.region s
    is = keep d g cell g.region s sound (settled.calm s (close_in d g cell s s self)) settled.is

    part : (a : Square) → InGate d g cell s a → InPart (IsKept d cell g.region) s a
    part a i = (same_part d g sound cell s is settled a).1 i

    near : (a : Square) → InGate d g cell s a → (q : Square) → IsAround a q → IsNearOpen d g left cell q → found a ≡ true
    near a i q around h = let t = part a i in seeds a q (region_has Edges (IsKept d cell g.region) s a t) around h

    led : (a : Square) → found a ≡ true → InGate d g cell s a → found s ≡ true
    led a h i = let way = (region_back Edges (IsKept d cell g.region) s a (part a i)).joined in ends_found d g cell found closed a s way.via h way.chain

pub parted_open : PartedOpenLaw
parted_open d g cell left found sound reached closed exact seeds judged s settled = elim (true_or_not (found s)) [
  | inl e ↦ judged s e settled
  | inr not ↦ inr (unfound_open d g cell left found sound reached closed exact seeds s settled not)
]
