-- Which gates come from below: by what is close to them, through one placement.
use Rattle.std.proofs.Common.{◌≡◌, ◌↔◌, ℕ, ◌+◌, List, [], ◌∷◌, sym, subst}
use Rattle.flat_laws.specs.SeedLaws.{ThroughLaw, CalmThroughLaw, TestLaw, BelowLaw, IsTested}
use Rattle.flat_layout.specs.Gates.{Geometry, IsStep, InGate, IsGateOrRing, IsSettled, IsSoundGeometry}
use Rattle.flat_layout.specs.Layers.{inputs, reach as reach_from, InFlat, IsCalmAt, IsLone}
use Rattle.flat_layout.specs.Layout.{Place, Design, IsPlaced, IsReached}
use Rattle.flat_layout.specs.Plane.{SharesEdge}
use Rattle.flat_layout.specs.Seeds.{IsInReach, IsGateThrough, IsFreeThrough}
use Rattle.geo_base.specs.Motions.{moved_square}
use Rattle.geo_base.specs.declared.shapes.Square.{Square}
use Rattle.plain_netlist.specs.Chains.{IsChain}
use Rattle.flat_laws.proofs.Calm.{calm_fewer, same_flat}
use Rattle.flat_laws.proofs.Kept.{in_next, close_in, close_by, close, gate_up, gate_down}
use Rattle.flat_laws.proofs.Moves.{edges, arounds, onto}
use Rattle.flat_laws.proofs.Once.{gate_flat, gate_on, gate_between, gate_self}
use Rattle.flat_laws.proofs.Paths.{moved_square-injective}
use Rattle.flat_laws.proofs.Seeds.{reach}

module _ (d : Design) (g : Geometry) (sound : IsSoundGeometry g) (cell k : ℕ) (p : Place) (reached : IsReached d cell) (placed : IsPlaced d cell k p) (r : Square)
    (gate : InFlat d cell g.region (moved_square p.motion r)) (free : (q : Square) → IsGateOrRing d g cell (moved_square p.motion r) (moved_square p.motion q) → IsCalmAt d g.keys g.reach p.cell q) where
  abbrev f : Square → Square
  f = moved_square p.motion

  same : (q : Square) → IsGateOrRing d g cell (f r) (f q) → InFlat d cell g.region (f q) ↔ InFlat d p.cell g.region q
  same q near = same_flat d g.region cell k p q reached placed (calm_fewer d (inputs g.region) g.keys (reach_from g.region) g.reach p.cell q sound.reach sound.keys (free q near))

  self : InGate d g cell (f r) (f r)
  self = gate_self d g cell (f r) gate

  is : InFlat d p.cell g.region r
  is = (same r (close_in d g cell (f r) (f r) self)).0 gate

  up : (a q : Square) (via : List Square) → InGate d g cell (f r) (f a) → IsChain (IsStep (InFlat d p.cell g.region)) a via q → InGate d g cell (f r) (f q)
  up a q [] h chain = subst (λ y. InGate d g cell (f r) (f y)) chain h
  up a q (x ∷ xs) h chain =
      let edge : SharesEdge (f a) (f x) = (edges p.motion a x).1 chain.0.edge in
      let here = (same x (close_by d g cell (f r) (f a) (f x) h edge)).1 chain.0.to in
      up x q xs (in_next d g cell (f r) (f a) (f x) h (record { from = gate_flat d g cell (f r) (f a) h; to = here; edge = edge })) chain.1

  down : (a q : Square) (via : List Square) → InGate d g p.cell r a → InGate d g cell (f r) (f a) → IsChain (IsStep (InFlat d cell g.region)) (f a) via q → (c : Square) × (f c ≡ q) × InGate d g p.cell r c
  down a q [] low high chain = (a, chain, low)
  down a q (x ∷ xs) low high chain =
      let o = onto p.motion x in
      let step : IsStep (InFlat d cell g.region) (f a) (f o.0) = subst (λ y. IsStep (InFlat d cell g.region) (f a) y) (sym o.1) chain.0 in
      let next = in_next d g cell (f r) (f a) (f o.0) high step in
      let edge = (edges p.motion a o.0).0 step.edge in
      let here = (same o.0 (close_in d g cell (f r) (f o.0) next)).0 step.to in
      let lower = in_next d g p.cell r a o.0 low (record { from = gate_flat d g p.cell r a low; to = here; edge = edge }) in
      down o.0 q xs lower next (subst (λ y. IsChain (IsStep (InFlat d cell g.region)) y xs q) (sym o.1) chain.1)

  pub settled_below : (a : Square) → InGate d g cell (f r) (f a) → (IsLone d p.cell g.region a → ⊥) → IsSettled d g p.cell r
  settled_below a in_gate alone =
      let low = gate_self d g p.cell r is in
      let b = down r (f a) in_gate.joined.via low self in_gate.joined.chain in
      record {
        is = is;
        calm = λ q c. free q (record { square = f c.square; in_part = up r c.square c.in_part.joined.via self c.in_part.joined.chain; around = (arounds p.motion c.square q).1 c.around });
        mine = b.0;
        in_gate = b.2;
        alone = λ h. alone (subst (λ y. IsLone d p.cell g.region y) (one b.0 a b.1) h);
      }
    where
      one : (x y : Square) → f x ≡ f y → x ≡ y
      one x y e = moved_square-injective p.motion x y e

-- that what is close to it is calm there is enough, with a square that others can't make alone
pub calm_through : CalmThroughLaw
calm_through d g cell k p s sound reached placed gate calm mine in_gate alone =
    let o = onto p.motion s in
    let flat : InFlat d cell g.region (moved_square p.motion o.0) = subst (λ y. InFlat d cell g.region y) (sym o.1) gate in
    let free : (q : Square) → IsGateOrRing d g cell (moved_square p.motion o.0) (moved_square p.motion q) → IsCalmAt d g.keys g.reach p.cell q =
    λ q c. calm q (subst (λ y. IsGateOrRing d g cell y (moved_square p.motion q)) o.1 c) in
    record {
      square = o.0;
      settled = settled_below d g sound cell k p reached placed o.0 flat free mine (subst (λ y. InGate d g cell y (moved_square p.motion mine)) (sym o.1) in_gate) alone;
      image = o.1;
    }

pub through : ThroughLaw
through d g cell k p s sound reached placed gate = (
  (λ h.
      let place = onto_image h.square h.settled h.image in place),
  (λ h. calm_through d g cell k p s sound reached placed gate h.calm h.mine h.in_gate h.alone),
)
  where
    onto_image : (r : Square) → IsSettled d g p.cell r → moved_square p.motion r ≡ s → IsFreeThrough d g cell s p
    onto_image r settled image = subst (λ y. IsFreeThrough d g cell y p) image (record {
      reach = λ q c. reach d g p.cell r q sound ((close d g sound cell k p r reached placed settled q).0 c);
      calm = λ q c. settled.calm q ((close d g sound cell k p r reached placed settled q).0 c);
      mine = settled.mine;
      in_gate = gate_up d g sound cell k p r reached placed settled settled.mine settled.in_gate;
      alone = settled.alone;
    })

pub test : TestLaw
test d g cell k p s hull left lone sound reached placed gate has exact exact_lone = (there, here)
  where
    in_reach : (h : IsGateThrough d g cell s p) (q : Square) → IsGateOrRing d g cell s (moved_square p.motion q) → IsInReach d g.keys (g.reach + 1) p.cell q
    in_reach h q c = reach d g p.cell h.square q sound
        ((close d g sound cell k p h.square reached placed h.settled q).0 (subst (λ y. IsGateOrRing d g cell y (moved_square p.motion q)) (sym h.image) c))

    there : IsGateThrough d g cell s p → IsTested d g cell s p hull left lone
    there h =
        let free = (through d g cell k p s sound reached placed gate).0 h in
        let near = close_in d g cell s (moved_square p.motion free.mine) free.in_gate in
        record {
          close = λ q c. let inside = has q (in_reach h q c) in (inside, (exact q inside).1 (free.calm q c));
          mine = free.mine;
          in_gate = free.in_gate;
          alone = (exact_lone free.mine (has free.mine (in_reach h free.mine near))).1 free.alone;
        }

    here : IsTested d g cell s p hull left lone → IsGateThrough d g cell s p
    here t =
        let near = close_in d g cell s (moved_square p.motion t.mine) t.in_gate in
        calm_through d g cell k p s sound reached placed gate (λ q c. let r = t.close q c in (exact q r.0).0 r.1) t.mine t.in_gate ((exact_lone t.mine (t.close t.mine near).0).0 t.alone)

-- another square of the gate that comes through does as well
pub below : BelowLaw
below d geo cell s small reached = (
  (λ h.
      let r = gate_down d geo small cell h.number h.place h.square reached h.placed h.settled s (gate_between d geo cell s (moved_square h.place.motion h.square) s h.image (gate_self d geo cell s h.image.from)) in
      (h.number, h.place, h.placed, record { square = r.0; settled = on_gate h.place.cell h.square r.0 h.settled r.2; image = r.1 })),
  (λ h.
      let t = h.3 in
      let start = gate_up d geo small cell h.0 h.1 t.square reached h.2 t.settled t.square (gate_self d geo h.1.cell t.square t.settled.is) in
      record { number = h.0; place = h.1; square = t.square; placed = h.2; settled = t.settled; image = subst (λ (v : Square). InGate d geo cell v (moved_square h.1.motion t.square)) t.image start }),
)
  where
    on_gate : (c : ℕ) (a b : Square) → IsSettled d geo c a → InGate d geo c a b → IsSettled d geo c b
    on_gate c a b h g = record {
      is = gate_flat d geo c a b g;
      calm = λ q k. h.calm q (record { square = k.square; in_part = gate_on d geo c a b k.square g k.in_part; around = k.around });
      mine = h.mine;
      in_gate = gate_between d geo c a b h.mine g h.in_gate;
      alone = h.alone;
    }
