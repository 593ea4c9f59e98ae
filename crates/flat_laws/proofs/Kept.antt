-- The image of a settled gate is a settled gate, with its ring.
use Rattle.std.proofs.Common.{◌≡◌, ◌↔◌, ℕ, List, [], ◌∷◌, sym, ap, subst}
use Rattle.flat_laws.specs.GateLaws.{KeptGateLaw}
use Rattle.flat_layout.specs.Gates.{Geometry, IsReadBy, IsSoundGeometry, IsStep, InGate, IsGateOrRing, InRing, IsSettled}
use Rattle.flat_layout.specs.Layers.{Formula, inputs, reach, InFlat, IsCalmAt}
use Rattle.flat_layout.specs.Layout.{Place, Design, IsPlaced, IsReached}
use Rattle.flat_layout.specs.Parts.{Edges}
use Rattle.flat_layout.specs.Plane.{SharesEdge, IsAround}
use Rattle.geo_base.specs.Motions.{moved_square}
use Rattle.geo_base.specs.declared.shapes.Square.{Square}
use Rattle.plain_netlist.specs.Chains.{IsChain, Reaches}
use Rattle.flat_laws.proofs.Paths.{moved_square-injective}
use Rattle.flat_laws.proofs.Calm.{calm_above, calm_fewer, same_flat}
use Rattle.flat_laws.proofs.Lone.{lone_below}
use Rattle.plain_netlist.proofs.Links.{stays, prepend}
use Rattle.flat_laws.proofs.Joints.{region_self, region_next}
use Rattle.flat_laws.proofs.Moves.{edges, arounds, around_same, edge_around, onto}

module _ (d : Design) (g : Geometry) (cell : ℕ) (s : Square) where
  -- a gate's next square
  pub in_next : (a x : Square) → InGate d g cell s a → IsStep (InFlat d cell g.region) a x → InGate d g cell s x
  in_next a x h step = region_next Edges (InFlat d cell g.region) s a x h step

  pub close_in : (a : Square) → InGate d g cell s a → IsGateOrRing d g cell s a
  close_in a h = record { square = a; in_part = h; around = around_same a }

  pub close_by : (a x : Square) → InGate d g cell s a → SharesEdge a x → IsGateOrRing d g cell s x
  close_by a x h e = record { square = a; in_part = h; around = edge_around a x e }

module _ (d : Design) (g : Geometry) (sound : IsSoundGeometry g) (cell k : ℕ) (p : Place) (s : Square) (reached : IsReached d cell) (placed : IsPlaced d cell k p) (settled : IsSettled d g p.cell s) where
  abbrev f : Square → Square
  f = moved_square p.motion

  abbrev Below : Square → Type 0
  Below = InFlat d p.cell g.region

  abbrev Above : Square → Type 0
  Above = InFlat d cell g.region

  pub one_square : (a c : Square) → f a ≡ f c → a ≡ c
  one_square a c e = moved_square-injective p.motion a c e

  -- close to the gate, the flat sets that the geometry reads are the same
  pub same_read : (name : Formula) → IsReadBy g name → (q : Square) → IsGateOrRing d g p.cell s q → InFlat d cell name (f q) ↔ InFlat d p.cell name q
  same_read name read q near = same_flat d name cell k p q reached placed (calm_fewer d (inputs name) g.keys (reach name) g.reach p.cell q read.reach read.keys (settled.calm q near))

  same : (q : Square) → IsGateOrRing d g p.cell s q → InFlat d cell g.region (f q) ↔ InFlat d p.cell g.region q
  same q near = same_read g.region sound q near

  start : InGate d g p.cell s s
  start = region_self Edges Below s settled.is

  is_above : Above (f s)
  is_above = (same s (close_in d g p.cell s s start)).1 settled.is

  up : (a q : Square) (via : List Square) → InGate d g p.cell s a → IsChain (IsStep Below) a via q → Reaches (IsStep Above) (f a) (f q)
  up a q [] h chain = stays (IsStep Above) (f a) (f q) (ap f chain)
  up a q (x ∷ xs) h chain =
      let next = in_next d g p.cell s a x h chain.0 in
      let link : IsStep Above (f a) (f x) = record {
        from = (same a (close_in d g p.cell s a h)).1 chain.0.from;
        to = (same x (close_in d g p.cell s x next)).1 chain.0.to;
        edge = (edges p.motion a x).1 chain.0.edge;
      } in
      prepend (IsStep Above) (f a) (f x) (f q) link (up x q xs next chain.1)

  pub gate_up : (q : Square) → InGate d g p.cell s q → InGate d g cell (f s) (f q)
  gate_up q h = record { from = is_above; joined = up s q h.joined.via start h.joined.chain }

  down : (a q : Square) (via : List Square) → InGate d g p.cell s a → IsChain (IsStep Above) (f a) via q → (c : Square) × (f c ≡ q) × InGate d g p.cell s c
  down a q [] h chain = (a, chain, h)
  down a q (x ∷ xs) h chain =
      let r = onto p.motion x in
      let edge : SharesEdge a r.0 = (edges p.motion a r.0).0 (subst (λ y. SharesEdge (f a) y) (sym r.1) chain.0.edge) in
      let close = close_by d g p.cell s a r.0 h edge in
      let here : Below r.0 = (same r.0 close).0 (subst (λ y. Above y) (sym r.1) chain.0.to) in
      let was : Below a = (same a (close_in d g p.cell s a h)).0 chain.0.from in
      down r.0 q xs (in_next d g p.cell s a r.0 h (record { from = was; to = here; edge = edge })) (subst (λ y. IsChain (IsStep Above) y xs q) (sym r.1) chain.1)

  pub gate_down : (q : Square) → InGate d g cell (f s) q → (c : Square) × (f c ≡ q) × InGate d g p.cell s c
  gate_down q h = down s q h.joined.via start h.joined.chain

  pub squares : (q : Square) → InGate d g cell (f s) (f q) ↔ InGate d g p.cell s q
  squares q = ((λ h. let r = gate_down (f q) h in subst (λ y. InGate d g p.cell s y) (one_square r.0 q r.1) r.2), gate_up q)

  pub close : (q : Square) → IsGateOrRing d g cell (f s) (f q) ↔ IsGateOrRing d g p.cell s q
  close q = (
    (λ h. let r = gate_down h.square h.in_part in record { square = r.0; in_part = r.2; around = (arounds p.motion r.0 q).0 (subst (λ y. IsAround y (f q)) (sym r.1) h.around) }),
    (λ h. record { square = f h.square; in_part = gate_up h.square h.in_part; around = (arounds p.motion h.square q).1 h.around }),
  )

  pub ring : (q : Square) → InRing d g cell (f s) (f q) ↔ InRing d g p.cell s q
  ring q = (
    (λ h. record { close = (close q).0 h.close; outside = λ i. h.outside ((squares q).1 i) }),
    (λ h. record { close = (close q).1 h.close; outside = λ i. h.outside ((squares q).0 i) }),
  )

  pub still : IsSettled d g cell (f s)
  still = record {
    is = is_above;
    calm = λ q c.
        let r = onto p.motion q in
        let near = (close r.0).0 (subst (λ y. IsGateOrRing d g cell (f s) y) (sym r.1) c) in
        subst (λ y. IsCalmAt d g.keys g.reach cell y) r.1 (calm_above d g.keys g.reach cell k p r.0 placed (settled.calm r.0 near));
    mine = f settled.mine;
    in_gate = gate_up settled.mine settled.in_gate;
    alone = λ h. settled.alone (lone_below d g.region cell k p settled.mine placed h);
  }

pub kept_gate : KeptGateLaw
kept_gate d g cell k p s sound reached placed settled = record {
  settled = still d g sound cell k p s reached placed settled;
  squares = squares d g sound cell k p s reached placed settled;
  ring = ring d g sound cell k p s reached placed settled;
}
