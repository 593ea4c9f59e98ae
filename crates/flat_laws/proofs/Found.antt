-- Parts of kept gate squares that were found.
use Rattle.flat_laws.proofs.Joints.{region_self, region_has, region_back, region_next}
use Rattle.flat_laws.proofs.Terminals.{keep}
use Rattle.plain_netlist.proofs.Links.{stays, single, prepend, along}
use Rattle.std.proofs.Common.{◌≡◌, ◌↔◌, inl, inr, ℕ, List, [], ◌∷◌, subst, Bool, true}
use Rattle.base_laws.proofs.Tests.{true_or_not}
use Rattle.flat_laws.specs.SeedLaws.{KeptPartLaw, ClosedLaw, PartedLaw}
use Rattle.flat_layout.specs.Gates.{Geometry, IsStep, InGate, IsSettled, IsSoundGeometry, IsGateBelow}
use Rattle.flat_layout.specs.Layers.{InFlat, Formula, Input, Empty, Binary, Sized, IsKept, IsCalmAt}
use Rattle.flat_layout.specs.Layout.{Design, IsReached}
use Rattle.flat_layout.specs.Parts.{InPart, Edges}
use Rattle.flat_layout.specs.Plane.{IsAround, SharesEdge}
use Rattle.flat_layout.specs.Seeds.{IsNearSeed, IsCalmPart, IsClosed}
use Rattle.geo_base.specs.declared.shapes.Square.{Square}
use Rattle.plain_netlist.specs.Chains.{IsChain, Reaches}
use Rattle.flat_laws.proofs.Kept.{close_in}
use Rattle.flat_laws.proofs.Moves.{edge_around}
use Rattle.flat_laws.proofs.Once.{gate_self}
use Rattle.flat_laws.proofs.Seeds.{seed}

kept_flat : (d : Design) (cell : ℕ) (name : Formula) (q : Square) → IsKept d cell name q → InFlat d cell name q
kept_flat d cell (Input key) q h = h
kept_flat d cell Empty q h = h
kept_flat d cell (Binary op a b) q h = h.0
kept_flat d cell (Sized by a) q h = h.0

module _ (d : Design) (g : Geometry) (sound : IsSoundGeometry g) (cell : ℕ) (s : Square) (is : IsKept d cell g.region s) where
  abbrev K : Square → Type 0
  K = IsKept d cell g.region

  abbrev F : Square → Type 0
  F = InFlat d cell g.region

  part_in_gate : (q : Square) → InPart K s q → InGate d g cell s q
  part_in_gate q h = record {
    from = kept_flat d cell g.region s is;
    joined = along (IsStep K) (IsStep F) (λ y. y) (λ a b k. single (IsStep F) a b (record { from = kept_flat d cell g.region a k.from; to = kept_flat d cell g.region b k.to; edge = k.edge })) s q h.joined;
  }

  start : InPart K s s
  start = region_self Edges K s is

  part_next : (a b : Square) → InPart K s a → SharesEdge a b → K b → InPart K s b
  part_next a b h edge k = region_next Edges K s a b h (record { from = region_has Edges K s a h; to = k; edge = edge })

  goes_kept : ((a q : Square) → InPart K s a → IsAround a q → IsCalmAt d g.keys g.reach cell q) → (a q : Square) (via : List Square) → InPart K s a → IsChain (IsStep F) a via q → InPart K s q
  goes_kept free a q [] h chain = subst (λ (y : Square). InPart K s y) chain h
  goes_kept free a q (x ∷ via) h chain =
      goes_kept free x q via (part_next a x h chain.0.edge (keep d g cell g.region x sound (free a x h (edge_around a x chain.0.edge)) chain.0.to)) chain.1

  gate_in_part : ((a q : Square) → InPart K s a → IsAround a q → IsCalmAt d g.keys g.reach cell q) → (q : Square) → InGate d g cell s q → InPart K s q
  gate_in_part free q h = goes_kept free s q h.joined.via start h.joined.chain

  calm_free : IsCalmPart d g cell s → (a q : Square) → InPart K s a → IsAround a q → IsCalmAt d g.keys g.reach cell q
  calm_free h a q k around = h.calm q (record { square = a; in_part = k; around = around })

  settled_free : IsSettled d g cell s → (a q : Square) → InPart K s a → IsAround a q → IsCalmAt d g.keys g.reach cell q
  settled_free h a q k around = h.calm q (record { square = a; in_part = part_in_gate a k; around = around })

  to_settled : IsCalmPart d g cell s → IsSettled d g cell s
  to_settled h = record {
    is = kept_flat d cell g.region s is;
    calm = λ q c. h.calm q (record { square = c.square; in_part = gate_in_part (calm_free h) c.square c.in_part; around = c.around });
    mine = h.mine;
    in_gate = part_in_gate h.mine h.in_part;
    alone = h.alone;
  }

  from_settled : IsSettled d g cell s → IsCalmPart d g cell s
  from_settled h = record {
    calm = λ q c. settled_free h c.square q c.in_part c.around;
    mine = h.mine;
    in_part = gate_in_part (settled_free h) h.mine h.in_gate;
    alone = h.alone;
  }

  pub same_part : IsSettled d g cell s → (q : Square) → InPart K s q ↔ InGate d g cell s q
  same_part h q = (part_in_gate q, gate_in_part (settled_free h) q)

pub kept_part : KeptPartLaw
kept_part d g cell s sound is = ((to_settled d g sound cell s is, from_settled d g sound cell s is), same_part d g sound cell s is)

module _ (d : Design) (geo : Geometry) (cell : ℕ) (found : Square → Bool) (closed_ : IsClosed d geo cell found) where
  abbrev N : Square → Type 0
  N a = found a ≡ true

  inside : (a q : Square) (via : List Square) → N a → IsChain (IsStep (IsKept d cell geo.region)) a via q → Reaches (IsStep N) a q
  inside a q [] h chain = stays (IsStep N) a q chain
  inside a q (x ∷ via) h chain =
      let next = closed_.steps a x h chain.0 in
      prepend (IsStep N) a x q (record { from = h; to = next; edge = chain.0.edge }) (inside x q via next chain.1)

  pub ends_found : (a q : Square) (via : List Square) → N a → IsChain (IsStep (IsKept d cell geo.region)) a via q → N q
  ends_found a q [] h chain = subst (λ (v : Square). N v) chain h
  ends_found a q (x ∷ via) h chain = ends_found x q via (closed_.steps a x h chain.0) chain.1

pub closed : ClosedLaw
closed d geo cell found h s q is = (
  (λ p. record {
    from = h.kept s is;
    joined = along (IsStep (λ a. found a ≡ true)) (IsStep (IsKept d cell geo.region)) (λ v. v)
        (λ a b k. single (IsStep (IsKept d cell geo.region)) a b (record { from = h.kept a k.from; to = h.kept b k.to; edge = k.edge })) s q p.joined;
  }),
  (λ p. record { from = is; joined = inside d geo cell found h s q p.joined.via is p.joined.chain }),
)

-- a settled gate that wasn't found comes from below
pub unfound : (d : Design) (geo : Geometry) (small : IsSoundGeometry geo) (cell : ℕ) (found : Square → Bool) → IsReached d cell → IsClosed d geo cell found
    → ((a q : Square) → IsKept d cell geo.region a → IsAround a q → IsNearSeed d geo cell q → found a ≡ true) → (s : Square) → IsSettled d geo cell s → (found s ≡ true → ⊥) → IsGateBelow d geo cell s
unfound d geo small cell found reached h seeds s settled not =
    seed d geo cell s small reached settled.is (λ q c g.
    let self = close_in d geo cell s s (gate_self d geo cell s settled.is) in
    let is = keep d geo cell geo.region s small (settled.calm s self) settled.is in
    let part : InPart (IsKept d cell geo.region) s c.square = (same_part d geo small cell s is settled c.square).1 c.in_part in
    let near : found c.square ≡ true = seeds c.square q (region_has Edges (IsKept d cell geo.region) s c.square part) c.around g in
    let way = (region_back Edges (IsKept d cell geo.region) s c.square part).joined in
    not (ends_found d geo cell found h c.square s way.via near way.chain))

pub parted : PartedLaw
parted d geo cell found small reached h seeds judged s settled = elim (true_or_not (found s)) [
  | inl e ↦ judged s e settled
  | inr not ↦ inr (unfound d geo small cell found reached h seeds s settled not)
]
