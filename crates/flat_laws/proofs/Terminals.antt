-- The nodes of a settled good gate's terminal are in one region, and the top keeps all.
use Rattle.std.proofs.Common.{◌≡◌, inl, inr, ℕ, zero, suc, ◌<◌, List, [], ◌∷◌, Some, None, length, refl, ◌∙◌, ap, subst}
use Rattle.flat_laws.specs.GateLaws.{GroundNodeLaw, IsReadWhole, TerminalNodeLaw}
use Rattle.flat_laws.specs.LayerLaws.{TopKeptLaw}
use Rattle.flat_layout.specs.Gates.{Rule, Geometry, geometry, ground, IsReadBy, IsStep, InGate, InSide, InOneGroup, Edge, IsWide, IsSettled, Sides, TwoGroups, Region, Form, Beside, Alone, form_of, gate_sheet, sheets, IsRegionNode, IsGroupNode, IsGateNode, IsOtherNode, IsTerminalNode}
use Rattle.flat_layout.specs.Parts.{Edges, AllOn, IsGoodForm}
use Rattle.flat_layout.specs.Layers.{Formula, Input, Empty, Binary, Sized, inputs, reach, InFlat, IsKept, IsCalmAt}
use Rattle.flat_layout.specs.Layout.{Design}
use Rattle.flat_layout.specs.Regions.{Wiring, Node, At, Ground, IsNode, IsLink, InOneRegion, formula, ground_of, kept}
use Rattle.geo_base.specs.declared.shapes.Square.{Square}
use Rattle.plain_netlist.specs.Chains.{IsChain, Reaches}
use Rattle.plain_netlist.specs.declared.kinds.DeviceKind.{DeviceKind}
use Rattle.plain_netlist.specs.declared.kinds.DeviceKind.TheVariants.{Mos4, ResistorWithBulk, Diode}
use Rattle.plain_netlist.specs.Devices.{Terminal, First, Second, Other}
use Rattle.flat_laws.proofs.Calm.{calm_fewer, top_calm}
use Rattle.plain_netlist.proofs.Links.{stays, single, both, back, along}
use Rattle.flat_laws.proofs.Joints.{adjacent_back, last_in}
use Rattle.flat_laws.proofs.Formed.{read_layers}
use Rattle.flat_laws.proofs.Kept.{close_in, close_by, in_next}
use Rattle.flat_laws.proofs.Once.{gate_between}

-- a flat square near which all is shut is kept
pub keep : (d : Design) (g : Geometry) (cell : ℕ) (name : Formula) (q : Square) → IsReadBy g name → IsCalmAt d g.keys g.reach cell q → InFlat d cell name q → IsKept d cell name q
keep d g cell (Input key) q read calm h = h
keep d g cell Empty q read calm h = h
keep d g cell (Binary op a b) q read calm h = (h, calm_fewer d (inputs (Binary op a b)) g.keys (reach (Binary op a b)) g.reach cell q read.reach read.keys calm)
keep d g cell (Sized by a) q read calm h = (h, calm_fewer d (inputs (Sized by a)) g.keys (reach (Sized by a)) g.reach cell q read.reach read.keys calm)

pub top_kept : TopKeptLaw
top_kept d height (Input key) q linked = ((λ h. h), (λ h. h))
top_kept d height Empty q linked = ((λ h. h), (λ h. h))
top_kept d height (Binary op a b) q linked = ((λ h. h.0), (λ h. (h, top_calm d height linked (inputs (Binary op a b)) (reach (Binary op a b)) q)))
top_kept d height (Sized by a) q linked = ((λ h. h.0), (λ h. (h, top_calm d height linked (inputs (Sized by a)) (reach (Sized by a)) q)))

module _ (d : Design) (w : Wiring) (u : Rule) (cell : ℕ) (s : Square) (settled : IsSettled d (geometry w u) cell s) where
  abbrev geo : Geometry
  geo = geometry w u

  whole : IsReadWhole w u
  whole = read_layers w u

  abbrev R : Node → Node → Type 0
  R = IsLink w (kept d w cell)

  -- a chain of squares that keep to a conductor is one of nodes
  run : (c : ℕ) (P : Square → Type 0) → ((q : Square) → P q → kept d w cell c q) → (a b : Square) → Reaches (IsStep P) a b → InOneRegion w (kept d w cell) (At c a) (At c b)
  run c P held a b h = along (IsStep P) R (At c) (λ x y g. single R (At c x) (At c y) (record { from = held x g.from; to = held y g.to; touch = (inl refl, inr g.edge) })) a b h

  gate_kept : (c : ℕ) → IsReadBy geo (formula w c) → ((q : Square) → InGate d geo cell s q → InFlat d cell (formula w c) q) → (q : Square) → InGate d geo cell s q → kept d w cell c q
  gate_kept c inside h q i = keep d geo cell (formula w c) q inside (settled.calm q (close_in d geo cell s q i)) (h q i)

  in_gate : (a b : Square) (via : List Square) → InGate d geo cell s a → IsChain (IsStep (InFlat d cell u.gate)) a via b → IsChain (IsStep (InGate d geo cell s)) a via b
  in_gate a b [] h chain = chain
  in_gate a b (x ∷ xs) h chain =
      let next = in_next d geo cell s a x h chain.0 in
      (record { from = h; to = next; edge = chain.0.edge }, in_gate x b xs next chain.1)

  on_gate : (c : ℕ) → IsReadBy geo (formula w c) → ((q : Square) → InGate d geo cell s q → InFlat d cell (formula w c) q) → (a b : Square) → InGate d geo cell s a → InGate d geo cell s b
      → kept d w cell c a × InOneRegion w (kept d w cell) (At c a) (At c b)
  on_gate c inside h a b i j =
      let way = gate_between d geo cell s a b i j in
      let held = gate_kept c inside h in
      (held a i, run c (InGate d geo cell s) held a b (record { via = way.joined.via; chain = in_gate a b way.joined.via i way.joined.chain }))

  -- a group's squares, from its edge on
  abbrev InEnd : Edge → Square → Type 0
  InEnd x q = InOneGroup d w u cell s x.outer q

  end_kept : (x : Edge) → IsWide d w u cell s x → ((q : Square) → InEnd x q → InFlat d cell (formula w u.ts) q) → (q : Square) → InEnd x q → kept d w cell u.ts q
  end_kept x wide h q i =
      let first : InSide d w u cell s x.outer = record { ring = record { close = close_by d geo cell s x.inner x.outer wide.border.inside wide.border.edge; outside = wide.border.outside }; sd = wide.sd } in
      let side = last_in Edges (InSide d w u cell s) x.outer q i.via first i.chain in
      keep d geo cell (formula w u.ts) q whole.ts (settled.calm q side.ring.close) (h q i)

  in_end : (x : Edge) (a b : Square) (via : List Square) → InEnd x a → IsChain (IsStep (InSide d w u cell s)) a via b → IsChain (IsStep (InEnd x)) a via b
  in_end x a b [] h chain = chain
  in_end x a b (y ∷ ys) h chain =
      let next : InEnd x y = both (IsStep (InSide d w u cell s)) x.outer a y h (single (IsStep (InSide d w u cell s)) a y chain.0) in
      (record { from = h; to = next; edge = chain.0.edge }, in_end x y b ys next chain.1)

  on_end : (x : Edge) → IsWide d w u cell s x → ((q : Square) → InEnd x q → InFlat d cell (formula w u.ts) q) → (a b : Square) → InEnd x a → InEnd x b → kept d w cell u.ts a × InOneRegion w (kept d w cell) (At u.ts a) (At u.ts b)
  on_end x wide h a b i j =
      let held = end_kept x wide h in
      let way = both (IsStep (InSide d w u cell s)) a x.outer b (back (IsStep (InSide d w u cell s)) (adjacent_back Edges (InSide d w u cell s)) x.outer a i) j in
      (held a i, run u.ts (InEnd x) held a b (record { via = way.via; chain = in_end x a b way.via i way.chain }))

  at_ends : (a b m n : Node) → a ≡ m → b ≡ n → IsNode w (kept d w cell) a × InOneRegion w (kept d w cell) a b → IsNode w (kept d w cell) m × InOneRegion w (kept d w cell) m n
  at_ends a b m n p q h = (subst (λ x. IsNode w (kept d w cell) x) p h.0, subst (λ x. InOneRegion w (kept d w cell) m x) q (subst (λ x. InOneRegion w (kept d w cell) x b) p h.1))

  group_terminal : (x : Edge) (m n : Node) → IsWide d w u cell s x → AllOn (InEnd x) (InFlat d cell (formula w u.ts)) → IsGroupNode d w u cell s x m → IsGroupNode d w u cell s x n
      → IsNode w (kept d w cell) m × InOneRegion w (kept d w cell) m n
  group_terminal x m n wide on h i = at_ends (At u.ts h.0) (At u.ts i.0) m n h.2 i.2 (on_end x wide on h.0 i.0 h.1 i.1)

  region_terminal : (c : ℕ) (m n : Node) → IsReadBy geo (formula w c) → (ground_of c w.grounds ≡ None → AllOn (InGate d geo cell s) (InFlat d cell (formula w c))) → ((g : ℕ) → Ground g ≡ m → g < length w.globals)
      → IsRegionNode d w u cell s c m → IsRegionNode d w u cell s c n → IsNode w (kept d w cell) m × InOneRegion w (kept d w cell) m n
  region_terminal c m n read on known (inl h) (inl i) =
      let same : h.0 ≡ i.0 = let a = h.1 in let b = i.1 in cc in
      let one : Ground h.0 ≡ n = ap Ground same ∙ i.2 in
      at_ends (Ground h.0) (Ground h.0) m n h.2 one (known h.0 h.2, stays R (Ground h.0) (Ground h.0) refl)
  region_terminal c m n read on known (inl h) (inr i) = let a = h.1 in let b = i.0 in cc
  region_terminal c m n read on known (inr h) (inl i) = let a = h.0 in let b = i.1 in cc
  region_terminal c m n read on known (inr h) (inr i) = at_ends (At c h.1.0) (At c i.1.0) m n h.1.2 i.1.2 (on_gate c read (on h.0) h.1.0 i.1.0 h.1.1 i.1.1)

  module _ (m n : Node) (known : (g : ℕ) → Ground g ≡ m → g < length w.globals) (bulk : ground w u ≡ None → AllOn (InGate d geo cell s) (InFlat d cell (formula w u.tb))) where
    bulk_terminal : IsRegionNode d w u cell s u.tb m → IsRegionNode d w u cell s u.tb n → IsNode w (kept d w cell) m × InOneRegion w (kept d w cell) m n
    bulk_terminal h i = region_terminal u.tb m n whole.tb bulk known h i

    gate_terminal : AllOn (InGate d geo cell s) (InFlat d cell (formula w u.tg)) → IsGateNode d w u cell s m → IsGateNode d w u cell s n → IsNode w (kept d w cell) m × InOneRegion w (kept d w cell) m n
    gate_terminal on h i = at_ends (At u.tg h.0) (At u.tg i.0) m n h.2 i.2 (on_gate u.tg whole.tg on h.0 i.0 h.1 i.1)

    -- of a region between two groups
    beside_terminal : (k : DeviceKind) → form_of k ≡ Beside → (place : ℕ) → AllOn (InGate d geo cell s) (gate_sheet k (InFlat d cell (formula w u.tg))) → IsOtherNode k d w u cell s place m → IsOtherNode k d w u cell s place n
        → IsNode w (kept d w cell) m × InOneRegion w (kept d w cell) m n
    beside_terminal Mos4 is zero on h i = gate_terminal on h i
    beside_terminal Mos4 is (suc zero) on h i = bulk_terminal h i
    beside_terminal Mos4 is (suc (suc j)) on h i = absurd h
    beside_terminal ResistorWithBulk is zero on h i = bulk_terminal h i
    beside_terminal ResistorWithBulk is (suc j) on h i = absurd h
    beside_terminal Diode is place on h i = absurd cc

    -- of a region alone
    alone_terminal : (k : DeviceKind) → form_of k ≡ Alone → (place : ℕ) → (ground_of u.ts w.grounds ≡ None → AllOn (InGate d geo cell s) (InFlat d cell (formula w u.ts))) → IsOtherNode k d w u cell s place m → IsOtherNode k d w u cell s place n
        → IsNode w (kept d w cell) m × InOneRegion w (kept d w cell) m n
    alone_terminal Mos4 is place on h i = absurd cc
    alone_terminal ResistorWithBulk is place on h i = absurd cc
    alone_terminal Diode is zero on h i = region_terminal u.ts m n whole.ts on known h i
    alone_terminal Diode is (suc zero) on h i = bulk_terminal h i
    alone_terminal Diode is (suc (suc j)) on h i = absurd h

  by_form : (form : Form) → form_of u.kind ≡ form → (sides : Sides) (k l : ℕ) → IsGoodForm form (sheets d w u cell) (InGate d geo cell s) sides k l → (terminal : Terminal) (m n : Node)
      → ((g : ℕ) → Ground g ≡ m → g < length w.globals) → IsTerminalNode d w u cell s sides terminal m → IsTerminalNode d w u cell s sides terminal n
      → IsNode w (kept d w cell) m × InOneRegion w (kept d w cell) m n
  by_form Beside is (TwoGroups e f) k l form First m n known h i = group_terminal e m n (form.groups.each e (inl refl)) (λ q v. form.ends_on q (inl v)) h i
  by_form Beside is (TwoGroups e f) k l form Second m n known h i = group_terminal f m n (form.groups.each f (inr (inl refl))) (λ q v. form.ends_on q (inr v)) h i
  by_form Beside is (TwoGroups e f) k l form (Other place) m n known h i = beside_terminal m n known form.bulk_on u.kind is place form.gate_on h i
  by_form Beside is Region k l form terminal m n known h i = absurd form
  by_form Alone is (TwoGroups e f) k l form terminal m n known h i = absurd form
  by_form Alone is Region k l form First m n known h i = absurd h
  by_form Alone is Region k l form Second m n known h i = absurd h
  by_form Alone is Region k l form (Other place) m n known h i = alone_terminal m n known form.bulk_on u.kind is place form.ends_on h i

pub terminals : TerminalNodeLaw
terminals d w u cell s sides k l terminal m n reached settled form known h i = by_form d w u cell s settled (form_of u.kind) refl sides k l form terminal m n known h i

-- ---- globals

module _ (d : Design) (w : Wiring) (u : Rule) (cell : ℕ) (s : Square) (g : ℕ) where
  abbrev HasGround : Type 0
  HasGround = (c : ℕ) × (ground_of c w.grounds ≡ Some g)

  region_ground : (c : ℕ) → IsRegionNode d w u cell s c (Ground g) → HasGround
  region_ground c (inl h) = let same : h.0 ≡ g = let a = h.2 in cc in (c, subst (λ j. ground_of c w.grounds ≡ Some j) same h.1)
  region_ground c (inr h) = let a = h.1.2 in absurd cc

  group_ground : (e : Edge) → IsGroupNode d w u cell s e (Ground g) → HasGround
  group_ground e h = let a = h.2 in absurd cc

  gate_ground : IsGateNode d w u cell s (Ground g) → HasGround
  gate_ground h = let a = h.2 in absurd cc

  other_ground : (k : DeviceKind) (place : ℕ) → IsOtherNode k d w u cell s place (Ground g) → HasGround
  other_ground Mos4 zero h = gate_ground h
  other_ground Mos4 (suc zero) h = region_ground u.tb h
  other_ground Mos4 (suc (suc j)) h = absurd h
  other_ground ResistorWithBulk zero h = region_ground u.tb h
  other_ground ResistorWithBulk (suc j) h = absurd h
  other_ground Diode zero h = region_ground u.ts h
  other_ground Diode (suc zero) h = region_ground u.tb h
  other_ground Diode (suc (suc j)) h = absurd h

  terminal_ground : (sides : Sides) (terminal : Terminal) → IsTerminalNode d w u cell s sides terminal (Ground g) → HasGround
  terminal_ground (TwoGroups e f) First h = group_ground e h
  terminal_ground (TwoGroups e f) Second h = group_ground f h
  terminal_ground Region First h = absurd h
  terminal_ground Region Second h = absurd h
  terminal_ground sides (Other place) h = other_ground u.kind place h

pub grounds : GroundNodeLaw
grounds d w u cell s sides terminal g h = terminal_ground d w u cell s g sides terminal h
