-- What the top's circuit expands to is the flat layout's netlist.
use Rattle.std.proofs.Common.{◌≡◌, ◌↔◌, inl, inr, ℕ, List, [], ◌∷◌, Some, slice_get, refl, sym, ◌∙◌, ap, subst, arith}
use Rattle.flat_laws.specs.NetlistLaws.{NetlistLaw}
use Rattle.flat_laws.specs.Planned.{AreGateRows, ArePlanned}
use Rattle.flat_layout.specs.Circuits.{IsCircuitCell}
use Rattle.flat_layout.specs.Expanded.{AreDevices, AreTablesRight, CircuitTables, IsDeviceOf, IsGateOfDevice, ShowsNode}
use Rattle.flat_layout.specs.Gates.{Rule, geometry, InGate, Sides, moved_sides, IsSettled, IsGateBelow, IsListedGate, IsGoodGate}
use Rattle.flat_layout.specs.GateTables.{good_gates}
use Rattle.flat_layout.specs.Layout.{Place, Design, IsPlaced, Takes, IsReached}
use Rattle.flat_layout.specs.Nets.{Tables, NetHolds}
use Rattle.flat_layout.specs.Pins.{IsPinNet, IsMarked, IsUsedAbove}
use Rattle.flat_layout.specs.Regions.{Wiring, Node, IsNode, IsLink, InOneRegion, moved, kept}
use Rattle.geo_base.specs.Motions.{moved_square}
use Rattle.geo_base.specs.declared.shapes.Square.{Square}
use Rattle.plain_netlist.specs.Chains.{IsChain}
use Rattle.plain_netlist.specs.Netlist.{DeviceRow, Netlist, Slot, HasDevice, IsTerminal, IsOnPin}
use Rattle.flat_laws.proofs.Paths.{same_place}
use Rattle.flat_laws.proofs.Cover.{reached_below}
use Rattle.flat_laws.proofs.OneNet.{regions}
use Rattle.flat_laws.proofs.Kept.{squares, gate_up, still}
use Rattle.flat_laws.proofs.Devices.{rule_device}
use Rattle.flat_laws.proofs.Formed.{good, good_back, onto_sides, terminal_up, read_layers}
use Rattle.flat_laws.proofs.Once.{gate_back, gate_on, gate_between, one_place, settled_along, each_once}
use Rattle.flat_laws.proofs.Planned.{planned, lower}
use Rattle.flat_laws.proofs.Rows.{rows}
use Rattle.flat_laws.proofs.Same.{good_same}
use Rattle.flat_laws.proofs.Climb.{slot, call_of, chain_climbs, rise, shows, net_law}

record Raised (d : Design) (w : Wiring) (g : CircuitTables) (nl : Netlist) (cell r : ℕ) (u : Rule) (s : Square) : Type 0 where
  path : List ℕ
  device : ℕ
  row : DeviceRow
  square : Square
  number : ℕ
  is : IsCircuitCell g.cells number cell
  has : HasDevice nl number path device row
  carries : IsGateOfDevice d g cell path device r square
  in_gate : InGate d (geometry w u) cell s square

last_node : (w : Wiring) (sets : ℕ → Square → Type 0) (a b : Node) (via : List Node) → IsNode w sets a → IsChain (IsLink w sets) a via b → IsNode w sets b
last_node w sets a b [] h chain = subst (λ n. IsNode w sets n) chain h
last_node w sets a b (x ∷ xs) h chain = last_node w sets x b xs chain.0.to chain.1

module _ (d : Design) (w : Wiring) (t : Tables) (g : CircuitTables) (nl : Netlist) (rules : List Rule) (unit : ℕ) (height : ℕ → ℕ) (x : AreTablesRight d w t g nl rules unit height) where
  plan : ArePlanned d w t g nl rules unit
  plan = planned d w t g nl rules unit height x

  listed_rows : (cell : ℕ) → IsReached d cell → AreGateRows d w t rules cell (good_gates (g.gates cell))
  listed_rows cell reached = rows d w t rules cell (g.gates cell) (x.gates cell reached)

  each : (path : List ℕ) (cell n i : ℕ) (row : DeviceRow) → IsReached d cell → IsCircuitCell g.cells n cell → HasDevice nl n path i row
      → (r : ℕ) × (u : Rule) × (s : Square) × (slice_get rules r ≡ Some u) × IsGateOfDevice d g cell path i r s × IsDeviceOf d w t g u unit cell path row s
  each [] cell n i row reached num h =
      let r = (plan.circuits cell n h.0 reached num h.1).rows_each i row h.2 in
      let o = (listed_rows cell reached).each i r.0 r.1 in
      let v = o.3 in
      let own = rule_device rules unit (g.parts cell).nets r.0 row r.2 o.0 o.1 v.kind v.formed in (
        r.0.at.rule,
        o.0,
        r.0.at.square,
        o.1,
        (r.0, r.1, refl, refl),
        record {
          sides = v.sides;
          twice_w = r.0.row.twice_w;
          twice_l = r.0.row.twice_l;
          settled = o.2.settled;
          good = v.good;
          kind = own.kind;
          class = own.class;
          sizes = own.sizes;
          formed = own.formed;
          nodes = λ terminal a at.
              let m = own.back terminal a at in
              let p = v.nets terminal m.0 m.1 in
              (p.0, p.1, (m.0, m.2, p.2));
        },
      )
  each (c ∷ cs) cell n i row reached num h =
      let k = (plan.circuits cell n h.1.0 reached num h.1.1).calls_each c h.0 h.1.2 in
      let p = k.1 in
      let f = each cs p.cell h.0.circuit i row (reached_below d cell k.0 p reached k.3) k.4.circuit h.2 in
      let u = f.1 in
      let s = f.2 in
      let v = f.5 in (
        f.0,
        u,
        moved_square p.motion s,
        f.3,
        (k.0, p, k.2, k.3, s, f.4, refl),
        record {
          sides = moved_sides p.motion v.sides;
          twice_w = v.twice_w;
          twice_l = v.twice_l;
          settled = still d (geometry w u) (read_layers w u).gate cell k.0 p s reached k.3 v.settled;
          good = good d w u cell k.0 p s reached k.3 v.settled v.sides v.twice_w v.twice_l v.good;
          kind = v.kind;
          class = v.class;
          sizes = v.sizes;
          formed = v.formed;
          nodes = λ terminal a at.
              let q = v.nodes terminal a at in
              (moved p.motion q.0, terminal_up d w u cell k.0 p s reached k.3 v.settled v.sides terminal q.0 q.1, (k.0, p, k.2, k.3, q.0, q.2, refl));
        },
      )

  gate_at : (cell n i : ℕ) (row : DeviceRow) (r : ℕ) (u : Rule) (s : Square) → IsReached d cell → IsCircuitCell g.cells n cell → HasDevice nl n [] i row → slice_get rules r ≡ Some u → IsGateOfDevice d g cell [] i r s → IsListedGate d (geometry w u) cell s
  gate_at cell n i row r u s reached num h rule c =
      let o = (listed_rows cell reached).each i c.0 c.1 in
      let there : slice_get rules r ≡ Some o.0 = subst (λ y. slice_get rules y ≡ Some o.0) c.2 o.1 in
      let same : o.0 ≡ u = cc in
      subst (λ (y : Rule). IsListedGate d (geometry w y) cell s) same (subst (λ y. IsListedGate d (geometry w o.0) cell y) c.3 o.2)

  settled_of : (path : List ℕ) (cell n i : ℕ) (row : DeviceRow) (r : ℕ) (u : Rule) (s : Square) → IsReached d cell → IsCircuitCell g.cells n cell → HasDevice nl n path i row → slice_get rules r ≡ Some u → IsGateOfDevice d g cell path i r s → IsSettled d (geometry w u) cell s
  settled_of [] cell n i row r u s reached num h rule c = let v = gate_at cell n i row r u s reached num h rule c in v.settled
  settled_of (c ∷ cs) cell n i row r u s reached num h rule (k, p, listed, placed, q, carries, e) =
      let call = call_of d w t height g nl rules unit x.tables plan cell n c k p h.0 reached num h.1 listed placed in
      let below = settled_of cs p.cell h.0.circuit i row r u q (reached_below d cell k p reached placed) call.circuit h.2 rule carries in
      subst (λ y. IsSettled d (geometry w u) cell y) e (still d (geometry w u) (read_layers w u).gate cell k p q reached placed below)

  once : (a b : List ℕ) (cell n i j : ℕ) (v z : DeviceRow) (r : ℕ) (u : Rule) (s q : Square) → IsReached d cell → IsCircuitCell g.cells n cell → HasDevice nl n a i v → HasDevice nl n b j z → slice_get rules r ≡ Some u
      → IsGateOfDevice d g cell a i r s → IsGateOfDevice d g cell b j r q → InGate d (geometry w u) cell s q → (a ≡ b) × (i ≡ j)
  once [] [] cell n i j v z r u s q reached num h k rule (o, listed, same, here) (o', listed', same', here') way =
      let there : slice_get rules o.at.rule ≡ Some u = subst (λ y. slice_get rules y ≡ Some u) (sym same) rule in
      let one : InGate d (geometry w u) cell o.at.square q = subst (λ y. InGate d (geometry w u) cell y q) (sym here) way in
      let two : InGate d (geometry w u) cell o.at.square o'.at.square = subst (λ y. InGate d (geometry w u) cell o.at.square y) (sym here') one in
      (refl, (listed_rows cell reached).once i j o o' u listed listed' (same ∙ sym same') there two)
  once [] (e ∷ es) cell n i j v z r u s q reached num h k rule c (m, p, listed, placed, y, carries, here) way =
      let gate = gate_at cell n i v r u s reached num h rule c in
      let call = call_of d w t height g nl rules unit x.tables plan cell n e m p k.0 reached num k.1 listed placed in
      let below = settled_of es p.cell k.0.circuit j z r u y (reached_below d cell m p reached placed) call.circuit k.2 rule carries in
      absurd (gate.new (record { number = m; place = p; square = y; placed = placed; settled = below; image = subst (λ f. InGate d (geometry w u) cell s f) (sym here) way }))
  once (e ∷ es) [] cell n i j v z r u s q reached num h k rule (m, p, listed, placed, y, carries, here) c way =
      let gate = gate_at cell n j z r u q reached num k rule c in
      let call = call_of d w t height g nl rules unit x.tables plan cell n e m p h.0 reached num h.1 listed placed in
      let below = settled_of es p.cell h.0.circuit i v r u y (reached_below d cell m p reached placed) call.circuit h.2 rule carries in
      absurd (gate.new (record { number = m; place = p; square = y; placed = placed; settled = below; image = subst (λ f. InGate d (geometry w u) cell q f) (sym here) (gate_back d (geometry w u) cell s q way) }))
  once (c ∷ cs) (e ∷ es) cell n i j v z r u s q reached num h k rule (m, p, listed, placed, y, carries, here) (m', p', listed', placed', y', carries', here') way =
      let call = call_of d w t height g nl rules unit x.tables plan cell n c m p h.0 reached num h.1 listed placed in
      let call' = call_of d w t height g nl rules unit x.tables plan cell n e m' p' k.0 reached num k.1 listed' placed' in
      let first = settled_of cs p.cell h.0.circuit i v r u y (reached_below d cell m p reached placed) call.circuit h.2 rule carries in
      let second = settled_of es p'.cell k.0.circuit j z r u y' (reached_below d cell m' p' reached placed') call'.circuit k.2 rule carries' in
      let self : InGate d (geometry w u) cell s s = gate_on d (geometry w u) cell s q s way (gate_back d (geometry w u) cell s q way) in
      let a : IsGateBelow d (geometry w u) cell s = record { number = m; place = p; square = y; placed = placed; settled = first; image = subst (λ f. InGate d (geometry w u) cell s f) (sym here) self } in
      let b : IsGateBelow d (geometry w u) cell s = record { number = m'; place = p'; square = y'; placed = placed'; settled = second; image = subst (λ f. InGate d (geometry w u) cell s f) (sym here') way } in
      let number : m' ≡ m = one_place d (geometry w u) cell s (read_layers w u).gate reached b a in
      let place : p' ≡ p = same_place d cell m p' p (subst (λ f. IsPlaced d cell f p') number placed') placed in
      let calls : c ≡ e = (plan.circuits cell n h.1.0 reached num h.1.1).calls_apart c e m listed (listed' ∙ ap (λ (f : ℕ). Some f) number) in
      let circuit : k.0.circuit ≡ h.0.circuit = plan.one k.0.circuit h.0.circuit p.cell (subst (λ (f : Place). IsCircuitCell g.cells k.0.circuit f.cell) place call'.circuit) call.circuit in
      let down : InGate d (geometry w u) cell (moved_square p.motion y) (moved_square p.motion y') = gate_between d (geometry w u) cell s (moved_square p.motion y) (moved_square p.motion y') a.image (subst (λ (f : Place). InGate d (geometry w u) cell s (moved_square f.motion y')) place b.image) in
      let below = (squares d (geometry w u) (read_layers w u).gate cell m p y reached placed first y').0 down in
      let rest = once cs es p.cell h.0.circuit i j v z r u y y' (reached_below d cell m p reached placed) call.circuit h.2
      (subst (λ f. HasDevice nl f es j z) circuit k.2) rule carries (subst (λ (f : Place). IsGateOfDevice d g f.cell es j r y') place carries') below in
      let lists : cs ≡ es = rest.0 in
      (cc, rest.1)

  raised_here : (cell : ℕ) (r : ℕ) (u : Rule) (q : Square) (sides : Sides) (m l : ℕ) → IsReached d cell → IsListedGate d (geometry w u) cell q → slice_get rules r ≡ Some u → IsGoodGate d w u cell q sides m l → Raised d w g nl cell r u q
  raised_here cell r u q sides m l reached here rule h =
      let o = (listed_rows cell reached).found r u q sides m l rule here h in
      let n = plan.gates cell o.0 o.1 reached o.2 in
      let c = plan.found cell n.0 reached n.1 in
      let row = (plan.circuits cell n.0 c.0 reached n.1 c.1).rows_found o.0 o.1 o.2 in
      record { path = []; device = o.0; row = row.0; square = o.1.at.square; number = n.0; is = n.1; has = (c.0, c.1, row.1); carries = (o.1, o.2, o.3, refl); in_gate = o.4 }

  raise_one : (cell k : ℕ) (p : Place) (r : ℕ) (u : Rule) (y q : Square) → IsReached d cell → IsPlaced d cell k p → IsSettled d (geometry w u) p.cell y → moved_square p.motion y ≡ q → Raised d w g nl p.cell r u y → Raised d w g nl cell r u q
  raise_one cell k p r u y q reached placed settled here below =
      let n = plan.placing cell k below.number p reached placed below.is in
      let c = plan.found cell n.0 reached n.1 in
      let circuit = plan.circuits cell n.0 c.0 reached n.1 c.1 in
      let a = circuit.calls_all k below.number p placed below.is in
      let row = circuit.calls_found a.0 k a.1 in
      let call = call_of d w t height g nl rules unit x.tables plan cell n.0 a.0 k p row.0 reached n.1 (c.0, c.1, row.1) a.1 placed in
      let same : below.number ≡ row.0.circuit = plan.one below.number row.0.circuit p.cell below.is call.circuit in
      record {
        path = a.0 ∷ below.path;
        device = below.device;
        row = below.row;
        square = moved_square p.motion below.square;
        number = n.0;
        is = n.1;
        has = (row.0, (c.0, c.1, row.1), subst (λ v. HasDevice nl v below.path below.device below.row) {y = row.0.circuit} same below.has);
        carries = (k, p, a.1, placed, below.square, below.carries, refl);
        in_gate = subst (λ z. InGate d (geometry w u) cell z (moved_square p.motion below.square)) here (gate_up d (geometry w u) (read_layers w u).gate cell k p y reached placed settled below.square below.in_gate);
      }

  form_below : (cell k : ℕ) (p : Place) (u : Rule) (y q : Square) (sides : Sides) (m l : ℕ) → IsReached d cell → IsPlaced d cell k p → IsSettled d (geometry w u) p.cell y → moved_square p.motion y ≡ q → IsGoodGate d w u cell q sides m l
      → (i : Sides) × IsGoodGate d w u p.cell y i m l
  form_below cell k p u y q sides m l reached placed settled here h =
      let i = onto_sides d w u cell k p y reached placed settled sides in
      let at : IsGoodGate d w u cell (moved_square p.motion y) sides m l = subst (λ z. IsGoodGate d w u cell z sides m l) (sym here) h in
      let moved_form : IsGoodGate d w u cell (moved_square p.motion y) (moved_sides p.motion i.0) m l = subst (λ z. IsGoodGate d w u cell (moved_square p.motion y) z m l) (sym i.1) at in
      (i.0, good_back d w u cell k p y reached placed settled i.0 m l moved_form)

  raised : (path : List ℕ) (cell end : ℕ) (r : ℕ) (u : Rule) (s q : Square) (sides : Sides) (m l : ℕ) → IsReached d cell → Takes d cell path end s q → IsListedGate d (geometry w u) end s → slice_get rules r ≡ Some u
      → IsGoodGate d w u cell q sides m l → Raised d w g nl cell r u q
  raised [] cell end r u s q sides m l reached takes gate rule h =
      raised_here cell r u q sides m l reached (subst (λ c. IsListedGate d (geometry w u) c q) (sym takes.0) (subst (λ y. IsListedGate d (geometry w u) end y) takes.1 gate)) rule h
  raised (k ∷ ks) cell end r u s q sides m l reached (p, placed, y, takes, here) gate rule h =
      let down = reached_below d cell k p reached placed in
      let settled = settled_along d (geometry w u) (read_layers w u).gate ks p.cell end s y down takes gate.settled in
      let b = form_below cell k p u y q sides m l reached placed settled here h in
      raise_one cell k p r u y q reached placed settled here (raised ks p.cell end r u s y b.0 m l down takes gate rule b.1)

  devices : (cell n : ℕ) → IsReached d cell → IsCircuitCell g.cells n cell → AreDevices d w t g nl rules unit cell n
  devices cell n reached num = record {
    each = λ path i row h. each path cell n i row reached num h;
    found = λ r u s sides v l rule settled h.
        let one = each_once d (geometry w u) height (read_layers w u).gate x.tables.lower (λ c q up. (x.gates c up).parted r u q rule) cell s reached settled in
        let at = one.0 in
        let way = raised at.path cell at.end r u at.square at.place sides v l reached at.takes at.gate rule (good_same d w u cell s at.place at.image sides v l h) in
        let same : way.number ≡ n = plan.one way.number n cell way.is num in
        (way.path, way.device, way.row, way.square, subst (λ z. HasDevice nl z way.path way.device way.row) same way.has, way.carries, gate_on d (geometry w u) cell s at.place way.square at.image way.in_gate);
    once = λ a b i j v z r u s q h k rule c c' way. once a b cell n i j v z r u s q reached num h k rule c c' way;
  }

  is_top : IsReached d d.top
  is_top = record { path = []; leads = refl }

  not_above : (b : ℕ) → IsUsedAbove d t g.gates g.pins d.top b → ⊥
  not_above b h =
      let one = x.tables.lower h.parent h.number h.place h.placed in
      let e : height h.place.cell ≡ height d.top = ap height h.here in
      let two = lower d height x.tables.lower h.reached.path d.top h.parent h.reached.leads in
      absurd (omega arith)

  pins : (n : ℕ) → IsCircuitCell g.cells n d.top → (a : Slot) (m : Node) → IsTerminal nl n a → ShowsNode d t g d.top a.path a.net m
      → IsOnPin nl n a ↔ ((y : Node) × InOneRegion w (kept d w d.top) m y × IsMarked d w d.top y)
  pins n num a m term h =
      let r = shows d w t height g nl rules unit x.tables plan a.path d.top a.net m is_top h in
      let region = regions d w t height x.tables d.top is_top in
      let lt = (x.tables.nets d.top is_top).below r.2.index r.0 r.2.is_of.numbered in
      let spec = plan.pins d.top r.0 is_top lt in (
        (λ (i, o, (c, is, pin), way).
            let p = (plan.circuits d.top n c is_top num is).pins_each i o pin in
            let at = chain_climbs d w t height g nl rules unit x.tables plan d.top n a (slot [] o) r.0 way.via is_top num way.chain r.1 in
            let same : p.0 ≡ r.0 = let e = p.1 in cc in
            let why = spec.0 (subst (λ y. IsPinNet g.pins d.top y) same p.2) in
            elim why [
              | inl k ↦ (k.node, (region.joined r.0 r.0 m k.node r.2 k.holds).0 refl, k.marked)
              | inr k ↦ absurd (not_above r.0 k)
            ]),
        (λ (y, way, marked).
            let is = last_node w (kept d w d.top) m y way.via (region.sound r.0 m r.2) way.chain in
            let z = region.complete y is in
            let same : z.0 ≡ r.0 = sym ((region.joined r.0 z.0 m y r.2 z.1).1 way) in
            let pin = spec.1 (inl (record { node = y; holds = subst (λ v. NetHolds d t d.top v y) same z.1; marked = marked })) in
            let o = rise d w t height g nl rules unit x.tables plan a.path d.top n a.net r.0 is_top num pin r.1 term in
            let c = plan.found d.top n is_top num in
            let i = (plan.circuits d.top n c.0 is_top num c.1).pins_found o.0 r.0 o.1 pin in
            (i.0, o.0, (c.0, c.1, i.1), o.2)),
      )

pub expanded : NetlistLaw
expanded d w t g nl rules unit level x n num = record {
  devices = devices d w t g nl rules unit level x d.top n (is_top d w t g nl rules unit level x) num;
  nets = net_law d w t level g nl rules unit x.tables (planned d w t g nl rules unit level x) d.top n (is_top d w t g nl rules unit level x) num;
  pins = pins d w t g nl rules unit level x n num;
}
