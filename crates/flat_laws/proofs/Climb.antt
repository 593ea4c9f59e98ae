-- Terminals are on one net of the expanded netlist exactly where they are part of one net of the cell.
use Rattle.std.proofs.Common.{◌≡◌, ◌↔◌, inl, inr, ℕ, List, [], ◌∷◌, ◌++◌, Some, slice_get, ◌<◌, refl, sym, ◌∙◌, ap, subst}
use Rattle.std.proofs.Math.Decide.{ℕ_discrete}
use Rattle.flat_laws.specs.NetlistLaws.{NetLaw, PartLaw}
use Rattle.flat_laws.specs.Planned.{ArePlanned, IsJoiningCall}
use Rattle.flat_layout.specs.Circuits.{IsCircuitCell}
use Rattle.flat_layout.specs.Expanded.{CircuitTables, IsPartOfNet, ShowsNode}
use Rattle.flat_layout.specs.Gates.{Rule}
use Rattle.flat_layout.specs.GateTables.{gate_nets}
use Rattle.flat_layout.specs.Layout.{Place, Design, IsPlaced, IsReached}
use Rattle.flat_layout.specs.Nets.{Item, Child, Tables, NetHolds, IsItemLink, AreTables}
use Rattle.flat_layout.specs.Pins.{HasGate, IsNetOf, IsPinNet, IsUsed}
use Rattle.flat_layout.specs.Regions.{Wiring, Node, InOneRegion, kept}
use Rattle.plain_netlist.specs.Chains.{IsChain, Reaches}
use Rattle.plain_netlist.specs.Lists.{IsListed}
use Rattle.plain_netlist.specs.Netlist.{DeviceRow, CallRow, Circuit, Netlist, IsCircuit, IsCall, Slot, Joins, IsJoin, IsEitherJoin, InOneNet, HasDevice, IsTerminal}
use Rattle.flat_laws.proofs.Paths.{same_place}
use Rattle.flat_laws.proofs.Cover.{reached_below}
use Rattle.flat_laws.proofs.Devices.{gate_net}
use Rattle.flat_laws.proofs.Items.{items_sound}
use Rattle.plain_netlist.proofs.Links.{stays, single, both, back, along}
use Rattle.flat_laws.proofs.OneNet.{regions, numbered, in_below, below_item}
use Rattle.flat_laws.proofs.Planned.{planned}

either_back : (nl : Netlist) (t : ℕ) (a b : Slot) → IsEitherJoin nl t a b → IsEitherJoin nl t b a
either_back nl t a b (inl h) = inr h
either_back nl t a b (inr h) = inl h

pub net_back : (nl : Netlist) (t : ℕ) (a b : Slot) → InOneNet nl t a b → InOneNet nl t b a
net_back nl t a b h = back (IsEitherJoin nl t) (either_back nl t) a b h

pub net_on : (nl : Netlist) (t : ℕ) (a b c : Slot) → InOneNet nl t a b → InOneNet nl t b c → InOneNet nl t a c
net_on nl t a b c h g = both (IsEitherJoin nl t) a b c h g

abbrev down : ℕ → Slot → Slot
down c a = record { path = c ∷ a.path; net = a.net }

abbrev pub slot : List ℕ → ℕ → Slot
slot path net = record { path = path; net = net }

-- what is joined below a call stays so above it
join_down : (nl : Netlist) (t c : ℕ) (row : CallRow) → IsCall nl t c row → (a b : Slot) → IsJoin nl row.circuit a b → IsJoin nl t (down c a) (down c b)
join_down nl t c row call a b h = record { number = h.number; deeper = ap (λ (p : List ℕ). c ∷ p) h.deeper; joins = (row, call, h.joins) }

either_down : (nl : Netlist) (t c : ℕ) (row : CallRow) → IsCall nl t c row → (a b : Slot) → IsEitherJoin nl row.circuit a b → Reaches (IsEitherJoin nl t) (down c a) (down c b)
either_down nl t c row call a b (inl h) = single (IsEitherJoin nl t) (down c a) (down c b) (inl (join_down nl t c row call a b h))
either_down nl t c row call a b (inr h) = single (IsEitherJoin nl t) (down c a) (down c b) (inr (join_down nl t c row call b a h))

net_down : (nl : Netlist) (t c : ℕ) (row : CallRow) → IsCall nl t c row → (a b : Slot) → InOneNet nl row.circuit a b → InOneNet nl t (down c a) (down c b)
net_down nl t c row call a b h = along (IsEitherJoin nl row.circuit) (IsEitherJoin nl t) (down c) (either_down nl t c row call) a b h

some_circuit : (nl : Netlist) (t : ℕ) (path : List ℕ) (i : ℕ) (row : DeviceRow) → HasDevice nl t path i row → (c : Circuit) × IsCircuit nl t c
some_circuit nl t [] i row h = (h.0, h.1)
some_circuit nl t (k ∷ ks) i row h = (h.1.0, h.1.1)

module _ (d : Design) (w : Wiring) (t : Tables) (height : ℕ → ℕ) (g : CircuitTables) (nl : Netlist) (rules : List Rule) (unit : ℕ) (tables : AreTables d w t height) (planned : ArePlanned d w t g nl rules unit) where
  net_one : (cell : ℕ) (item : Item) (x y : ℕ) → IsReached d cell → IsNetOf (t.nets cell) item x → IsNetOf (t.nets cell) item y → x ≡ y
  net_one cell item x y reached h k = ((tables.nets cell reached).joined h.0 k.0 item item x y h.1 k.1).1 (stays (IsItemLink d w t cell) item item refl)

  used_pin : (cell k : ℕ) (p : Place) (u x : ℕ) → IsReached d cell → IsPlaced d cell k p → IsNetOf (t.nets cell) (Child k u) x → IsUsed t g.gates g.pins cell (Child k u) x → IsPinNet g.pins p.cell u
  used_pin cell k p u x reached placed is_of used =
      let item = items_sound d w t cell (t.nets cell) (tables.nets cell reached) is_of.0 (Child k u) is_of.1.listed in
      let same : item.0 ≡ p = same_place d cell k item.0 p item.1 placed in
      let lt : u < (t.nets p.cell).count = subst (λ (q : Place). u < (t.nets q.cell).count) same item.2 in
      (planned.pins p.cell u (reached_below d cell k p reached placed) lt).1
      (inr (record { parent = cell; number = k; place = p; net = x; reached = reached; placed = placed; here = refl; is_of = is_of; used = used }))

  -- a call's row at its placement
  pub call_of : (cell s c k : ℕ) (p : Place) (row : CallRow) → IsReached d cell → IsCircuitCell g.cells s cell → IsCall nl s c row → slice_get (g.parts cell).calls c ≡ Some k → IsPlaced d cell k p → IsJoiningCall t g nl cell k p row
  call_of cell s c k p row reached num call listed placed =
      let r = (planned.circuits cell s call.0 reached num call.1).calls_each c row call.2 in
      let same : r.0 ≡ k = let e : slice_get (g.parts cell).calls c ≡ Some r.0 = r.2 in cc in
      let there : IsPlaced d cell k r.1 = subst (λ i. IsPlaced d cell i r.1) same r.3 in
      let place : r.1 ≡ p = same_place d cell k r.1 p there placed in
      subst (λ (q : Place). IsJoiningCall t g nl cell k q row) place (subst (λ i. IsJoiningCall t g nl cell i r.1 row) same r.4)

  join_up : (path : List ℕ) (cell s outer k inner x : ℕ) → IsReached d cell → IsCircuitCell g.cells s cell → Joins nl s path outer k inner → IsPartOfNet d t g cell (path ++ k ∷ []) inner x → IsPartOfNet d t g cell path outer x
  join_up [] cell s outer k inner x reached num h (j, p, listed, placed, u, net, is_of) =
      let l = (call_of cell s k j p h.0 reached num h.1 listed placed).each h.2 h.4 inner u h.3 h.6 net in
      let same : l.1 ≡ x = net_one cell (Child j u) l.1 x reached l.4 is_of in
      let one : l.0 ≡ outer = let e = l.2 in let f = h.5 in cc in
      let there : slice_get (g.parts cell).nets outer ≡ Some l.1 = subst (λ i. slice_get (g.parts cell).nets i ≡ Some l.1) one l.3 in
      there ∙ ap (λ (v : ℕ). Some v) same
  join_up (c ∷ cs) cell s outer k inner x reached num h (j, p, listed, placed, u, climb, is_of) =
      let target = (call_of cell s c j p h.0 reached num h.1 listed placed).circuit in
      (j, p, listed, placed, u, join_up cs p.cell h.0.circuit outer k inner u (reached_below d cell j p reached placed) target h.2 climb, is_of)

  join_on : (path : List ℕ) (cell s outer k inner x : ℕ) → IsReached d cell → IsCircuitCell g.cells s cell → Joins nl s path outer k inner → IsPartOfNet d t g cell path outer x → IsPartOfNet d t g cell (path ++ k ∷ []) inner x
  join_on [] cell s outer k inner x reached num h climb =
      let r = (planned.circuits cell s h.1.0 reached num h.1.1).calls_each k h.0 h.1.2 in
      let pin = (planned.circuits r.1.cell h.0.circuit h.2 (reached_below d cell r.0 r.1 reached r.3) r.4.circuit h.3).pins_each h.4 inner h.6 in
      let l = r.4.each h.2 h.4 inner pin.0 h.3 h.6 pin.1 in
      let one : l.0 ≡ outer = let e = l.2 in let f = h.5 in cc in
      let same : l.1 ≡ x = let e : slice_get (g.parts cell).nets outer ≡ Some l.1 = subst (λ i. slice_get (g.parts cell).nets i ≡ Some l.1) one l.3 in cc in
      (r.0, r.1, r.2, r.3, pin.0, pin.1, subst (λ i. IsNetOf (t.nets cell) (Child r.0 pin.0) i) same l.4)
  join_on (c ∷ cs) cell s outer k inner x reached num h (j, p, listed, placed, u, climb, is_of) =
      let target = (call_of cell s c j p h.0 reached num h.1 listed placed).circuit in
      (j, p, listed, placed, u, join_on cs p.cell h.0.circuit outer k inner u (reached_below d cell j p reached placed) target h.2 climb, is_of)

  either_climbs : (cell s : ℕ) (a b : Slot) (x : ℕ) → IsReached d cell → IsCircuitCell g.cells s cell → IsEitherJoin nl s a b → IsPartOfNet d t g cell a.path a.net x → IsPartOfNet d t g cell b.path b.net x
  either_climbs cell s a b x reached num (inl h) climb = subst (λ path. IsPartOfNet d t g cell path b.net x) h.deeper (join_on a.path cell s a.net h.number b.net x reached num h.joins climb)
  either_climbs cell s a b x reached num (inr h) climb = join_up b.path cell s b.net h.number a.net x reached num h.joins (subst (λ path. IsPartOfNet d t g cell path a.net x) (sym h.deeper) climb)

  pub chain_climbs : (cell n : ℕ) (a b : Slot) (x : ℕ) (via : List Slot) → IsReached d cell → IsCircuitCell g.cells n cell → IsChain (IsEitherJoin nl n) a via b → IsPartOfNet d t g cell a.path a.net x → IsPartOfNet d t g cell b.path b.net x
  chain_climbs cell n a b x [] reached num chain climb = subst (λ (s : Slot). IsPartOfNet d t g cell s.path s.net x) chain climb
  chain_climbs cell n a b x (s ∷ ss) reached num chain climb = chain_climbs cell n s b x ss reached num chain.1 (either_climbs cell n a s x reached num chain.0 climb)

  climbs_one : (path : List ℕ) (cell a x y : ℕ) → IsReached d cell → IsPartOfNet d t g cell path a x → IsPartOfNet d t g cell path a y → x ≡ y
  climbs_one [] cell a x y reached h k = cc
  climbs_one (c ∷ cs) cell a x y reached (j, p, listed, placed, u, climb, is_of) (i, q, listed', placed', v, climb', is_of') =
      let same : i ≡ j = cc in
      let there : IsPlaced d cell j q = subst (λ n. IsPlaced d cell n q) same placed' in
      let place : q ≡ p = same_place d cell j q p there placed in
      let below = subst (λ (r : Place). IsPartOfNet d t g r.cell cs a v) place climb' in
      let net : v ≡ u = climbs_one cs p.cell a v u (reached_below d cell j p reached placed) below climb in
      let one : IsNetOf (t.nets cell) (Child j u) y = subst (λ n. IsNetOf (t.nets cell) (Child j n) y) net (subst (λ n. IsNetOf (t.nets cell) (Child n v) y) same is_of') in
      net_one cell (Child j u) x y reached is_of one

  -- the net of the cell's circuit that a terminal's net is joined with
  abbrev pub Rises : ℕ → ℕ → Slot → ℕ → Type 0
  Rises cell s a x = (o : ℕ) × (slice_get (g.parts cell).nets o ≡ Some x) × InOneNet nl s a (slot [] o)

  terminal_below : (s c : ℕ) (cs : List ℕ) (a : ℕ) → (h : IsTerminal nl s (slot (c ∷ cs) a)) → IsTerminal nl h.has.0.circuit (slot cs a)
  terminal_below s c cs a h = record { device = h.device; row = h.row; has = h.has.2; on = h.on }

  up_one : (cell s c k : ℕ) (p : Place) (cs : List ℕ) (a u x : ℕ) → IsReached d cell → IsCircuitCell g.cells s cell → slice_get (g.parts cell).calls c ≡ Some k → IsPlaced d cell k p → IsNetOf (t.nets cell) (Child k u) x
      → IsPinNet g.pins p.cell u → (h : IsTerminal nl s (slot (c ∷ cs) a)) → Rises p.cell h.has.0.circuit (slot cs a) u → Rises cell s (slot (c ∷ cs) a) x
  up_one cell s c k p cs a u x reached num listed placed is_of pin h below =
      let row = h.has.0 in
      let call = call_of cell s c k p row reached num h.has.1 listed placed in
      let called = some_circuit nl row.circuit cs h.device h.row h.has.2 in
      let i = (planned.circuits p.cell row.circuit called.0 (reached_below d cell k p reached placed) call.circuit called.1).pins_found below.0 u below.1 pin in
      let l = call.each called.0 i.0 below.0 u called.1 i.1 below.1 in
      let same : l.1 ≡ x = net_one cell (Child k u) l.1 x reached l.4 is_of in
      let join : IsJoin nl s (slot [] l.0) (slot (c ∷ []) below.0) = record { number = c; deeper = refl; joins = (row, h.has.1, called.0, called.1, i.0, l.2, i.1) } in (
        l.0,
        l.3 ∙ ap (λ (v : ℕ). Some v) same,
        net_on nl s (slot (c ∷ cs) a) (slot (c ∷ []) below.0) (slot [] l.0) (net_down nl s c row h.has.1 (slot cs a) (slot [] below.0) below.2)
            (single (IsEitherJoin nl s) (slot (c ∷ []) below.0) (slot [] l.0) (inr join)),
      )

  -- where the net is a pin, so are all below it, and calls join them
  pub rise : (cs : List ℕ) (cell s a x : ℕ) → IsReached d cell → IsCircuitCell g.cells s cell → IsPinNet g.pins cell x → IsPartOfNet d t g cell cs a x → IsTerminal nl s (slot cs a) → Rises cell s (slot cs a) x
  rise [] cell s a x reached num pin climb h = (a, climb, stays (IsEitherJoin nl s) (slot [] a) (slot [] a) refl)
  rise (c ∷ cs) cell s a x reached num pin (k, p, listed, placed, u, climb, is_of) h =
      let deep = used_pin cell k p u x reached placed is_of (inr (inr pin)) in
      let call = call_of cell s c k p h.has.0 reached num h.has.1 listed placed in
      up_one cell s c k p cs a u x reached num listed placed is_of deep h
      (rise cs p.cell h.has.0.circuit a u (reached_below d cell k p reached placed) call.circuit deep climb (terminal_below s c cs a h))

  rise_used : (cell s c k : ℕ) (p : Place) (cs : List ℕ) (a u x : ℕ) → IsReached d cell → IsCircuitCell g.cells s cell → slice_get (g.parts cell).calls c ≡ Some k → IsPlaced d cell k p → IsNetOf (t.nets cell) (Child k u) x
      → IsPartOfNet d t g p.cell cs a u → IsTerminal nl s (slot (c ∷ cs) a) → IsUsed t g.gates g.pins cell (Child k u) x → Rises cell s (slot (c ∷ cs) a) x
  rise_used cell s c k p cs a u x reached num listed placed is_of climb h used =
      let pin = used_pin cell k p u x reached placed is_of used in
      let call = call_of cell s c k p h.has.0 reached num h.has.1 listed placed in
      up_one cell s c k p cs a u x reached num listed placed is_of pin h
      (rise cs p.cell h.has.0.circuit a u (reached_below d cell k p reached placed) call.circuit pin climb (terminal_below s c cs a h))

  gate_here : (cell s a x : ℕ) → IsReached d cell → IsCircuitCell g.cells s cell → slice_get (g.parts cell).nets a ≡ Some x → IsTerminal nl s (slot [] a) → HasGate g.gates cell x
  gate_here cell s a x reached num net h =
      let r = (planned.circuits cell s h.has.0 reached num h.has.1).rows_each h.device h.row h.has.2 in
      let m = gate_net rules unit (g.parts cell).nets r.0 h.row r.2 a h.on in
      let same : m.0 ≡ x = (let e = m.2 in cc) in
      (h.device, r.0, r.1, subst (λ y. IsListed y (gate_nets r.0.row)) same m.1)

  meet : (cs es : List ℕ) (cell s a b x : ℕ) → IsReached d cell → IsCircuitCell g.cells s cell → IsPartOfNet d t g cell cs a x → IsPartOfNet d t g cell es b x
      → IsTerminal nl s (slot cs a) → IsTerminal nl s (slot es b) → InOneNet nl s (slot cs a) (slot es b)
  meet [] [] cell s a b x reached num h k m n =
      let e = (planned.circuits cell s m.has.0 reached num m.has.1).nets_apart a b x h k in
      stays (IsEitherJoin nl s) (slot [] a) (slot [] b) (ap (slot []) e)
  meet [] (e ∷ es) cell s a b x reached num h (k, p, listed, placed, u, climb, is_of) m n =
      let r = rise_used cell s e k p es b u x reached num listed placed is_of climb n (inr (inl (gate_here cell s a x reached num h m))) in
      let same = (planned.circuits cell s m.has.0 reached num m.has.1).nets_apart r.0 a x r.1 h in
      net_back nl s (slot (e ∷ es) b) (slot [] a) (subst (λ i. InOneNet nl s (slot (e ∷ es) b) (slot [] i)) same r.2)
  meet (c ∷ cs) [] cell s a b x reached num (k, p, listed, placed, u, climb, is_of) h m n =
      let r = rise_used cell s c k p cs a u x reached num listed placed is_of climb m (inr (inl (gate_here cell s b x reached num h n))) in
      let same = (planned.circuits cell s n.has.0 reached num n.has.1).nets_apart r.0 b x r.1 h in
      subst (λ i. InOneNet nl s (slot (c ∷ cs) a) (slot [] i)) same r.2
  meet (c ∷ cs) (e ∷ es) cell s a b x reached num (k, p, listed, placed, u, climb, is_of) (j, q, listed', placed', v, climb', is_of') m n =
      let apart = λ (not : Child j v ≡ Child k u → ⊥).
      let r = rise_used cell s c k p cs a u x reached num listed placed is_of climb m (inl (Child j v, not, is_of')) in
      let z = rise_used cell s e j q es b v x reached num listed' placed' is_of' climb' n (inl (Child k u, (λ f. not (sym f)), is_of)) in
      let same = (planned.circuits cell s m.has.1.0 reached num m.has.1.1).nets_apart r.0 z.0 x r.1 z.1 in
      let one : InOneNet nl s (slot (c ∷ cs) a) (slot [] z.0) = subst (λ i. InOneNet nl s (slot (c ∷ cs) a) (slot [] i)) same r.2 in
      net_on nl s (slot (c ∷ cs) a) (slot [] z.0) (slot (e ∷ es) b) one (net_back nl s (slot (e ∷ es) b) (slot [] z.0) z.2) in
      elim (ℕ_discrete j k) [
        | yes one ↦
            elim (ℕ_discrete v u) [
              | yes two ↦
                  let same : e ≡ c = (planned.circuits cell s m.has.1.0 reached num m.has.1.1).calls_apart e c k (listed' ∙ ap (λ (i : ℕ). Some i) one) listed in
                  let place : q ≡ p = same_place d cell k q p (subst (λ i. IsPlaced d cell i q) one placed') placed in
                  let climb_one : IsPartOfNet d t g p.cell es b u = subst (λ i. IsPartOfNet d t g p.cell es b i) two (subst (λ (r : Place). IsPartOfNet d t g r.cell es b v) place climb') in
                  let n_one : IsTerminal nl s (slot (c ∷ es) b) = subst (λ i. IsTerminal nl s (slot (i ∷ es) b)) same n in
                  let call = call_of cell s c k p m.has.0 reached num m.has.1 listed placed in
                  let n_same : IsTerminal nl m.has.0.circuit (slot es b) = subst (λ i. IsTerminal nl i (slot es b)) (planned.one n_one.has.0.circuit m.has.0.circuit p.cell (call_of cell s c k p n_one.has.0 reached num n_one.has.1 listed placed).circuit call.circuit) (terminal_below s c es b n_one) in
                  let there = meet cs es p.cell m.has.0.circuit a b u (reached_below d cell k p reached placed) call.circuit climb climb_one (terminal_below s c cs a m) n_same in
                  let done = net_down nl s c m.has.0 m.has.1 (slot cs a) (slot es b) there in
                  subst (λ i. InOneNet nl s (slot (c ∷ cs) a) (slot (i ∷ es) b)) (sym same) done
              | no not ↦ apart (λ f. let x : v ≡ u = cc in not x)
            ]
        | no not ↦ apart (λ f. let x : j ≡ k = cc in not x)
      ]

  pub part_law : (cell s : ℕ) → IsReached d cell → IsCircuitCell g.cells s cell → (a b : Slot) (x y : ℕ) → IsTerminal nl s a → IsTerminal nl s b
      → IsPartOfNet d t g cell a.path a.net x → IsPartOfNet d t g cell b.path b.net y → InOneNet nl s a b ↔ (x ≡ y)
  part_law cell s reached num a b x y m n h k = (
    (λ way. climbs_one b.path cell b.net x y reached (chain_climbs cell s a b x way.via reached num way.chain h) k),
    (λ e. meet a.path b.path cell s a.net b.net y reached num (subst (λ i. IsPartOfNet d t g cell a.path a.net i) e h) k m n),
  )

  pub shows : (path : List ℕ) (cell a : ℕ) (n : Node) → IsReached d cell → ShowsNode d t g cell path a n → (x : ℕ) × IsPartOfNet d t g cell path a x × NetHolds d t cell x n
  shows [] cell a n reached h = (h.0, h.1, h.2)
  shows (c ∷ cs) cell a n reached (k, p, listed, placed, m, h, e) =
      let down = shows cs p.cell a m (reached_below d cell k p reached placed) h in
      let below = λ (j : ℕ) (r : Place) (is : IsPlaced d cell j r). regions d w t height tables r.cell (reached_below d cell j r reached is) in
      let item = below_item d w t height tables cell reached below k p down.0 m placed down.2 in
      let x = numbered d w t height tables cell reached below (Child k down.0) item in
      (x.1, (k, p, listed, placed, down.0, down.1, (x.0, x.2)), record { index = x.0; item = Child k down.0; is_of = x.2; holds = in_below d w t height tables cell reached below k p down.0 n m placed down.2 e })

  pub net_law : (cell s : ℕ) → IsReached d cell → IsCircuitCell g.cells s cell → (a b : Slot) (m n : Node) → IsTerminal nl s a → IsTerminal nl s b
      → ShowsNode d t g cell a.path a.net m → ShowsNode d t g cell b.path b.net n → InOneNet nl s a b ↔ InOneRegion w (kept d w cell) m n
  net_law cell s reached num a b m n p q h k =
      let r = shows a.path cell a.net m reached h in
      let z = shows b.path cell b.net n reached k in
      let one = part_law cell s reached num a b r.0 z.0 p q r.1 z.1 in
      let two = (regions d w t height tables cell reached).joined r.0 z.0 m n r.2 z.2 in
      ((λ way. two.0 (one.0 way)), (λ way. one.1 (two.1 way)))

pub parts : PartLaw
parts d w t g nl rules unit level h = part_law d w t level g nl rules unit h.tables (planned d w t g nl rules unit level h)

pub netting : NetLaw
netting d w t g nl rules unit level h = net_law d w t level g nl rules unit h.tables (planned d w t g nl rules unit level h)
