-- The expanded netlist and the flat layout.
use Rattle.std.proofs.Common.{◌≡◌, ◌⊎◌, ◌↔◌, inl, inr, ℕ, zero, suc, ◌<◌, List, [], ◌∷◌, Some, length, slice_get, refl, sym, ◌∙◌, ap, subst}
use Rattle.geo_base.specs.Motions.{moved_square}
use Rattle.geo_base.specs.declared.shapes.Square.{Square}
use Rattle.plain_netlist.specs.declared.kinds.DeviceKind.{DeviceKind}
use Rattle.plain_netlist.specs.declared.kinds.DeviceKind.TheVariants.{Mos4, ResistorWithBulk, Diode}
use Rattle.plain_netlist.specs.Devices.{AreRowsAlike, Both, Ends, First, HasEnds, IsAt, NoEnds, Other, Row, Second, Terminal, exchanged, have_ends, terminal_nets}
use Rattle.plain_netlist.specs.Kinds.{has_ends, other_count}
use Rattle.plain_netlist.specs.Flats.{Corresponds, expanded, Flat, row_at}
use Rattle.plain_netlist.specs.Lists.{IsListed}
use Rattle.plain_netlist.specs.Netlist.{DeviceRow, Netlist, Slot, slot, InOneNet, HasDevice, IsOnPin}
use Rattle.plain_netlist.proofs.Links.{stays, both, back}
use Rattle.plain_netlist.proofs.Members.{position}
use Rattle.plain_netlist.proofs.Rows.{at_joined, at_terminal, ends_by, over_alike, row_over_self, rows_over}
use Rattle.flat_layout.specs.Circuits.{IsCircuitCell}
use Rattle.flat_layout.specs.Expanded.{CircuitTables, IsGateOfDevice, IsDeviceOf, AreTablesRight, IsFlatNetlist, ShowsNode}
use Rattle.flat_layout.specs.Gates.{Rule, geometry, sizes_of, Edge, Sides, TwoGroups, Region, Form, Beside, Alone, form_of, sheets, IsStep, InGate, InSide, InOneGroup, IsRegionNode, IsGroupNode, IsOtherNode, IsGoodGate, IsTerminalNode}
use Rattle.flat_layout.specs.Parts.{Edges, IsGoodForm, IsGoodPart}
use Rattle.flat_layout.specs.GateTables.{GateSquare, GoodGate}
use Rattle.flat_layout.specs.Layout.{Place, Design, IsPlaced, IsReached}
use Rattle.flat_layout.specs.Nets.{Tables}
use Rattle.flat_layout.specs.Pins.{IsMarked}
use Rattle.flat_layout.specs.Regions.{Wiring, Node, Ground, IsLink, InOneRegion, flat}
use Rattle.flat_laws.proofs.Climb.{shows}
use Rattle.flat_laws.proofs.Count.{good_in, one_sizes}
use Rattle.flat_laws.proofs.Same.{in_same, group_same, good_same}
use Rattle.flat_laws.proofs.Flat.{flat_netlist as flat_law, region_flat}
use Rattle.flat_laws.proofs.Once.{gate_self, gate_between, gate_on, gate_back}
use Rattle.flat_laws.proofs.Joints.{adjacent_back}
use Rattle.flat_laws.proofs.OneNet.{link_back, regions}
use Rattle.flat_laws.proofs.Paths.{same_place}
use Rattle.flat_laws.proofs.Planned.{planned}
use Rattle.flat_laws.proofs.Terminals.{terminals}
use Rattle.headline_laws.proofs.Chosen.{chosen, chosen_over}
use Rattle.headline_laws.specs.FlatNetlist.{AreOneGate, FlatCorrespondsLaw, flat_netlist, IsFlatDevice, IsFlatGateOf, IsFlatRegionOf, TopCircuitLaw}

slot_one : (a b : Slot) → a.path ≡ b.path → a.net ≡ b.net → a ≡ b
slot_one a b p q = ap (λ x. slot x a.net) p ∙ ap (λ y. slot b.path y) q

-- a device carries one gate
one_gate : (d : Design) (g : CircuitTables) (path : List ℕ) (cell i r v : ℕ) (s q : Square) → IsGateOfDevice d g cell path i r s → IsGateOfDevice d g cell path i v q → (r ≡ v) × (s ≡ q)
one_gate d g [] cell i r v s q h k =
    let same : h.0 ≡ k.0 = let e = h.1 in let f = k.1 in cc in
    (sym h.2 ∙ (ap (λ (o : GoodGate). o.at.rule) same ∙ k.2), sym h.3 ∙ (ap (λ (o : GoodGate). o.at.square) same ∙ k.3))
one_gate d g (c ∷ cs) cell i r v s q (j, p, listed, placed, x, carries, here) (j', p', listed', placed', x', carries', here') =
    let number : j ≡ j' = cc in
    let place : p ≡ p' = same_place d cell j' p p' (subst (λ m. IsPlaced d cell m p) number placed) placed' in
    let there : IsGateOfDevice d g p'.cell cs i r x = subst (λ (m : Place). IsGateOfDevice d g m.cell cs i r x) place carries in
    let below = one_gate d g cs p'.cell i r v x x' there carries' in
    let at : moved_square p'.motion x ≡ s = subst (λ (m : Place). moved_square m.motion x ≡ s) place here in
    (below.0, sym at ∙ (ap (λ y. moved_square p'.motion y) below.1 ∙ here'))

-- the two groups of a gate, named twice: in one order, or in the other
module _ (d : Design) (w : Wiring) (u : Rule) (cell : ℕ) (s : Square) where
  abbrev R : Square → Square → Type 0
  R = InOneGroup d w u cell s

  r_back : (a b : Square) → R a b → R b a
  r_back a b h = back (IsStep (InSide d w u cell s)) (adjacent_back Edges (InSide d w u cell s)) a b h

  r_both : (a b c : Square) → R a b → R b c → R a c
  r_both a b c h k = both (IsStep (InSide d w u cell s)) a b c h k

  abbrev AreOneOrOther : Edge → Edge → Edge → Edge → Type 0
  AreOneOrOther a b e f = (R a.outer e.outer × R b.outer f.outer) ⊎ (R a.outer f.outer × R b.outer e.outer)

  pub orders : (a b e f : Edge) (m n k l : ℕ) → IsGoodPart (sheets d w u cell) (InGate d (geometry w u) cell s) a b m n → IsGoodPart (sheets d w u cell) (InGate d (geometry w u) cell s) e f k l → AreOneOrOther a b e f
  orders a b e f m n k l h g =
      let x = g.groups.found a (h.groups.each a (inl refl)) in
      let y = g.groups.found b (h.groups.each b (inr (inl refl))) in
      pick x.0 y.0 x.1 y.1 x.2 y.2
    where
      clash : (c : Edge) → R a.outer c.outer → R b.outer c.outer → ⊥
      clash c p q =
          let e : a ≡ b = h.groups.one a b (inl refl) (inr (inl refl)) (r_both a.outer c.outer b.outer p (r_back b.outer c.outer q)) in
          h.groups.apart.0 (inl e)

      pick : (x y : Edge) → IsListed x (e ∷ (f ∷ [])) → IsListed y (e ∷ (f ∷ [])) → R a.outer x.outer → R b.outer y.outer → AreOneOrOther a b e f
      pick x y (inl i) (inl j) p q = absurd (clash e (subst (λ (c : Edge). R a.outer c.outer) i p) (subst (λ (c : Edge). R b.outer c.outer) j q))
      pick x y (inl i) (inr (inl j)) p q = inl (subst (λ (c : Edge). R a.outer c.outer) i p, subst (λ (c : Edge). R b.outer c.outer) j q)
      pick x y (inr (inl i)) (inl j) p q = inr (subst (λ (c : Edge). R a.outer c.outer) i p, subst (λ (c : Edge). R b.outer c.outer) j q)
      pick x y (inr (inl i)) (inr (inl j)) p q = absurd (clash f (subst (λ (c : Edge). R a.outer c.outer) i p) (subst (λ (c : Edge). R b.outer c.outer) j q))
      pick x y (inr (inr i)) j p q = absurd i
      pick x y i (inr (inr j)) p q = absurd j

-- a terminal's nodes, by another square of the same gate
module _ (d : Design) (w : Wiring) (u : Rule) (cell : ℕ) (s q : Square) (way : InGate d (geometry w u) cell s q) where
  group_here : (e : Edge) (n : Node) → IsGroupNode d w u cell s e n → IsGroupNode d w u cell q e n
  group_here e n h = (h.0, (group_same d w u cell s q way e.outer h.0).1 h.1, h.2)

  region_here : (c : ℕ) (n : Node) → IsRegionNode d w u cell s c n → IsRegionNode d w u cell q c n
  region_here c n (inl h) = inl h
  region_here c n (inr h) = inr (h.0, (h.1.0, (in_same d w u cell s q way h.1.0).1 h.1.1, h.1.2))

  other_here : (k : DeviceKind) (place : ℕ) (n : Node) → IsOtherNode k d w u cell s place n → IsOtherNode k d w u cell q place n
  other_here Mos4 zero n h = (h.0, (in_same d w u cell s q way h.0).1 h.1, h.2)
  other_here Mos4 (suc zero) n h = region_here u.tb n h
  other_here Mos4 (suc (suc j)) n h = h
  other_here ResistorWithBulk zero n h = region_here u.tb n h
  other_here ResistorWithBulk (suc j) n h = h
  other_here Diode zero n h = region_here u.ts n h
  other_here Diode (suc zero) n h = region_here u.tb n h
  other_here Diode (suc (suc j)) n h = h

  terminal_here : (sides : Sides) (t : Terminal) (n : Node) → IsTerminalNode d w u cell s sides t n → IsTerminalNode d w u cell q sides t n
  terminal_here (TwoGroups e f) First n h = group_here e n h
  terminal_here (TwoGroups e f) Second n h = group_here f n h
  terminal_here Region First n h = h
  terminal_here Region Second n h = h
  terminal_here sides (Other place) n h = other_here u.kind place n h

-- and by the sides named twice: in one order, or in the other
module _ (d : Design) (w : Wiring) (u : Rule) (cell : ℕ) (q : Square) where
  abbrev Carries : Sides → Terminal → Sides → Terminal → Type 0
  Carries a t b last = (n : Node) → IsTerminalNode d w u cell q a t n → IsTerminalNode d w u cell q b last n

  abbrev AreExchanged : Sides → Sides → Type 0
  AreExchanged a b = (Carries a First b First × Carries a Second b Second) ⊎ (Carries a First b Second × Carries a Second b First)

  group_node : (a e : Edge) → R d w u cell q a.outer e.outer → (n : Node) → IsGroupNode d w u cell q a n → IsGroupNode d w u cell q e n
  group_node a e x n h = (h.0, r_both d w u cell q e.outer a.outer h.0 (r_back d w u cell q a.outer e.outer x) h.1, h.2)

  exchanged_sides : (form : Form) (a b : Sides) (m n k l : ℕ) → IsGoodForm form (sheets d w u cell) (InGate d (geometry w u) cell q) a m n → IsGoodForm form (sheets d w u cell) (InGate d (geometry w u) cell q) b k l → AreExchanged a b
  exchanged_sides Beside (TwoGroups a b) (TwoGroups e f) m n k l h g = elim (orders d w u cell q a b e f m n k l h g) [
    | inl c ↦ inl (group_node a e c.0, group_node b f c.1)
    | inr c ↦ inr (group_node a f c.0, group_node b e c.1)
  ]
  exchanged_sides Beside (TwoGroups a b) Region m n k l h g = absurd g
  exchanged_sides Beside Region b m n k l h g = absurd h
  exchanged_sides Alone (TwoGroups a b) other m n k l h g = absurd h
  exchanged_sides Alone Region (TwoGroups e f) m n k l h g = absurd g
  exchanged_sides Alone Region Region m n k l h g = inl ((λ n i. i), (λ n i. i))

-- ends that are exchanged
have_exchanged : {N : Type 0} (e : Ends N) → have_ends e ≡ have_ends (exchanged e)
have_exchanged NoEnds = refl
have_exchanged (Both a b) = refl

has_exchanged : {N : Type 0} (e : Ends N) (a b : N) → HasEnds a b (exchanged e) → HasEnds b a e
has_exchanged NoEnds a b h = h
has_exchanged (Both c d) a b h = (h.1, h.0)

module _ (d : Design) (w : Wiring) (t : Tables) (g : CircuitTables) (nl : Netlist) (rules : List Rule) (unit : ℕ) (height : ℕ → ℕ) (x : AreTablesRight d w t g nl rules unit height) (n : ℕ) (num : IsCircuitCell g.cells n d.top) where
  abbrev F : Flat Slot Slot
  F = expanded nl n

  is_flat : IsFlatNetlist d w t g nl rules unit n
  is_flat = flat_law d w t g nl rules unit height x n num

  is_top : IsReached d d.top
  is_top = record { path = []; leads = refl }

  abbrev link : Node → Node → Type 0
  link = IsLink w (flat d w d.top)

  region_back : (a b : Node) → InOneRegion w (flat d w d.top) a b → InOneRegion w (flat d w d.top) b a
  region_back a b h = back link (link_back w (flat d w d.top)) a b h

  region_on : (a b c : Node) → InOneRegion w (flat d w d.top) a b → InOneRegion w (flat d w d.top) b c → InOneRegion w (flat d w d.top) a c
  region_on a b c h k = both link a b c h k

  -- a net of a path's end, and a node of the flat region in which it is seen
  abbrev OnRegion : List ℕ → ℕ → Node → Type 0
  OnRegion path a m = IsFlatRegionOf d w t g nl n (slot path a) m

  on_region : (path : List ℕ) (i : ℕ) (row : DeviceRow) (a : ℕ) (m l : Node) → HasDevice nl n path i row → IsListed a (terminal_nets row) → ShowsNode d t g d.top path a m → InOneRegion w (flat d w d.top) m l → OnRegion path a l
  on_region path i row a m l has on sees way = (record { device = i; row = row; has = has; on = on }, (m, sees, way))

  -- at the path's end, and from the top
  seen_row : (path : List ℕ) (row : DeviceRow) (s : Row Node) → AreRowsAlike (OnRegion path) row s → AreRowsAlike (IsFlatRegionOf d w t g nl n) (row_at path row) s
  seen_row path row s a = subst (λ z. AreRowsAlike (IsFlatRegionOf d w t g nl n) (row_at path row) z) (row_over_self s) (rows_over (OnRegion path) (IsFlatRegionOf d w t g nl n) (slot path) (λ m. m) (λ b m h. h) row s a)

  there : (a : Slot) (r : Row Slot) → F.has_device a r
      → (o : GateSquare) × (s : Row Node) × IsFlatDevice d w rules unit o s × IsFlatGateOf d w g nl n rules a o × AreRowsAlike (IsFlatRegionOf d w t g nl n) r s
  there a r (row, has, e) =
      let h = is_flat.each a.path a.net row has in
      let u = h.1 in
      let s = h.2 in
      let v = h.5 in
      let o : GateSquare = record { rule = h.0; square = s } in
      let self : (z : Rule) → slice_get rules h.0 ≡ Some z → InGate d (geometry w z) d.top s s = λ z rule. let same : u ≡ z = let f = h.3 in cc in subst (λ (y : Rule). InGate d (geometry w y) d.top s s) same (gate_self d (geometry w u) d.top s v.settled.is) in
      let P : Terminal → ℕ → Node → Type 0 = λ place b m. IsTerminalNode d w u d.top s v.sides place m × ShowsNode d t g d.top a.path b m in
      let at = chosen P row v.formed (λ place b on. let m = v.nodes place b on in (m.0, (m.1, m.2))) in
      let device : IsFlatDevice d w rules unit o at.0 = record {
        rule = u;
        is = h.3;
        sides = v.sides;
        twice_w = v.twice_w;
        twice_l = v.twice_l;
        good = v.good;
        kind = at.1.kind ∙ v.kind;
        class = at.1.class ∙ v.class;
        sizes = at.1.sizes ∙ v.sizes;
        formed = at.1.formed;
        nodes = λ place m on. (at.1.back place m on).2.0;
      } in
      let over = chosen_over P (OnRegion a.path) row at.0 v.formed at.1 (λ place b m on p. on_region a.path a.net row b m m has (at_terminal place row b on) p.1 (stays link m m refl)) in (
        o,
        at.0,
        device,
        ((row, has), (o, h.4, (refl, self))),
        subst (λ (y : Row Slot). AreRowsAlike (IsFlatRegionOf d w t g nl n) y at.0) (sym e) (seen_row a.path row at.0 (over_alike (OnRegion a.path) row at.0 over)),
      )

  -- a shown global is known
  known : (path : List ℕ) (a k : ℕ) → ShowsNode d t g d.top path a (Ground k) → k < length w.globals
  known path a k p =
      let at = shows d w t height g nl rules unit x.tables (planned d w t g nl rules unit height x) path d.top a (Ground k) is_top p in
      (regions d w t height x.tables d.top is_top).sound at.0 (Ground k) at.2

  -- the nodes of one terminal stand in one flat region
  one_terminal : (u : Rule) (path : List ℕ) (row : DeviceRow) (s : Square) → IsDeviceOf d w t g u unit d.top path row s → (sides : Sides) (k l : ℕ) → IsGoodGate d w u d.top s sides k l
      → (last : Terminal) (i : ℕ) (a b : Node) → ShowsNode d t g d.top path i a → IsTerminalNode d w u d.top s sides last a → IsTerminalNode d w u d.top s sides last b → InOneRegion w (flat d w d.top) a b
  one_terminal u path row s v sides k l form last i a b shown h j =
      (region_flat d w height x.tables.lower a b).0 (terminals d w u d.top s sides k l last a b is_top v.settled form (λ j is. known path i j (subst (λ y. ShowsNode d t g d.top path i y) (sym is) shown)) h j).1

  -- a device of the gate has the flat device's row
  rows_back : (o : GateSquare) (s : Row Node) (y : IsFlatDevice d w rules unit o s) (path : List ℕ) (i : ℕ) (row : DeviceRow) (q : Square) → HasDevice nl n path i row → InGate d (geometry w y.rule) d.top o.square q
      → IsDeviceOf d w t g y.rule unit d.top path row q → AreRowsAlike (IsFlatRegionOf d w t g nl n) (row_at path row) s
  rows_back o s y path i row q has way v = seen_row path row s (record {
    kind = same_kinds;
    class = v.class ∙ sym y.class;
    sizes = v.sizes ∙ ap (λ l. sizes_of u unit v.twice_w l) sizes.1 ∙ ap (λ k. sizes_of u unit k y.twice_l) sizes.0 ∙ sym y.sizes;
    ends = elim (exchanged_sides d w u d.top q (form_of u.kind) v.sides y.sides v.twice_w v.twice_l y.twice_w y.twice_l v.good here) [
      | inl c ↦ inl (ends_by (OnRegion path) row.ends s.ends same_ends (λ a b m l at there. (
        shown First First a m (b, at) (l, there) c.0,
        shown Second Second b l (a, at) (m, there) c.1,
      )))
      | inr c ↦ inr (ends_by (OnRegion path) row.ends (exchanged s.ends) (same_ends ∙ have_exchanged s.ends) (λ a b m l at there. (
        shown First Second a m (b, at) (l, has_exchanged s.ends m l there) c.0,
        shown Second First b l (a, at) (m, has_exchanged s.ends m l there) c.1,
      )))
    ];
    others = at_joined (OnRegion path) row.others s.others (v.formed.others ∙ ap other_count same_kinds ∙ sym y.formed.others) (λ k a m at there. shown (Other k) (Other k) a m at there (λ z is. same_other k z is));
  })
    where
      u : Rule
      u = y.rule

      same_kinds : row.kind ≡ s.kind
      same_kinds = v.kind ∙ sym y.kind

      same_ends : have_ends row.ends ≡ have_ends s.ends
      same_ends = v.formed.ends ∙ ap has_ends same_kinds ∙ sym y.formed.ends

      here : IsGoodGate d w u d.top q y.sides y.twice_w y.twice_l
      here = good_same d w u d.top o.square q way y.sides y.twice_w y.twice_l y.good

      sizes : (v.twice_w ≡ y.twice_w) × (v.twice_l ≡ y.twice_l)
      sizes = one_sizes d w u d.top q v.sides y.sides v.twice_w v.twice_l y.twice_w y.twice_l v.good here

      -- other terminals say nothing of sides
      same_other : (k : ℕ) (z : Node) → IsTerminalNode d w u d.top q v.sides (Other k) z → IsTerminalNode d w u d.top q y.sides (Other k) z
      same_other k z is = is

      shown : (first last : Terminal) (a : ℕ) (m : Node) → IsAt first row a → IsAt last s m → Carries d w u d.top q v.sides first y.sides last → OnRegion path a m
      shown first last a m at there carries =
          let node = v.nodes first a at in
          let mine = terminal_here d w u d.top o.square q way y.sides last m (y.nodes last m there) in
          on_region path i row a node.0 m has (at_terminal first row a at) node.2 (one_terminal u path row q v y.sides y.twice_w y.twice_l here last a node.0 m node.2 (carries node.0 node.1) mine)

  back_from : (o : GateSquare) (s : Row Node) → IsFlatDevice d w rules unit o s
      → (a : Slot) × (r : Row Slot) × F.has_device a r × IsFlatGateOf d w g nl n rules a o × AreRowsAlike (IsFlatRegionOf d w t g nl n) r s
  back_from o s y =
      by (is_flat.found o.rule y.rule o.square y.sides y.twice_w y.twice_l y.is (good_in d w y.rule d.top o.square y.sides y.twice_w y.twice_l y.good) y.good)
    where
      by : (path : List ℕ) × (i : ℕ) × (row : DeviceRow) × (q : Square) × HasDevice nl n path i row × IsGateOfDevice d g d.top path i o.rule q × InGate d (geometry w y.rule) d.top o.square q
          → (a : Slot) × (r : Row Slot) × F.has_device a r × IsFlatGateOf d w g nl n rules a o × AreRowsAlike (IsFlatRegionOf d w t g nl n) r s
      by (path, i, row, q, has, carries, way) =
          let k = is_flat.each path i row has in
          let one = one_gate d g path d.top i k.0 o.rule k.2 q k.4 carries in
          let there : slice_get rules o.rule ≡ Some k.1 = subst (λ y. slice_get rules y ≡ Some k.1) one.0 k.3 in
          let same : k.1 ≡ y.rule = (let a = y.is in let b = there in cc) in
          let v : IsDeviceOf d w t g y.rule unit d.top path row q = subst (λ (y : Rule). IsDeviceOf d w t g y unit d.top path row q) same (subst (λ y. IsDeviceOf d w t g k.1 unit d.top path row y) one.1 k.5) in
          let in_gate : (z : Rule) → slice_get rules o.rule ≡ Some z → InGate d (geometry w z) d.top q o.square = λ z is.
          let eq : y.rule ≡ z = (let a = y.is in let b = is in cc) in
          subst (λ (v : Rule). InGate d (geometry w v) d.top q o.square) eq (gate_back d (geometry w y.rule) d.top o.square q way) in
          (slot path i, row_at path row, (row, has, refl), ((row, has), (record { rule = o.rule; square = q }, carries, (refl, in_gate))), rows_back o s y path i row q has way v)

  devices : (a b : Slot) (o p : GateSquare) → IsFlatGateOf d w g nl n rules a o → IsFlatGateOf d w g nl n rules b p → (a ≡ b) ↔ AreOneGate d w rules o p
  devices a b o p ((row, has), (q, carries, (same, gate))) ((row', has'), (q', carries', (same', gate'))) =
      let k = is_flat.each a.path a.net row has in
      let one = one_gate d g a.path d.top a.net k.0 q.rule k.2 q.square k.4 carries in
      let u = k.1 in
      let rule : slice_get rules q.rule ≡ Some u = subst (λ y. slice_get rules y ≡ Some u) one.0 k.3 in (
        (λ e.
            let moved_on : IsGateOfDevice d g d.top b.path b.net q.rule q.square = subst (λ (y : Slot). IsGateOfDevice d g d.top y.path y.net q.rule q.square) e carries in
            let two = one_gate d g b.path d.top b.net q.rule q'.rule q.square q'.square moved_on carries' in (
              sym same ∙ (two.0 ∙ same'),
              λ z is.
                  let r : slice_get rules q.rule ≡ Some z = subst (λ y. slice_get rules y ≡ Some z) (sym same) is in
                  let r' : slice_get rules q'.rule ≡ Some z = subst (λ y. slice_get rules y ≡ Some z) two.0 r in
                  let i = gate z r in
                  let j : InGate d (geometry w z) d.top q.square p.square = subst (λ y. InGate d (geometry w z) d.top y p.square) (sym two.1) (gate' z r') in
                  gate_between d (geometry w z) d.top q.square o.square p.square i j,
            )),
        (λ (e, way).
            let at : slice_get rules o.rule ≡ Some u = subst (λ y. slice_get rules y ≡ Some u) same rule in
            let at' : slice_get rules q'.rule ≡ Some u = subst (λ y. slice_get rules y ≡ Some u) (sym (same' ∙ sym e)) at in
            let i = gate u rule in
            let j = gate' u at' in
            let whole = gate_on d (geometry w u) d.top q.square o.square q'.square i (gate_on d (geometry w u) d.top o.square p.square q'.square (way u at) (gate_back d (geometry w u) d.top q'.square p.square j)) in
            let there : IsGateOfDevice d g d.top b.path b.net q.rule q'.square = subst (λ y. IsGateOfDevice d g d.top b.path b.net y q'.square) (same' ∙ (sym e ∙ sym same)) carries' in
            let r = is_flat.once a.path b.path a.net b.net row row' q.rule u q.square q'.square has has' rule carries there whole in
            slot_one a b r.0 r.1),
      )

  nets : (a b : Slot) (y z : Node) → IsFlatRegionOf d w t g nl n a y → IsFlatRegionOf d w t g nl n b z → InOneNet nl n a b ↔ InOneRegion w (flat d w d.top) y z
  nets a b y z (ta, (m, sa, ra)) (tb, (k, sb, rb)) =
      let same = is_flat.nets a b m k ta tb sa sb in (
        (λ h. region_on y m z (region_back m y ra) (region_on m k z (same.0 h) rb)),
        (λ h. same.1 (region_on m y k ra (region_on y z k h (region_back k z rb)))),
      )

  pins : (a : Slot) (y : Node) → IsFlatRegionOf d w t g nl n a y → IsOnPin nl n a ↔ ((z : Node) × InOneRegion w (flat d w d.top) y z × IsMarked d w d.top z)
  pins a y (ta, (m, sa, ra)) =
      let same = is_flat.pins a m ta sa in (
        (λ h. let p = same.0 h in (p.0, region_on y m p.0 (region_back m y ra) p.1, p.2)),
        (λ (z, way, marked). same.1 (z, region_on m y z ra way, marked)),
      )

  pub whole : Corresponds F (flat_netlist d w rules unit) (IsFlatGateOf d w g nl n rules) (IsFlatRegionOf d w t g nl n)
  whole = record { there = there; back = back_from; devices = devices; nets = nets; pins = pins }

pub flat_corresponds : FlatCorrespondsLaw
flat_corresponds d w t g nl rules unit height x n num = whole d w t g nl rules unit height x n num

pub top_circuit : TopCircuitLaw
top_circuit d w t g nl rules unit height x =
    let top : IsReached d d.top = record { path = []; leads = refl } in
    position g.cells d.top ((x.cells.each d.top).1 (top, inl refl))
