-- A cell has one circuit, and the circuits in order are the netlist.
use Rattle.std.proofs.Common.{◌≡◌, ◌⊎◌, inl, inr, ℕ, suc, ◌+◌, ◌<◌, Bool, List, [], ◌∷◌, ◌++◌, Option, Some, None, slice_get, length, refl, sym, ◌∙◌, ap, subst, arith}
use Rattle.base_laws.proofs.Items.{one_list}
use Rattle.std.specs.Prelude.{flat_map}
use Rattle.std.proofs.Math.Decide.{ℕ_discrete}
use Rattle.std.proofs.lemmas.Option.{same_Some, slice_get_within}
use Rattle.flat_layout.specs.Circuits.{AreCircuitCells, CircuitParts, IsCallOf, IsCircuitCell, IsCircuitOf, IsNetlistOf, drawn_nets, pin_nets}
use Rattle.flat_layout.specs.Gates.{Rule, sizes_of}
use Rattle.flat_layout.specs.GateTables.{GateEntry, device_by, good_gates}
use Rattle.flat_layout.specs.Layout.{Design, Place, IsHeight, IsReached}
use Rattle.flat_layout.specs.Nets.{AreNets, Child, IsItemLink, Tables}
use Rattle.flat_layout.specs.Order.{IsCellBefore}
use Rattle.flat_layout.specs.Pins.{CellPins, IsNetOf}
use Rattle.flat_layout.specs.Regions.{Wiring}
use Rattle.flat_layout.specs.Values.{AreDrawnBelow, CellCircuit, IsCellCircuitOf, IsCircuitOr}
use Rattle.flat_laws.proofs.Cover.{reached_below}
use Rattle.flat_laws.proofs.Devices.{OnNets, over_reversed}
use Rattle.flat_laws.proofs.Planned.{cell_not_before, item_at, at_true}
use Rattle.plain_netlist.proofs.Links.{stays}
use Rattle.plain_netlist.proofs.Listing.{apart_at, one_rising, rising_apart}
use Rattle.plain_netlist.proofs.Members.{listed, position}
use Rattle.plain_netlist.proofs.Rows.{carried_row, over_through, over_wider, row_over_self}
use Rattle.plain_netlist.specs.Lists.{AreApart, IsListed}
use Rattle.plain_netlist.specs.Devices.{AreEndsJoined, AreJoined, Both, Ends, IsRowOver, NoEnds, Row, nets_of, terminal_nets}
use Rattle.plain_netlist.specs.Flats.{Reversed}
use Rattle.plain_netlist.specs.Netlist.{CallRow, Circuit, DeviceRow, Netlist, IsCircuit}
use Rattle.plain_netlist.specs.Normal.{AreNumbered, appearances}
use Rattle.table_laws.specs.TableLaws.{CircuitsTogetherLaw, OneCircuitLaw}
use Rattle.table_laws.proofs.Drawing.{drawn_together}
use Rattle.table_laws.proofs.Tabled.{reached_under}

-- two numbers name one item of two lists
abbrev IsOneName : List ℕ → List ℕ → ℕ → ℕ → Type 0
IsOneName nets more x y = (s : ℕ) × (slice_get nets x ≡ Some s) × (slice_get more y ≡ Some s)

-- and two lists of numbers, place by place
abbrev NameSame : List ℕ → List ℕ → List ℕ → List ℕ → Type 0
NameSame nets more xs ys = AreJoined (IsOneName nets more) xs ys

join_same : (nets more xs ys us vs : List ℕ) → NameSame nets more xs ys → NameSame nets more us vs → NameSame nets more (xs ++ us) (ys ++ vs)
join_same nets more [] [] us vs h g = g
join_same nets more [] (y ∷ ys) us vs h g = absurd h
join_same nets more (x ∷ xs) [] us vs h g = absurd h
join_same nets more (x ∷ xs) (y ∷ ys) us vs h g = (h.0, join_same nets more xs ys us vs h.1 g)

by_place : (nets more xs ys : List ℕ) → length xs ≡ length ys → ((i x y : ℕ) → slice_get xs i ≡ Some x → slice_get ys i ≡ Some y → (s : ℕ) × (slice_get nets x ≡ Some s) × (slice_get more y ≡ Some s)) → NameSame nets more xs ys
by_place nets more [] [] e all = tt
by_place nets more [] (y ∷ ys) e all = absurd (omega arith)
by_place nets more (x ∷ xs) [] e all = absurd (omega arith)
by_place nets more (x ∷ xs) (y ∷ ys) e all = (all 0 x y refl refl, by_place nets more xs ys (omega arith) (λ i u v h g. all (suc i) u v h g))

nets_joined : {N M : Type 0} (net : N → M → Type 0) (d : Ends N) (e : Ends M) (ns : List N) (ms : List M) → AreEndsJoined net d e → AreJoined net ns ms → AreJoined net (nets_of d ns) (nets_of e ms)
nets_joined net NoEnds NoEnds ns ms h g = g
nets_joined net (Both a b) (Both c f) [] [] h g = (h.1, (h.0, tt))
nets_joined net (Both a b) (Both c f) (n ∷ ns) (m ∷ ms) h g = (h.1, (g.0, (h.0, g.1)))
nets_joined net (Both a b) (Both c f) [] (m ∷ ms) h g = absurd g
nets_joined net (Both a b) (Both c f) (n ∷ ns) [] h g = absurd g
nets_joined net NoEnds (Both c f) ns ms h g = absurd h
nets_joined net (Both a b) NoEnds ns ms h g = absurd h

by_device : (nets more : List ℕ) (xs ys : List DeviceRow) → length xs ≡ length ys → ((i : ℕ) (x y : DeviceRow) → slice_get xs i ≡ Some x → slice_get ys i ≡ Some y → IsRowOver (IsOneName nets more) x y)
    → NameSame nets more (flat_map terminal_nets xs) (flat_map terminal_nets ys)
by_device nets more [] [] e all = tt
by_device nets more [] (y ∷ ys) e all = absurd (omega arith)
by_device nets more (x ∷ xs) [] e all = absurd (omega arith)
by_device nets more (x ∷ xs) (y ∷ ys) e all =
    let o = all 0 x y refl refl in
    join_same nets more (terminal_nets x) (terminal_nets y) (flat_map terminal_nets xs) (flat_map terminal_nets ys) (nets_joined (IsOneName nets more) x.ends y.ends x.others y.others o.ends o.others)
    (by_device nets more xs ys (omega arith) (λ i u v h g. all (suc i) u v h g))

abbrev nets_in : CallRow → List ℕ
nets_in r = r.nets

by_call : (nets more : List ℕ) (xs ys : List CallRow) → length xs ≡ length ys → ((i : ℕ) (x y : CallRow) → slice_get xs i ≡ Some x → slice_get ys i ≡ Some y → NameSame nets more x.nets y.nets) → NameSame nets more (flat_map nets_in xs) (flat_map nets_in ys)
by_call nets more [] [] e all = tt
by_call nets more [] (y ∷ ys) e all = absurd (omega arith)
by_call nets more (x ∷ xs) [] e all = absurd (omega arith)
by_call nets more (x ∷ xs) (y ∷ ys) e all = join_same nets more x.nets y.nets (flat_map nets_in xs) (flat_map nets_in ys) (all 0 x y refl refl) (by_call nets more xs ys (omega arith) (λ i u v h g. all (suc i) u v h g))

-- normal form numbers the items as they are first named, so both lists are one
one_numbering : (nets more : List ℕ) → AreApart nets → AreApart more → (m n next : ℕ) (xs ys : List ℕ) → NameSame nets more xs ys → AreNumbered m next xs → AreNumbered n next ys → ((k : ℕ) → k < next → slice_get nets k ≡ slice_get more k)
    → (m ≡ n) × ((k : ℕ) → k < m → slice_get nets k ≡ slice_get more k)
one_numbering nets more one two m n next [] [] same h g agree = (sym h ∙ g, λ k lt. agree k (omega arith))
one_numbering nets more one two m n next [] (y ∷ ys) same h g agree = absurd same
one_numbering nets more one two m n next (x ∷ xs) [] same h g agree = absurd same
one_numbering nets more one two m n next (x ∷ xs) (y ∷ ys) ((s, hx, hy), rest) (inl h) (inl g) agree = one_numbering nets more one two m n next xs ys rest h.1 g.1 agree
one_numbering nets more one two m n next (x ∷ xs) (y ∷ ys) ((s, hx, hy), rest) (inr h) (inr g) agree =
    let here : slice_get nets next ≡ slice_get more next = subst (λ k. slice_get nets k ≡ Some s) h.0 hx ∙ sym (subst (λ k. slice_get more k ≡ Some s) g.0 hy) in
    one_numbering nets more one two m n (suc next) xs ys rest h.1 g.1 (λ k lt. elim (ℕ_discrete k next) [
      | yes e ↦ subst (λ j. slice_get nets j ≡ slice_get more j) (sym e) here
      | no not ↦ agree k (omega arith)
    ])
one_numbering nets more one two m n next (x ∷ xs) (y ∷ ys) ((s, hx, hy), rest) (inl h) (inr g) agree =
    let e : x ≡ y = apart_at s more x y two (sym (agree x h.0) ∙ hx) hy in let lt = h.0 in let f = g.0 in absurd (omega arith)
one_numbering nets more one two m n next (x ∷ xs) (y ∷ ys) ((s, hx, hy), rest) (inr h) (inl g) agree =
    let e : x ≡ y = apart_at s nets x y one hx (agree y g.0 ∙ hy) in let lt = g.0 in let f = h.0 in absurd (omega arith)

call_is : (a b : CallRow) → a.circuit ≡ b.circuit → a.nets ≡ b.nets → a ≡ b
call_is a b c n = ap (λ (v : ℕ). let r : CallRow = record { circuit = v; nets = a.nets } in r) c ∙ ap (λ (v : List ℕ). let r : CallRow = record { circuit = b.circuit; nets = v } in r) n

circuit_is : (a b : Circuit) → a.name ≡ b.name → a.nets ≡ b.nets → a.pins ≡ b.pins → a.devices ≡ b.devices → a.calls ≡ b.calls → a ≡ b
circuit_is a b m n p d c =
    ap (λ (v : List ℕ). let r : Circuit = record { name = v; nets = a.nets; pins = a.pins; devices = a.devices; calls = a.calls } in r) m
    ∙ ap (λ (v : List (List ℕ)). let r : Circuit = record { name = b.name; nets = v; pins = a.pins; devices = a.devices; calls = a.calls } in r) n
    ∙ ap (λ (v : List ℕ). let r : Circuit = record { name = b.name; nets = b.nets; pins = v; devices = a.devices; calls = a.calls } in r) p
    ∙ ap (λ (v : List DeviceRow). let r : Circuit = record { name = b.name; nets = b.nets; pins = b.pins; devices = v; calls = a.calls } in r) d
    ∙ ap (λ (v : List CallRow). let r : Circuit = record { name = b.name; nets = b.nets; pins = b.pins; devices = b.devices; calls = v } in r) c

parts_is : (p q : CircuitParts) → p.nets ≡ q.nets → p.calls ≡ q.calls → p ≡ q
parts_is p q n c = ap (λ (v : List ℕ). let r : CircuitParts = record { nets = v; calls = p.calls } in r) n ∙ ap (λ (v : List ℕ). let r : CircuitParts = record { nets = q.nets; calls = v } in r) c

module _ (d : Design) (w : Wiring) (t : Tables) (gates : ℕ → List GateEntry) (pins : ℕ → CellPins) (drawn : ℕ → List Bool) (rules : List Rule) (unit : ℕ) (cells : List ℕ) (level : ℕ → ℕ) (n cell : ℕ)
    (nets : AreNets d w t cell (t.nets cell)) (order : AreCircuitCells d level gates cells) where
  abbrev Is : CircuitParts → Circuit → Type 0
  Is = IsCircuitOf d t gates pins drawn rules unit cells n cell

  net_one : (k u x y : ℕ) → IsNetOf (t.nets cell) (Child k u) x → IsNetOf (t.nets cell) (Child k u) y → x ≡ y
  net_one k u x y h g = (nets.joined h.0 g.0 (Child k u) (Child k u) x y h.1 g.1).1 (stays (IsItemLink d w t cell) (Child k u) (Child k u) refl)

  cells_apart : AreApart cells
  cells_apart = rising_apart (IsCellBefore level) cells (cell_not_before level) order.rising

  calls_same : (p q : CircuitParts) (c e : Circuit) → Is p c → Is q e → p.calls ≡ q.calls
  calls_same p q c e a b = one_rising ◌<◌ (λ x y lt gt. absurd (omega arith)) p.calls q.calls a.has_calls.rising b.has_calls.rising
      (λ k l. (b.has_calls.placements k).1 ((a.has_calls.placements k).0 l)) (λ k l. (a.has_calls.placements k).1 ((b.has_calls.placements k).0 l))

  -- the i-th calls of both are of one placement
  record BothCalls (p q : CircuitParts) (row other : CallRow) : Type 0 where
    number : ℕ
    place : Place
    one : IsCallOf t pins drawn cells cell number place p.nets row
    two : IsCallOf t pins drawn cells cell number place q.nets other

  both_calls : (p q : CircuitParts) (c e : Circuit) → Is p c → Is q e → (i : ℕ) (row other : CallRow) → slice_get c.calls i ≡ Some row → slice_get e.calls i ≡ Some other → BothCalls p q row other
  both_calls p q c e a b i row other h g =
      let k = item_at c.calls p.calls i row (sym a.has_calls.count) h in
      let too : slice_get q.calls i ≡ Some k.0 = subst (λ (l : List ℕ). slice_get l i ≡ Some k.0) (calls_same p q c e a b) k.1 in
      let pl = (a.has_calls.placements k.0).0 (listed p.calls i k.0 k.1) in
      record { number = k.0; place = pl.0; one = a.has_calls.each i k.0 pl.0 row k.1 pl.1 h; two = b.has_calls.each i k.0 pl.0 other too pl.1 g }

  -- the i-th devices of both are of one gate
  both_devices : (p q : CircuitParts) (c e : Circuit) → Is p c → Is q e → (i : ℕ) (x y : DeviceRow) → slice_get c.devices i ≡ Some x → slice_get e.devices i ≡ Some y → IsRowOver (IsOneName p.nets q.nets) x y
  both_devices p q c e a b i x y h g =
      let s = item_at c.devices (good_gates (gates cell)) i x (sym a.has_devices.count) h in
      let k = a.has_devices.each i s.0 x s.1 h in
      let j = b.has_devices.each i s.0 y s.1 g in
      let same : j.rule ≡ k.rule = (let u = k.is in let v = j.is in cc) in
      let own : Rule → Row ℕ = λ u. device_by u (sizes_of u unit s.0.row.twice_w s.0.row.twice_l) s.0.row in
      let other : IsRowOver (OnNets q.nets) (own k.rule) y = subst (λ u. IsRowOver (OnNets q.nets) (own u) y) same j.over in
      over_through (Reversed (OnNets p.nets)) (OnNets q.nets) x (own k.rule) y (over_reversed (OnNets p.nets) (own k.rule) x k.over) other

  abbrev pin_list : List ℕ
  pin_list = pin_nets (pins cell) (drawn cell)

  named_same : (p q : CircuitParts) (c e : Circuit) → Is p c → Is q e → NameSame p.nets q.nets (appearances c) (appearances e)
  named_same p q c e a b =
      join_same p.nets q.nets c.pins e.pins (flat_map terminal_nets c.devices ++ flat_map nets_in c.calls) (flat_map terminal_nets e.devices ++ flat_map nets_in e.calls) of_pins
      (join_same p.nets q.nets (flat_map terminal_nets c.devices) (flat_map terminal_nets e.devices) (flat_map nets_in c.calls) (flat_map nets_in e.calls) of_devices of_calls)
    where
      of_pins : NameSame p.nets q.nets c.pins e.pins
      of_pins = by_place p.nets q.nets c.pins e.pins (a.has_pins.count ∙ sym b.has_pins.count) (λ i x y h g.
          let s = item_at c.pins pin_list i x (sym a.has_pins.count) h in
          (s.0, subst (λ k. slice_get p.nets k ≡ Some s.0) (sym (a.normal.pins i x h)) (a.has_pins.each i s.0 s.1), subst (λ k. slice_get q.nets k ≡ Some s.0) (sym (b.normal.pins i y g)) (b.has_pins.each i s.0 s.1)))

      of_devices : NameSame p.nets q.nets (flat_map terminal_nets c.devices) (flat_map terminal_nets e.devices)
      of_devices = by_device p.nets q.nets c.devices e.devices (a.has_devices.count ∙ sym b.has_devices.count) (both_devices p q c e a b)

      of_calls : NameSame p.nets q.nets (flat_map nets_in c.calls) (flat_map nets_in e.calls)
      of_calls = by_call p.nets q.nets c.calls e.calls (a.has_calls.count ∙ ap (λ (l : List ℕ). length l) (calls_same p q c e a b) ∙ sym b.has_calls.count) (λ i x y h g.
          let two = both_calls p q c e a b i x y h g in
          by_place p.nets q.nets x.nets y.nets (two.one.count ∙ sym two.two.count) (λ j u v at too.
          let inner = item_at x.nets (pin_nets (pins two.place.cell) (drawn two.place.cell)) j u (sym two.one.count) at in
          let r = two.one.each j inner.0 u inner.1 at in
          let z = two.two.each j inner.0 v inner.1 too in
          (r.0, r.1, z.1 ∙ ap (λ (m : ℕ). Some m) (net_one two.number inner.0 z.0 r.0 z.2 r.2))))

  nets_same : (p q : CircuitParts) (c e : Circuit) → Is p c → Is q e → p.nets ≡ q.nets
  nets_same p q c e a b =
      let r = one_numbering p.nets q.nets a.has_nets.apart b.has_nets.apart (length c.nets) (length e.nets) 0 (appearances c) (appearances e) (named_same p q c e a b) a.normal.numbered b.normal.numbered (λ k lt. absurd (omega arith)) in
      one_list p.nets q.nets (sym a.has_nets.count ∙ r.0 ∙ b.has_nets.count) (λ i x y h g.
      let lt : i < length c.nets = subst (λ m. i < m) (sym a.has_nets.count) (slice_get_within p.nets i x h) in
      same_Some _ _ (sym h ∙ r.1 i lt ∙ g))

  module _ (p : CircuitParts) (c e : Circuit) (a : Is p c) (b : Is p e) where
    devices_same : c.devices ≡ e.devices
    devices_same = one_list c.devices e.devices (a.has_devices.count ∙ sym b.has_devices.count) (λ i x y h g.
        let over = over_wider (IsOneName p.nets p.nets) (λ u v. u ≡ v) (λ u v one. apart_at one.0 p.nets u v a.has_nets.apart one.1 one.2) x y (both_devices p p c e a b i x y h g) in
        sym (row_over_self x) ∙ carried_row (λ u. u) x y over)

    rows_same : c.calls ≡ e.calls
    rows_same = one_list c.calls e.calls (a.has_calls.count ∙ sym b.has_calls.count) (λ i x y h g.
        let two = both_calls p p c e a b i x y h g in
        call_is x y (apart_at two.place.cell cells x.circuit y.circuit cells_apart two.one.circuit two.two.circuit)
        (one_list x.nets y.nets (two.one.count ∙ sym two.two.count) (λ j u v at too.
        let inner = item_at x.nets (pin_nets (pins two.place.cell) (drawn two.place.cell)) j u (sym two.one.count) at in
        let r = two.one.each j inner.0 u inner.1 at in
        let z = two.two.each j inner.0 v inner.1 too in
        apart_at r.0 p.nets u v a.has_nets.apart r.1 (z.1 ∙ ap (λ (m : ℕ). Some m) (net_one two.number inner.0 z.0 r.0 z.2 r.2)))))

    pins_same : c.pins ≡ e.pins
    pins_same = one_list c.pins e.pins (a.has_pins.count ∙ sym b.has_pins.count) (λ i x y h g. a.normal.pins i x h ∙ sym (b.normal.pins i y g))

    names_same : c.nets ≡ e.nets
    names_same = one_list c.nets e.nets (a.has_nets.count ∙ sym b.has_nets.count) (λ i x y h g.
        let net = item_at c.nets p.nets i x (sym a.has_nets.count) h in
        let is_drawn = (a.has_nets.each net.0).0 (listed p.nets i net.0 net.1) in
        let there : IsListed net.0 (drawn_nets (drawn cell)) = subst (λ m. IsListed m (drawn_nets (drawn cell))) (let z : 0 + net.0 ≡ net.0 = omega arith in z) (at_true 0 (drawn cell) net.0 is_drawn) in
        let k = position (drawn_nets (drawn cell)) net.0 there in
        same_Some _ _ (sym h ∙ a.has_nets.named i k.0 net.0 net.1 k.1 ∙ sym (b.has_nets.named i k.0 net.0 net.1 k.1) ∙ g))

    pub whole_same : c ≡ e
    whole_same = circuit_is c e (same_Some _ _ (sym a.has_name ∙ b.has_name)) names_same pins_same devices_same rows_same

  pub one_of : (p q : CircuitParts) (c e : Circuit) → Is p c → Is q e → (p ≡ q) × (c ≡ e)
  one_of p q c e a b =
      let same = parts_is p q (nets_same p q c e a b) (calls_same p q c e a b) in
      (same, whole_same p c e a (subst (λ (x : CircuitParts). Is x e) (sym same) b))

pub one_circuit : OneCircuitLaw
one_circuit d w t gates pins drawn rules unit cells level n cell p q c e nets order a b = one_of d w t gates pins drawn rules unit cells level n cell nets order p q c e a b

module _ (d : Design) (t : Tables) (gates : ℕ → List GateEntry) (pins : ℕ → CellPins) (rules : List Rule) (unit : ℕ) (cells : List ℕ) (height level : ℕ → ℕ) (v : ℕ → CellCircuit) (linked : IsHeight d height) (order : AreCircuitCells d level gates cells)
    (is : (cell : ℕ) → IsReached d cell → IsCellCircuitOf d t gates pins rules unit cells cell (v cell)) where
  abbrev Right : ℕ → ℕ → CircuitParts → Circuit → Type 0
  Right = IsCircuitOf d t gates pins (λ cell. (v cell).drawn) rules unit cells

  abbrev Found : ℕ → Type 0
  Found cell = (p : CircuitParts) × ((n : ℕ) (c : Circuit) → IsCircuitCell cells n cell → (v cell).circuit ≡ Some c → Right n cell p c)

  apart_cells : AreApart cells
  apart_cells = rising_apart (IsCellBefore level) cells (cell_not_before level) order.rising

  all_drawn : (cell : ℕ) → IsReached d cell → AreDrawnBelow d t gates pins (λ e. (v e).drawn) cell
  all_drawn cell reached k e p placed under =
      drawn_together d t gates pins (λ f. (v f).drawn) height linked (λ f up. (is f up).are_drawn) e (reached_under d p.cell e (reached_below d cell k p reached placed) under)

  of_value : (cell : ℕ) (o : Option Circuit) → (v cell).circuit ≡ o → IsListed cell cells → IsCircuitOr d t gates pins (λ e. (v e).drawn) rules unit cells cell o → Found cell
  of_value cell None e l h = absurd (h l)
  of_value cell (Some c) e l (n, at, p, right) = (
    p,
    λ m b at_too f.
        let same : c ≡ b = same_Some _ _ (sym e ∙ f) in
        let number : n ≡ m = apart_at cell cells n m apart_cells at at_too in
        subst (λ k. Right k cell p b) number (subst (λ (x : Circuit). Right n cell p x) same right),
  )

  listed_or : (cell : ℕ) (xs : List ℕ) → IsListed cell xs ⊎ (IsListed cell xs → ⊥)
  listed_or cell [] = inr (λ l. l)
  listed_or cell (x ∷ xs) = elim (ℕ_discrete cell x) [
    | yes e ↦ inl (inl e)
    | no not ↦ elim (listed_or cell xs) [ inl l ↦ inl (inr l) | inr none ↦ inr (λ l. elim l [ inl e ↦ not e | inr r ↦ none r ]) ]
  ]

  found : (cell : ℕ) → Found cell
  found cell = elim (listed_or cell cells) [
    | inl l ↦
        let reached = ((order.each cell).0 l).0 in
        of_value cell (v cell).circuit refl l ((is cell reached).is_circuit (λ e. (v e).drawn) (all_drawn cell reached) refl)
    | inr none ↦ (record { nets = []; calls = [] }, λ n c at e. absurd (none (listed cells n cell at)))
  ]

  pub all_circuits : (nl : Netlist) → length nl.circuits ≡ length cells → ((n cell : ℕ) (c : Circuit) → IsCircuitCell cells n cell → IsCircuit nl n c → (v cell).circuit ≡ Some c)
      → (parts : ℕ → CircuitParts) × IsNetlistOf d t gates pins (λ cell. (v cell).drawn) rules unit cells parts nl
  all_circuits nl count from = ((λ cell. (found cell).0), record { count = count; each = λ n cell c at is_c. (found cell).1 n c at (from n cell c at is_c) })

pub together : CircuitsTogetherLaw
together d t gates pins rules unit cells height level v nl linked order is count from = all_circuits d t gates pins rules unit cells height level v linked order is nl count from
