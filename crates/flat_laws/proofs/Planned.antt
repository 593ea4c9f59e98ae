-- Right tables, in words of numbers and indexes.
use Rattle.std.proofs.Common.{◌≡◌, inl, inr, ℕ, zero, suc, ◌+◌, ◌<◌, ◌≤◌, Bool, true, false, ◌&&◌, List, [], ◌∷◌, Some, slice_get, length, refl, sym, ◌∙◌, ap, subst, arith}
use Rattle.std.proofs.lemmas.Bool.{and_parts}
use Rattle.flat_laws.specs.NetlistLaws.{PlannedLaw}
use Rattle.flat_laws.specs.Planned.{IsPlannedCircuit, IsJoiningCall}
use Rattle.flat_layout.specs.Circuits.{CircuitParts, HasCircuit, IsCallOf, IsCircuitCell, IsCircuitOf, IsDeviceOfGate, both, pin_nets, true_places}
use Rattle.flat_layout.specs.Expanded.{AreTablesRight, CircuitTables}
use Rattle.flat_layout.specs.Gates.{Rule}
use Rattle.flat_layout.specs.GateTables.{GoodGate, good_gates}
use Rattle.flat_layout.specs.Layout.{Design, Place, IsHeight, IsPlaced, IsReached, Leads}
use Rattle.flat_layout.specs.Nets.{Tables}
use Rattle.flat_layout.specs.Order.{IsCellBefore}
use Rattle.flat_layout.specs.Pins.{IsPinNet}
use Rattle.flat_layout.specs.Regions.{Wiring}
use Rattle.plain_netlist.specs.Lists.{AreApart, IsListed}
use Rattle.plain_netlist.specs.Netlist.{CallRow, Circuit, DeviceRow, Netlist, IsCircuit}
use Rattle.plain_netlist.proofs.Listing.{apart_at, rising_apart}
use Rattle.plain_netlist.proofs.Members.{position, listed}

-- a list of one length with another has an item at each of its places
pub item_at : {A B : Type 0} (xs : List A) (ys : List B) (i : ℕ) (a : A) → length ys ≡ length xs → slice_get xs i ≡ Some a → (b : B) × (slice_get ys i ≡ Some b)
item_at [] ys i a long h = cc
item_at (x ∷ xs) [] i a long h = absurd (omega arith)
item_at (x ∷ xs) (y ∷ ys) zero a long h = (y, refl)
item_at (x ∷ xs) (y ∷ ys) (suc i) a long h = item_at xs ys i a (omega arith) h

-- the places of true are those that have it
pub true_at : (k : ℕ) (bs : List Bool) (x : ℕ) → IsListed x (true_places k bs) → (j : ℕ) × (x ≡ k + j) × (slice_get bs j ≡ Some true)
true_at k [] x h = absurd h
true_at k (true ∷ bs) x (inl e) = (zero, omega arith, refl)
true_at k (true ∷ bs) x (inr h) = let r = true_at (suc k) bs x h in let e = r.1 in (suc r.0, omega arith, r.2)
true_at k (false ∷ bs) x h = let r = true_at (suc k) bs x h in let e = r.1 in (suc r.0, omega arith, r.2)

pub at_true : (k : ℕ) (bs : List Bool) (j : ℕ) → slice_get bs j ≡ Some true → IsListed (k + j) (true_places k bs)
at_true k [] j h = cc
at_true k (true ∷ bs) zero h = inl (omega arith)
at_true k (true ∷ bs) (suc j) h = inr (subst (λ n. IsListed n (true_places (suc k) bs)) (let e : suc k + j ≡ k + suc j = omega arith in e) (at_true (suc k) bs j h))
at_true k (false ∷ bs) zero h = cc
at_true k (false ∷ bs) (suc j) h = subst (λ n. IsListed n (true_places (suc k) bs)) (let e : suc k + j ≡ k + suc j = omega arith in e) (at_true (suc k) bs j h)

both_at : (ps ds : List Bool) (j : ℕ) → slice_get (both ps ds) j ≡ Some true → (slice_get ps j ≡ Some true) × (slice_get ds j ≡ Some true)
both_at [] ds j h = cc
both_at (p ∷ ps) [] j h = cc
both_at (p ∷ ps) (b ∷ ds) zero h = let e : (p && b) ≡ true = (let f : Some (p && b) ≡ Some true = h in cc) in let r = and_parts p b e in (ap Some r.0, ap Some r.1)
both_at (p ∷ ps) (b ∷ ds) (suc j) h = both_at ps ds j h

at_both : (ps ds : List Bool) (j : ℕ) → slice_get ps j ≡ Some true → slice_get ds j ≡ Some true → slice_get (both ps ds) j ≡ Some true
at_both [] ds j h g = cc
at_both (p ∷ ps) [] j h g = cc
at_both (p ∷ ps) (b ∷ ds) zero h g =
    let e : p ≡ true = (let f : Some p ≡ Some true = h in cc) in let i : b ≡ true = (let f : Some b ≡ Some true = g in cc) in
    ap Some (ap (λ x. x && b) e ∙ i)
at_both (p ∷ ps) (b ∷ ds) (suc j) h g = at_both ps ds j h g

-- the drawn pins
pub pin_at : (ps ds : List Bool) (x : ℕ) → IsListed x (true_places 0 (both ps ds)) → (slice_get ps x ≡ Some true) × (slice_get ds x ≡ Some true)
pin_at ps ds x h =
    let r = true_at 0 (both ps ds) x h in
    let e : r.0 ≡ x = (let f = r.1 in omega arith) in
    both_at ps ds x (subst (λ n. slice_get (both ps ds) n ≡ Some true) e r.2)

pub at_pin : (ps ds : List Bool) (x : ℕ) → slice_get ps x ≡ Some true → slice_get ds x ≡ Some true → IsListed x (true_places 0 (both ps ds))
at_pin ps ds x h g = subst (λ n. IsListed n (true_places 0 (both ps ds))) (let e : 0 + x ≡ x = omega arith in e) (at_true 0 (both ps ds) x (at_both ps ds x h g))

pub cell_not_before : (level : ℕ → ℕ) (a : ℕ) → IsCellBefore level a a → ⊥
cell_not_before level a (inl lt) = omega arith
cell_not_before level a (inr (e, lt)) = omega arith

pub lower : (d : Design) (height : ℕ → ℕ) → IsHeight d height → (path : List ℕ) (from to : ℕ) → Leads d from path to → height to ≤ height from
lower d height linked [] from to h = let e : height from ≡ height to = ap height h in omega arith
lower d height linked (k ∷ ks) from to h =
    let one = linked from k h.0 h.1 in
    let rest = lower d height linked ks h.0.cell to h.2 in
    omega arith

module _ (d : Design) (w : Wiring) (t : Tables) (g : CircuitTables) (nl : Netlist) (rules : List Rule) (unit : ℕ) (level : ℕ → ℕ) (h : AreTablesRight d w t g nl rules unit level) where
  cells_apart : AreApart g.cells
  cells_apart = rising_apart (IsCellBefore level) g.cells (cell_not_before level) h.cells.rising

  one : (m n cell : ℕ) → IsCircuitCell g.cells m cell → IsCircuitCell g.cells n cell → m ≡ n
  one m n cell a b = apart_at cell g.cells m n cells_apart a b

  circuit_at : (n cell : ℕ) → IsCircuitCell g.cells n cell → (c : Circuit) × IsCircuit nl n c
  circuit_at n cell num = item_at g.cells nl.circuits n cell h.circuits.count num

  module _ (cell n : ℕ) (c : Circuit) (num : IsCircuitCell g.cells n cell) (is : IsCircuit nl n c) where
    abbrev parts : CircuitParts
    parts = g.parts cell

    abbrev pins : List ℕ
    pins = pin_nets (g.pins cell) (g.drawn cell)

    k : IsCircuitOf d t g.gates g.pins g.drawn rules unit g.cells n cell parts c
    k = h.circuits.each n cell c num is

    -- pin i is net i, and this is the i-th drawn pin
    pub pin_number : (i a : ℕ) → slice_get c.pins i ≡ Some a → (a ≡ i) × (x : ℕ) × (slice_get pins i ≡ Some x) × (slice_get parts.nets a ≡ Some x)
    pin_number i a at =
        let e = k.normal.pins i a at in
        let x = item_at c.pins pins i a (sym k.has_pins.count) at in
        (e, x.0, x.1, subst (λ j. slice_get parts.nets j ≡ Some x.0) (sym e) (k.has_pins.each i x.0 x.1))

    pins_each : (i a : ℕ) → slice_get c.pins i ≡ Some a → (x : ℕ) × (slice_get parts.nets a ≡ Some x) × IsPinNet g.pins cell x
    pins_each i a at = let r = pin_number i a at in (r.1, r.3, (pin_at (g.pins cell).pins (g.drawn cell) r.1 (listed pins i r.1 r.2)).0)

    pins_found : (a x : ℕ) → slice_get parts.nets a ≡ Some x → IsPinNet g.pins cell x → (i : ℕ) × (slice_get c.pins i ≡ Some a)
    pins_found a x at pin =
        let drawn = (k.has_nets.each x).0 (listed parts.nets a x at) in
        let r = position pins x (at_pin (g.pins cell).pins (g.drawn cell) x pin drawn) in
        let same : r.0 ≡ a = apart_at x parts.nets r.0 a k.has_nets.apart (k.has_pins.each r.0 x r.1) at in
        let i = item_at pins c.pins r.0 x k.has_pins.count r.1 in
        (r.0, i.1 ∙ ap (λ (n : ℕ). Some n) (k.normal.pins r.0 i.0 i.1 ∙ same))

    rows_each : (i : ℕ) (row : DeviceRow) → slice_get c.devices i ≡ Some row → (gate : GoodGate) × (slice_get (good_gates (g.gates cell)) i ≡ Some gate) × IsDeviceOfGate rules unit parts.nets gate row
    rows_each i row at =
        let r = item_at c.devices (good_gates (g.gates cell)) i row (sym k.has_devices.count) at in
        (r.0, r.1, k.has_devices.each i r.0 row r.1 at)

    rows_found : (i : ℕ) (gate : GoodGate) → slice_get (good_gates (g.gates cell)) i ≡ Some gate → (row : DeviceRow) × (slice_get c.devices i ≡ Some row) × IsDeviceOfGate rules unit parts.nets gate row
    rows_found i gate at =
        let r = item_at (good_gates (g.gates cell)) c.devices i gate k.has_devices.count at in
        (r.0, r.1, k.has_devices.each i gate r.0 at r.1)

    calls_each : (a : ℕ) (row : CallRow) → slice_get c.calls a ≡ Some row → (j : ℕ) × (p : Place) × (slice_get parts.calls a ≡ Some j) × IsPlaced d cell j p × IsCallOf t g.pins g.drawn g.cells cell j p parts.nets row
    calls_each a row at =
        let r = item_at c.calls parts.calls a row (sym k.has_calls.count) at in
        let p = (k.has_calls.placements r.0).0 (listed parts.calls a r.0 r.1) in
        (r.0, p.0, r.1, p.1, k.has_calls.each a r.0 p.0 row r.1 p.1 at)

    calls_found : (a j : ℕ) → slice_get parts.calls a ≡ Some j → (row : CallRow) × (slice_get c.calls a ≡ Some row)
    calls_found a j at = item_at parts.calls c.calls a j k.has_calls.count at

    calls_all : (j m : ℕ) (p : Place) → IsPlaced d cell j p → IsCircuitCell g.cells m p.cell → (a : ℕ) × (slice_get parts.calls a ≡ Some j)
    calls_all j m p placed at = position parts.calls j ((k.has_calls.placements j).1 (p, placed, listed g.cells m p.cell at))

    calls_apart : (a b j : ℕ) → slice_get parts.calls a ≡ Some j → slice_get parts.calls b ≡ Some j → a ≡ b
    calls_apart a b j x y = apart_at j parts.calls a b (rising_apart ◌<◌ parts.calls (λ z lt. absurd (omega arith)) k.has_calls.rising) x y

  -- a call over the called circuit's pins
  joining : (cell j : ℕ) (p : Place) (row : CallRow) → IsCallOf t g.pins g.drawn g.cells cell j p (g.parts cell).nets row → IsJoiningCall t g nl cell j p row
  joining cell j p row call = record {
    circuit = call.circuit;
    each = λ called i inner u is pin net.
        let r = pin_number p.cell row.circuit called call.circuit is i inner pin in
        let same : r.1 ≡ u = (let a = r.3 in let b = net in cc) in
        let listed : slice_get (pin_nets (g.pins p.cell) (g.drawn p.cell)) i ≡ Some u = subst (λ x. slice_get (pin_nets (g.pins p.cell) (g.drawn p.cell)) i ≡ Some x) same r.2 in
        let o = item_at (pin_nets (g.pins p.cell) (g.drawn p.cell)) row.nets i u call.count listed in
        let x = call.each i u o.0 listed o.1 in
        (o.0, x.0, o.1, x.1, x.2);
  }

  circuit_of : (cell n : ℕ) (c : Circuit) → IsCircuitCell g.cells n cell → IsCircuit nl n c → IsPlannedCircuit d t g nl rules unit cell c
  circuit_of cell n c num is =
      let k = h.circuits.each n cell c num is in record {
        nets_apart = λ a b x i j. apart_at x (g.parts cell).nets a b k.has_nets.apart i j;
        nets_each = λ a x i. (k.has_nets.each x).0 (listed (g.parts cell).nets a x i);
        nets_found = λ x drawn. position (g.parts cell).nets x ((k.has_nets.each x).1 drawn);
        pins_each = pins_each cell n c num is;
        pins_found = pins_found cell n c num is;
        rows_each = rows_each cell n c num is;
        rows_found = rows_found cell n c num is;
        calls_apart = calls_apart cell n c num is;
        calls_each = λ a row at. let r = calls_each cell n c num is a row at in (r.0, r.1, r.2, r.3, joining cell r.0 r.1 row r.4);
        calls_found = calls_found cell n c num is;
        calls_all = calls_all cell n c num is;
      }

  has_circuit : (cell : ℕ) → IsReached d cell → HasCircuit d g.gates cell → (n : ℕ) × IsCircuitCell g.cells n cell
  has_circuit cell reached has = position g.cells cell ((h.cells.each cell).1 (reached, has))

  placing : (cell j m : ℕ) (p : Place) → IsReached d cell → IsPlaced d cell j p → IsCircuitCell g.cells m p.cell → (n : ℕ) × IsCircuitCell g.cells n cell
  placing cell j m p reached placed at = elim (((h.cells.each p.cell).0 (listed g.cells m p.cell at)).1) [
    | inl top ↦
        let down = h.levels.lower cell j p placed in
        let up = lower d level h.levels.lower reached.path d.top cell reached.leads in
        let e : level p.cell ≡ level d.top = ap level top in
        absurd (omega arith)
    | inr under ↦ has_circuit cell reached (inr (under.0, (j ∷ under.1.0, (p, placed, under.1.1)), under.2, under.3))
  ]

pub planned : PlannedLaw
planned d w t g nl rules unit level h = record {
  one = one d w t g nl rules unit level h;
  pins = λ cell b reached lt. (h.pins cell reached).each b lt;
  drawn = λ cell x reached lt. (h.drawn cell reached).each x lt;
  circuits = λ cell n c reached num is. circuit_of d w t g nl rules unit level h cell n c num is;
  found = λ cell n reached num. circuit_at d w t g nl rules unit level h n cell num;
  gates = λ cell i gate reached at. has_circuit d w t g nl rules unit level h cell reached (inr (cell, ([], refl), gate, listed (good_gates (g.gates cell)) i gate at));
  placing = placing d w t g nl rules unit level h;
}
