-- The circuits of the cells are a sound netlist in normal form.
use Rattle.std.proofs.Common.{◌≡◌, inl, inr, ℕ, zero, suc, ◌+◌, ◌<◌, ◌≤◌, ◌^◌, Bool, true, false, List, [], ◌∷◌, Some, map, slice_get, length, sym, ◌∙◌, ap, subst, arith}
use Rattle.std.specs.Prelude.{get_or}
use Rattle.std.proofs.lemmas.List.{length-map}
use Rattle.std.proofs.lemmas.Option.{same_Some, slice_get_within}
use Rattle.net_names.specs.Folding.{folded_bytes}
use Rattle.flat_laws.proofs.Devices.{gate_net}
use Rattle.flat_laws.proofs.Planned.{at_true, item_at, planned}
use Rattle.flat_layout.specs.Circuits.{IsCallOf, IsCircuitCell, IsCircuitOf, cell_name, drawn_names, drawn_nets, pin_nets, true_places}
use Rattle.flat_layout.specs.Expanded.{AreTablesRight, CircuitTables}
use Rattle.flat_layout.specs.Gates.{Rule}
use Rattle.flat_layout.specs.Layout.{Design, Place, IsPlaced, IsReached}
use Rattle.flat_layout.specs.Nets.{Tables}
use Rattle.flat_layout.specs.Order.{IsCellBefore}
use Rattle.flat_layout.specs.Regions.{Wiring}
use Rattle.plain_netlist.proofs.Listing.{apart_at, rising_at}
use Rattle.plain_netlist.proofs.Members.{listed, position}
use Rattle.plain_netlist.specs.Lists.{IsListed}
use Rattle.plain_netlist.specs.Netlist.{Circuit, CallRow, Netlist, IsCircuit, IsCall, HasNet}
use Rattle.plain_netlist.specs.Normal.{IsNormalNetlist}
use Rattle.plain_netlist.specs.Sound.{IsCallPath, IsGood, IsSoundNetlist}
use Rattle.table_laws.proofs.Naming.{circuit_names_apart, net_names_apart}
use Rattle.table_laws.specs.NameLaws.{ExtractedGoodLaw, ExtractedSoundLaw}

places_few : (k : ℕ) (bs : List Bool) → length (true_places k bs) ≤ length bs
places_few k [] = omega arith
places_few k (true ∷ bs) = let e = places_few (suc k) bs in omega arith
places_few k (false ∷ bs) = let e = places_few (suc k) bs in omega arith

-- of two cells in order, one of a lower level has the lower number
number_below : (level : ℕ → ℕ) (m n a b : ℕ) (cells : List ℕ) → ((i j x y : ℕ) → i < j → slice_get cells i ≡ Some x → slice_get cells j ≡ Some y → IsCellBefore level x y)
    → slice_get cells m ≡ Some a → slice_get cells n ≡ Some b → level a < level b → m < n
number_below level zero zero a b cells rising h g lt = let e : level a ≡ level b = ap level (same_Some _ _ (sym h ∙ g)) in absurd (omega arith)
number_below level zero (suc n) a b cells rising h g lt = omega arith
number_below level (suc m) zero a b cells rising h g lt = absurd (not (rising 0 (suc m) b a (omega arith) g h))
  where
    not : IsCellBefore level b a → ⊥
    not (inl less) = omega arith
    not (inr (same, less)) = omega arith
number_below level (suc m) (suc n) a b [] rising h g lt = cc
number_below level (suc m) (suc n) a b (c ∷ cells) rising h g lt = let e = number_below level m n a b cells (λ i j x y less p q. rising (suc i) (suc j) x y (omega arith) p q) h g lt in omega arith

module _ (d : Design) (w : Wiring) (t : Tables) (g : CircuitTables) (nl : Netlist) (rules : List Rule) (unit : ℕ) (level : ℕ → ℕ) (h : AreTablesRight d w t g nl rules unit level) where
  -- the cell of a circuit
  record HasCell (n : ℕ) (c : Circuit) : Type 0 where
    cell : ℕ
    is : IsCircuitCell g.cells n cell
    reached : IsReached d cell
    right : IsCircuitOf d t g.gates g.pins g.drawn rules unit g.cells n cell (g.parts cell) c

  cell_of : (n : ℕ) (c : Circuit) → IsCircuit nl n c → HasCell n c
  cell_of n c is =
      let r = item_at nl.circuits g.cells n c (sym h.circuits.count) is in
      record { cell = r.0; is = r.1; reached = ((h.cells.each r.0).0 (listed g.cells n r.0 r.1)).0; right = h.circuits.each n r.0 c r.1 is }

  -- a number with a net of the cell is a net
  net_at : (n a x : ℕ) (c : Circuit) (f : HasCell n c) → IsCircuit nl n c → slice_get (g.parts f.cell).nets a ≡ Some x → HasNet nl n a
  net_at n a x c f is at = (c, is, subst (λ m. a < m) (sym f.right.has_nets.count) (slice_get_within (g.parts f.cell).nets a x at))

  -- the placement of a call
  record HasPlace (cell : ℕ) (row : CallRow) : Type 0 where
    number : ℕ
    place : Place
    placed : IsPlaced d cell number place
    right : IsCallOf t g.pins g.drawn g.cells cell number place (g.parts cell).nets row

  place_of : (n k : ℕ) (c : Circuit) (row : CallRow) (f : HasCell n c) → slice_get c.calls k ≡ Some row → HasPlace f.cell row
  place_of n k c row f at =
      let r = item_at c.calls (g.parts f.cell).calls k row (sym f.right.has_calls.count) at in
      let p = (f.right.has_calls.placements r.0).0 (listed (g.parts f.cell).calls k r.0 r.1) in
      record { number = r.0; place = p.0; placed = p.1; right = f.right.has_calls.each k r.0 p.0 row r.1 p.1 at }

  call_lower : (n k : ℕ) (row : CallRow) → IsCall nl n k row → row.circuit < n
  call_lower n k row (c, is, at) =
      let f = cell_of n c is in
      let p = place_of n k c row f at in
      number_below level row.circuit n p.place.cell f.cell g.cells (λ i j x y lt u v. rising_at (IsCellBefore level) g.cells i j x y h.cells.rising lt u v)
      p.right.circuit f.is (h.levels.lower f.cell p.number p.place p.placed)

  call_fits : (n k : ℕ) (row : CallRow) → IsCall nl n k row → (e : Circuit) × IsCircuit nl row.circuit e × (length row.nets ≡ length e.pins)
  call_fits n k row (c, is, at) =
      let f = cell_of n c is in
      let p = place_of n k c row f at in
      let e = item_at g.cells nl.circuits row.circuit p.place.cell h.circuits.count p.right.circuit in
      let called = h.circuits.each row.circuit p.place.cell e.0 p.right.circuit e.1 in
      (e.0, e.1, p.right.count ∙ sym called.has_pins.count)

  good : IsGood nl (λ n. n)
  good = record {
    within = record {
      pins = λ n i a (c, is, at).
          let f = cell_of n c is in
          let x = item_at c.pins (pin_nets (g.pins f.cell) (g.drawn f.cell)) i a (sym f.right.has_pins.count) at in
          let same : i ≡ a = sym (f.right.normal.pins i a at) in
          net_at n a x.0 c f is (subst (λ m. slice_get (g.parts f.cell).nets m ≡ Some x.0) same (f.right.has_pins.each i x.0 x.1));
      calls = λ n k i a row (c, is, at) there.
          let f = cell_of n c is in
          let p = place_of n k c row f at in
          let inner = item_at row.nets (pin_nets (g.pins p.place.cell) (g.drawn p.place.cell)) i a (sym p.right.count) there in
          let x = p.right.each i inner.0 a inner.1 there in
          net_at n a x.0 c f is x.1;
      devices = λ n i a row (c, is, at) on.
          let f = cell_of n c is in
          let r = (planned d w t g nl rules unit level h).circuits f.cell n c f.reached f.is is in
          let gate = r.rows_each i row at in
          let x = gate_net rules unit (g.parts f.cell).nets gate.0 row gate.2 a on in
          net_at n a x.0 c f is x.2;
    };
    called = call_fits;
    lower = call_lower;
    pins = λ n i a (c, is, at). (cell_of n c is).right.normal.pins i a at;
  }

  normal : IsNormalNetlist nl
  normal n c is = (cell_of n c is).right.normal

  falls : (path : List ℕ) (b c : ℕ) → IsCallPath nl b path c → c ≤ b
  falls [] b c e = omega arith
  falls (k ∷ ks) b c (row, is, rest) = let first = call_lower b k row is in let more = falls ks row.circuit c rest in omega arith

  -- the net and the place among the drawn nets of a name
  name_at : (n a : ℕ) (c : Circuit) (name : List ℕ) (f : HasCell n c) → slice_get c.nets a ≡ Some name
      → (x : ℕ) × (k : ℕ) × (slice_get (g.parts f.cell).nets a ≡ Some x) × (slice_get (drawn_nets (g.drawn f.cell)) k ≡ Some x) × (slice_get (drawn_names (g.pins f.cell) (g.drawn f.cell)) k ≡ Some name)
  name_at n a c name f at =
      let x = item_at c.nets (g.parts f.cell).nets a name (sym f.right.has_nets.count) at in
      let drawn = (f.right.has_nets.each x.0).0 (listed (g.parts f.cell).nets a x.0 x.1) in
      let k = position (drawn_nets (g.drawn f.cell)) x.0 (subst (λ m. IsListed m (drawn_nets (g.drawn f.cell))) (let e : 0 + x.0 ≡ x.0 = omega arith in e) (at_true 0 (g.drawn f.cell) x.0 drawn)) in
      (x.0, k.0, x.1, k.1, sym (f.right.has_nets.named a k.0 x.0 x.1 k.1) ∙ at)

  sound : length g.cells < 2 ^ 32 → ((n cell : ℕ) → IsCircuitCell g.cells n cell → length (g.drawn cell) < 2 ^ 32) → IsSoundNetlist nl
  sound few short = record {
    names = λ b c x y is on same.
        let names = map (λ cell. folded_bytes (cell_name d cell)) g.cells in
        let long = length-map g.cells (λ cell. folded_bytes (cell_name d cell)) in
        circuit_names_apart names (omega arith) b c y.name ((cell_of b x is).right.has_name ∙ ap Some same) (cell_of c y on).right.has_name;
    net_names = λ n a b x name is at bt.
        let f = cell_of n x is in
        let drawn = g.drawn f.cell in
        let one = name_at n a x name f at in
        let two = name_at n b x name f bt in
        let fold = λ (m : ℕ). folded_bytes (get_or (g.pins f.cell).names m []) in
        let long = length-map (drawn_nets drawn) fold in
        let less = places_few 0 drawn in
        let small = short n f.cell f.is in
        let e = net_names_apart (map fold (drawn_nets drawn)) (omega arith) one.1 two.1 name one.4 two.4 in
        let same : two.0 ≡ one.0 = same_Some _ _ (sym two.3 ∙ subst (λ k. slice_get (drawn_nets drawn) k ≡ Some one.0) e one.3) in
        apart_at one.0 (g.parts f.cell).nets a b f.right.has_nets.apart one.2 (subst (λ m. slice_get (g.parts f.cell).nets b ≡ Some m) same two.2);
    nets = good.within;
    calls = call_fits;
    no_cycle = λ c (k, ks, (row, is, rest)). let first = call_lower c k row is in let more = falls ks row.circuit c rest in omega arith;
  }

pub extracted_good : ExtractedGoodLaw
extracted_good d w t g nl rules unit level h = (good d w t g nl rules unit level h, normal d w t g nl rules unit level h)

pub extracted_sound : ExtractedSoundLaw
extracted_sound d w t g nl rules unit level h few short = sound d w t g nl rules unit level h few short
