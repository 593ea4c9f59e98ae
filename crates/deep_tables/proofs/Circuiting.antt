-- Circuits are the same over all right nets, gates and pins.
use Rattle.std.proofs.Common.{◌≡◌, ◌⊎◌, inl, inr, ℕ, zero, suc, ◌<◌, ◌≤◌, Bool, true, List, Option, Some, None, slice_get, length, sym, ◌∙◌, ap, subst, arith}
use Rattle.flat_layout.specs.Circuits.{AreCircuitCells, AreCircuitDevices, AreCircuitNets, AreCircuitPins, AreDrawn, CircuitParts, HasCircuit, IsCallOf, IsCircuitOf, IsDrawnBelow, pin_nets}
use Rattle.flat_layout.specs.Gates.{Rule}
use Rattle.flat_layout.specs.GateTables.{GateEntry, good_gates}
use Rattle.flat_layout.specs.Layout.{Design, Place, IsReached}
use Rattle.flat_layout.specs.Nets.{CellNets, Child, Tables}
use Rattle.flat_layout.specs.Order.{AreLevels, IsCellBefore}
use Rattle.flat_layout.specs.Pins.{CellPins, HasGate, IsNetOf}
use Rattle.flat_layout.specs.Values.{AreDrawnBelow, IsCellCircuitOf, IsCircuitOr}
use Rattle.plain_netlist.specs.Lists.{IsListed}
use Rattle.plain_netlist.specs.Netlist.{CallRow, Circuit}
use Rattle.plain_netlist.proofs.Listing.{at_rising, one_rising, rising_at}
use Rattle.flat_laws.proofs.Cover.{reached_below}
use Rattle.cell_graph.specs.Linked.{plain, height_at}
use Rattle.cell_graph.proofs.Bridge.{heights}
use Rattle.rule_layers.specs.Meaning.{device_rules, wiring_of}
use Rattle.table_laws.proofs.Tabled.{reached_under}
use Rattle.deep_tables.specs.OverAny.{CircuitsOverAnyLaw}
use Rattle.deep_tables.proofs.Pinning.{AreAlike, alike_back, has_gate, pins_alike}

-- a design has one level of each cell
level_below : (d : Design) (l m : ℕ → ℕ) → AreLevels d l → AreLevels d m → (n cell : ℕ) → l cell < n → l cell ≤ m cell
level_below d l m a b zero cell lt = absurd (omega arith)
level_below d l m a b (suc n) cell lt = elim (a.some cell) [
  | inl e ↦ omega arith
  | inr (k, p, placed, e) ↦
      let down = a.lower cell k p placed in
      let up = b.lower cell k p placed in
      let rest = level_below d l m a b n p.cell (omega arith) in
      omega arith
]

one_level : (d : Design) (l m : ℕ → ℕ) → AreLevels d l → AreLevels d m → (cell : ℕ) → l cell ≡ m cell
one_level d l m a b cell =
    let x = level_below d l m a b (suc (l cell)) cell (omega arith) in
    let y = level_below d m l b a (suc (m cell)) cell (omega arith) in
    omega arith

pub not_before : (l : ℕ → ℕ) (a b : ℕ) → IsCellBefore l a b → IsCellBefore l b a → ⊥
not_before l a b (inl x) (inl y) = omega arith
not_before l a b (inl x) (inr y) = let e = y.0 in omega arith
not_before l a b (inr x) (inl y) = let e = x.0 in omega arith
not_before l a b (inr x) (inr y) = let e = x.1 in let f = y.1 in omega arith

before_along : (l m : ℕ → ℕ) → ((cell : ℕ) → l cell ≡ m cell) → (a b : ℕ) → IsCellBefore m a b → IsCellBefore l a b
before_along l m same a b (inl x) = let e = same a in let f = same b in inl (omega arith)
before_along l m same a b (inr x) = let e = same a in let f = same b in let g = x.0 in inr ((omega arith), x.1)

module _ (d : Design) (s t : Tables) (g h : ℕ → List GateEntry) (a : AreAlike d s t g h) where
  has_circuit : (cell : ℕ) → IsReached d cell → HasCircuit d g cell → HasCircuit d h cell
  has_circuit cell reached (inl e) = inl e
  has_circuit cell reached (inr (e, under, gate, listed)) =
      inr (e, under, gate, subst (λ (l : List GateEntry). IsListed gate (good_gates l)) (a.gates e (reached_under d cell e reached under)) listed)

  pub listed_along : (l m : ℕ → ℕ) (cells others : List ℕ) → AreCircuitCells d l g cells → AreCircuitCells d m h others → (cell : ℕ) → IsListed cell cells → IsListed cell others
  listed_along l m cells others mine theirs cell i = let k = (mine.each cell).0 i in (theirs.each cell).1 (k.0, has_circuit cell k.0 k.1)

pub one_order : (d : Design) (s t : Tables) (g h : ℕ → List GateEntry) → AreAlike d s t g h → AreAlike d t s h g → (l m : ℕ → ℕ) (cells others : List ℕ) → AreLevels d l → AreLevels d m
    → AreCircuitCells d l g cells → AreCircuitCells d m h others → cells ≡ others
one_order d s t g h a b l m cells others levels more mine theirs =
    one_rising (IsCellBefore l) (not_before l) cells others mine.rising
    (at_rising (IsCellBefore l) others (λ i j x y lt at there. before_along l m (one_level d l m levels more) x y (rising_at (IsCellBefore m) others i j x y theirs.rising lt at there)))
    (listed_along d s t g h a l m cells others mine theirs) (listed_along d t s h g b m l others cells theirs mine)

-- drawn nets and circuits over other nets, gates and pins that say the same
module _ (d : Design) (s t : Tables) (g h : ℕ → List GateEntry) (a : AreAlike d s t g h) (p q : ℕ → CellPins) (same : (cell : ℕ) → IsReached d cell → p cell ≡ q cell) (drawn : ℕ → List Bool) where
  drawn_below : (cell x : ℕ) → IsReached d cell → IsDrawnBelow d s p drawn cell x → IsDrawnBelow d t q drawn cell x
  drawn_below cell x reached k = record {
    number = k.number;
    place = k.place;
    net = k.net;
    placed = k.placed;
    is_of = subst (λ (v : CellNets). IsNetOf v (Child k.number k.net) x) (a.nets cell reached) k.is_of;
    is_pin = subst (λ (v : CellPins). slice_get v.pins k.net ≡ Some true) (same k.place.cell (reached_below d cell k.number k.place reached k.placed)) k.is_pin;
    is_drawn = k.is_drawn;
  }

  pub drawn_by : (cell x : ℕ) → IsReached d cell → HasGate g cell x ⊎ IsDrawnBelow d s p drawn cell x → HasGate h cell x ⊎ IsDrawnBelow d t q drawn cell x
  drawn_by cell x reached (inl gate) = inl (has_gate g h cell x (a.gates cell reached) gate)
  drawn_by cell x reached (inr k) = inr (drawn_below cell x reached k)

module _ (d : Design) (s t : Tables) (g h : ℕ → List GateEntry) (a : AreAlike d s t g h) (b : AreAlike d t s h g) (p q : ℕ → CellPins) (same : (cell : ℕ) → IsReached d cell → p cell ≡ q cell) (drawn : ℕ → List Bool) where
  pub drawn_along : (cell : ℕ) (v : List Bool) → IsReached d cell → AreDrawn d s g p drawn cell v → AreDrawn d t h q drawn cell v
  drawn_along cell v reached right =
      let count = ap (λ (n : CellNets). n.count) (a.nets cell reached) in
      record {
        count = right.count ∙ count;
        each = λ x lt.
            let both = right.each x (subst (λ n. x < n) (sym count) lt) in (
              (λ e. drawn_by d s t g h a p q same drawn cell x reached (both.0 e)),
              (λ k. both.1 (drawn_by d t s h g b q p (λ c there. sym (same c there)) drawn cell x reached k)),
            );
      }

  pub below_along : (cell : ℕ) → IsReached d cell → AreDrawnBelow d s g p drawn cell → AreDrawnBelow d t h q drawn cell
  below_along cell reached right k e place placed under = drawn_along e (drawn e) (reached_under d place.cell e (reached_below d cell k place reached placed) under) (right k e place placed under)

  call_along : (cells : List ℕ) (cell k : ℕ) (place : Place) (nets : List ℕ) (row : CallRow) → IsReached d cell → IsReached d place.cell → IsCallOf s p drawn cells cell k place nets row → IsCallOf t q drawn cells cell k place nets row
  call_along cells cell k place nets row reached below call =
      let pins : pin_nets (p place.cell) (drawn place.cell) ≡ pin_nets (q place.cell) (drawn place.cell) = ap (λ (v : CellPins). pin_nets v (drawn place.cell)) (same place.cell below) in
      record {
        circuit = call.circuit;
        count = call.count ∙ ap length pins;
        each = λ i inner outer at there.
            let x = call.each i inner outer (ap (λ (l : List ℕ). slice_get l i) pins ∙ at) there in
            (x.0, x.1, subst (λ (v : CellNets). IsNetOf v (Child k inner) x.0) (a.nets cell reached) x.2);
      }

  pub circuit_along : (rules : List Rule) (unit : ℕ) (cells : List ℕ) (n cell : ℕ) (parts : CircuitParts) (c : Circuit) → IsReached d cell
      → IsCircuitOf d s g p drawn rules unit cells n cell parts c → IsCircuitOf d t h q drawn rules unit cells n cell parts c
  circuit_along rules unit cells n cell parts c reached right = record {
    has_name = right.has_name;
    has_nets = subst (λ (v : CellPins). AreCircuitNets v (drawn cell) parts.nets c) (same cell reached) right.has_nets;
    has_pins = subst (λ (v : CellPins). AreCircuitPins v (drawn cell) parts.nets c) (same cell reached) right.has_pins;
    has_devices = subst (λ (l : List GateEntry). AreCircuitDevices rules unit l parts.nets c) (a.gates cell reached) right.has_devices;
    has_calls = record {
      placements = right.has_calls.placements;
      rising = right.has_calls.rising;
      count = right.has_calls.count;
      each = λ i k place row at placed there. call_along cells cell k place parts.nets row reached (reached_below d cell k place reached placed) (right.has_calls.each i k place row at placed there);
    };
    normal = right.normal;
  }

  pub or_along : (rules : List Rule) (unit : ℕ) (cells : List ℕ) (cell : ℕ) (o : Option Circuit) → IsReached d cell → IsCircuitOr d s g p drawn rules unit cells cell o → IsCircuitOr d t h q drawn rules unit cells cell o
  or_along rules unit cells cell None reached none = none
  or_along rules unit cells cell (Some c) reached (n, is, parts, right) = (n, is, parts, circuit_along rules unit cells n cell parts c reached right)

pub circuits_over_any : CircuitsOverAnyLaw
circuits_over_any d r unit s g p level cells cell v sound mine reached is t h q other_level others theirs =
    let both = alike_back d r s t g h sound mine.nets theirs.nets mine.gates_right theirs.gates_right in
    let same : (e : ℕ) → IsReached (plain d) e → p e ≡ q e = λ e there.
    pins_alike (plain d) (wiring_of r) s t g h (height_at d) (heights d sound) both.0 both.1 p q mine.pins_right theirs.pins_right (suc (height_at d d.top)) e (omega arith) there in
    let order = one_order (plain d) s t g h both.0 both.1 level other_level cells others mine.levels theirs.levels mine.cells_right theirs.cells_right in
    subst (λ l. IsCellCircuitOf (plain d) t h q (device_rules r) unit l cell v) order (record {
      are_drawn = λ drawn below. drawn_along (plain d) s t g h both.0 both.1 p q same drawn cell v.drawn reached
          (is.are_drawn drawn (below_along (plain d) t s h g both.1 both.0 q p (λ e there. sym (same e there)) drawn cell reached below));
      is_circuit = λ drawn below own. or_along (plain d) s t g h both.0 both.1 p q same drawn (device_rules r) unit cells cell v.circuit reached
          (is.is_circuit drawn (below_along (plain d) t s h g both.1 both.0 q p (λ e there. sym (same e there)) drawn cell reached below) own);
    })
