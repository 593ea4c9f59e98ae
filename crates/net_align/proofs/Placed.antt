-- Circuits in the lists that the crate holds, and at the places of an order.
use Rattle.std.proofs.Common.{◌≡◌, ◌<◌, ℕ, List, Some, get_or, length, slice_get, slice_index_or, arith}
use Rattle.std.proofs.lemmas.List.{length-map}
use Rattle.std.proofs.lemmas.Option.{slice_get-get_or}
use Rattle.call_order.specs.Order.{IsCallOrder}
use Rattle.plain_netlist.specs.Netlist.{IsCircuit}
use Rattle.net_model.specs.Faults.{call_lists}
use Rattle.net_model.specs.Rows.{plain_circuit, plain_netlist}
use Rattle.net_model.specs.declared.netlist.Circuit.{Circuit}
use Rattle.net_model.specs.declared.netlist.Netlist.{Netlist}
use Rattle.net_align.proofs.Rows.{circuit_at}
use Rattle.net_align.proofs.Walking.{place_low}

pub low_in : (nl : Netlist) (i : ℕ) → i < length nl.circuits.items → i < length (plain_netlist nl).circuits
low_in nl i low = let k = length-map nl.circuits.items plain_circuit in omega (arith, k, low)

pub low_of : (nl : Netlist) (i : ℕ) → i < length (plain_netlist nl).circuits → i < length nl.circuits.items
low_of nl i low = let k = length-map nl.circuits.items plain_circuit in omega (arith, k, low)

-- the circuit that stands at a place of the order
pub record StandsAt (nl : Netlist) (order : List ℕ) (i a : ℕ) : Type 0 where
  pub at : slice_get order i ≡ Some a
  pub low : a < length (plain_netlist nl).circuits
  pub within : a < length nl.circuits.items
  pub circuit : (x : Circuit) → x ≡ get_or nl.circuits.items a x → IsCircuit (plain_netlist nl) a (plain_circuit x)

pub stands_at : (nl : Netlist) {order : List ℕ} → IsCallOrder (call_lists (plain_netlist nl)) order → (i : ℕ) → i < length order
    → StandsAt nl order i (slice_index_or order i 0)
stands_at nl {order = order} is i below =
    let at = slice_get-get_or order i 0 below in
    let low = place_low (plain_netlist nl) order is i (slice_index_or order i 0) at in
    let within = low_of nl (slice_index_or order i 0) low in record {
      at = at;
      low = low;
      within = within;
      circuit = λ x e. circuit_at nl (slice_index_or order i 0) x within e;
    }
