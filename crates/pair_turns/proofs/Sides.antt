-- The circuits of good netlists: they call circuits that are there, and none calls itself.
use Rattle.std.proofs.Common.{◌≡◌, ℕ, ◌<◌, ◌≤◌, zero, suc, List, length, map, Some, slice_get, get_or, option_map, refl, sym, ap, subst, ◌∙◌, arith}
use Rattle.base_laws.proofs.Items.{item_at, map_to}
use Rattle.std.specs.List.{All}
use Rattle.std.proofs.lemmas.List.{length-map}
use Rattle.std.proofs.lemmas.Option.{get_or_from_slice_get, slice_get-map, slice_get_read, slice_get_within}
use Rattle.call_order.specs.Order.{AreInRange, ReachesItself}
use Rattle.net_model.specs.Faults.{call_lists, called_by}
use Rattle.net_model.specs.Rows.{plain_call, plain_circuit, plain_netlist}
use Rattle.net_model.specs.declared.netlist.CallRow.{CallRow}
use Rattle.net_model.specs.declared.netlist.Circuit.{Circuit}
use Rattle.net_model.specs.declared.netlist.Netlist.{Netlist}
use Rattle.net_model.proofs.CallLemmas.{calls_law, cycles_law}
use Rattle.plain_netlist.specs.Netlist.{Circuit as PlainCircuit, IsCall, IsCircuit, Netlist as PlainNetlist}
use Rattle.align_laws.specs.Partners.{AreSides}
use Rattle.plain_netlist.specs.Sound.{CircuitCycle, IsGood}
use Rattle.plain_netlist.proofs.Heights.{no_fault_in_good}

module _ (nl : PlainNetlist) (height : ℕ → ℕ) (good : IsGood nl height) where
  pub in_range : AreInRange (call_lists nl)
  in_range a b h =
      let c = (calls_law nl a b).0 h in
      let there = good.called a c.0 c.1 c.2 in
      let l = slice_get_within nl.circuits c.1.circuit there.0 there.1 in
      let e = c.3 in
      let k = length-map nl.circuits called_by in
      omega (arith, l, e, k)

  pub no_cycle : (c : ℕ) → ReachesItself (call_lists nl) c → ⊥
  no_cycle c h = no_fault_in_good nl height CircuitCycle c good (λ e. absurd (let z : ⊥ = cc in z)) ((cycles_law nl c).0 h)

pub circuit_at : (n : Netlist) (k : ℕ) (x : Circuit) → k < length n.circuits.items → x ≡ get_or n.circuits.items k x → IsCircuit (plain_netlist n) k (plain_circuit x)
circuit_at n k x low e = slice_get-map plain_circuit n.circuits.items k ∙ ap (option_map plain_circuit) (slice_get_read n.circuits.items (length n.circuits.items) k x refl low e)

-- what a circuit calls is there
pub low_calls : (n : Netlist) (height : ℕ → ℕ) → IsGood (plain_netlist n) height → (k : ℕ) (x : Circuit) → IsCircuit (plain_netlist n) k (plain_circuit x)
    → All (λ (r : CallRow). r.circuit < length n.circuits.items) x.calls.items
low_calls n height good k x at j d lt =
    let row = item_at x.calls.items j lt in
    let call : IsCall (plain_netlist n) k j (plain_call row.0) = (plain_circuit x, at, map_to plain_call x.calls.items j row.0 row.1) in
    let there = good.called k j (plain_call row.0) call in
    let low = slice_get_within (map plain_circuit n.circuits.items) row.0.circuit there.0 there.1 in
    let long = length-map n.circuits.items plain_circuit in
    subst (λ (r : CallRow). r.circuit < length n.circuits.items) (sym (get_or_from_slice_get x.calls.items j row.0 d row.1)) (omega (arith, low, long))

-- a list that has each place of the other is as long
at_least : (xs ys : List PlainCircuit) → ((k : ℕ) (x : PlainCircuit) → slice_get xs k ≡ Some x → (y : PlainCircuit) × (slice_get ys k ≡ Some y)) → (n : ℕ) → n ≡ length xs → n ≤ length ys
at_least xs ys there zero e = omega arith
at_least xs ys there (suc n) e =
    let x = item_at xs n (omega (arith, e)) in
    let y = there n x.0 x.1 in
    let l = slice_get_within ys n y.0 y.1 in
    omega (arith, l)

pub same_count : (left right : PlainNetlist) → AreSides left right → length left.circuits ≡ length right.circuits
same_count left right s =
    let a = at_least left.circuits right.circuits s.there (length left.circuits) refl in
    let b = at_least right.circuits left.circuits s.back (length right.circuits) refl in
    omega (arith, a, b)
