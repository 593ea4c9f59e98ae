-- A flat circuit that stands earlier in the order is what a call needs.
use Rattle.std.proofs.Common.{◌≡◌, ℕ, zero, suc, ◌+◌, ◌<◌, ◌≤◌, Bool, false, true≢false, List, length, Option, Some, None, slice_get, slice_index, get_or, refl, sym, subst, ◌∙◌, ap, arith}
use Rattle.base_laws.proofs.Items.{map_to}
use Rattle.std.specs.Prelude.{slice_set, slice_index_or}
use Rattle.std.proofs.Math.Decide.{ℕ_discrete}
use Rattle.std.proofs.lemmas.List.{length-set, get_or-set_same, get_or-set_other}
use Rattle.std.proofs.lemmas.Option.{slice_get_within, slice_get-get_or}
use Rattle.call_order.specs.Order.{Calls, IsCallOrder}
use Rattle.plain_netlist.specs.Netlist.{CallRow, Circuit, Netlist, IsCircuit, IsCall, IsDevice, HasNet}
use Rattle.plain_netlist.specs.Sound.{IsGood}
use Rattle.align_laws.specs.Lists.{FlatCircuit, plain}
use Rattle.align_laws.proofs.FlatGood.{flat_is_good}
use Rattle.net_model.specs.Faults.{call_lists}
use Rattle.net_model.specs.Rows.{plain_device, plain_call, plain_circuit}
use Rattle.net_model.specs.declared.netlist.CallRow.{CallRow as Call}
use Rattle.net_model.specs.declared.netlist.Circuit.{Circuit as CircuitRow}
use Rattle.net_model.proofs.CallLemmas.{calls_law}
use Rattle.net_model.proofs.Shapes.{net_listed}
use Rattle.net_align.specs.Laid.{AreRowsBelow, AreCallsBelow, AreCircuitsBelow, IsFlatThere, laid_out}
use Rattle.net_align.specs.Flattened.{Flattening, IsFlattening, HasFlat, AreClosed, AreFlats, AreFlatsBelow}
use Rattle.net_align.specs.Walked.{IsMarked, AreReached}
use Rattle.net_align.proofs.Partnered.{at_or}
use Rattle.net_align.proofs.LaidLists.{laid_law}
use Rattle.net_align.proofs.Walking.{place_before, place_low, one_place, has_place, called_further}

module _ (n : Netlist) (d : ℕ) (x : CircuitRow) (is : IsCircuit n d (plain_circuit x)) (height : ℕ → ℕ) (good : IsGood n height) where
  low : (m : ℕ) → HasNet n d m → m < length x.nets.items
  low m h =
      let s : Some h.0 ≡ Some (plain_circuit x) = sym h.1 ∙ is in
      let e : h.0 ≡ plain_circuit x = cc in
      subst (λ (z : Circuit). m < length z.nets) e h.2

  pub rows_low : AreRowsBelow x.devices.items (length x.nets.items)
  rows_low i r e =
      let has : IsDevice n d i (plain_device r) = (plain_circuit x, is, map_to plain_device x.devices.items i r e) in
      λ k l. low (slice_index r.nets k) (good.within.devices d i (slice_index r.nets k) (plain_device r) has (net_listed r.kind r.nets k l))

  pub calls_low : AreCallsBelow x.calls.items (length x.nets.items)
  calls_low i r e j l =
      let has : IsCall n d i (plain_call r) = (plain_circuit x, is, map_to plain_call x.calls.items i r e) in
      low (slice_index r.nets.items j) (good.within.calls d i j (slice_index r.nets.items j) (plain_call r) has (slice_get-get_or r.nets.items j 0 l))

  pub pins_low : (k : ℕ) → k ≡ length x.pins.items → length x.pins.items ≤ length x.nets.items
  pins_low zero e = omega (arith, e)
  pins_low (suc k) e =
      let l : k < length x.pins.items = omega (arith, e) in
      let pin = slice_get-get_or x.pins.items k 0 l in
      let same = good.pins d k (get_or x.pins.items k 0) (plain_circuit x, is, pin) in
      let b = low (get_or x.pins.items k 0) (good.within.pins d k (get_or x.pins.items k 0) (plain_circuit x, is, pin)) in
      omega (arith, same, b, e)

pub closed_reached : (g : Netlist) (top : ℕ) (order : List ℕ) (marks : List Bool) → IsCallOrder (call_lists g) order → top < length g.circuits → AreReached g top marks
    → ((a k : ℕ) (row : CallRow) → IsCall g a k row → row.circuit < length g.circuits) → AreClosed g marks
closed_reached g top order marks is low h there a b m call =
    let c = (calls_law g a b).0 call in
    let a_low : a < length g.circuits = slice_get_within g.circuits a c.2.0 c.2.1 in
    let b_low : b < length g.circuits = let l = there a c.0 c.1 c.2 in let e = c.3 in omega (arith, l, e) in
    (h.each b b_low).1 (called_further g order is top a b ((h.each a a_low).0 m) call)

pub none_flat : (g : Netlist) (f : ℕ → FlatCircuit) (marks : List Bool) (order : List ℕ) (n : ℕ) (flats : List (Option CircuitRow)) → length flats ≡ length g.circuits → n ≡ 0 → AreFlatsBelow g f marks order n flats
none_flat g f marks order n flats long zeroed = record { long = long; done = λ j c l at m. absurd (omega (arith, l, zeroed)) }

module _ (g : Netlist) (goes : ℕ → Bool) (f : Flattening) (h : IsFlattening g goes f) (order : List ℕ) (is_order : IsCallOrder (call_lists g) order) (marks : List Bool) (closed : AreClosed g marks)
    (i c : ℕ) (at : slice_get order i ≡ Some c) (given : CircuitRow) (is : IsCircuit g c (plain_circuit given)) (flats : List (Option CircuitRow)) (so_far : AreFlatsBelow g f.flats marks order i flats) where
  pub there : (k : ℕ) (r : Call) → IsMarked marks c → slice_get given.calls.items k ≡ Some r → IsFlatThere flats (λ d. plain (f.flats d)) r
  there k r on e =
      let call : IsCall g c k (plain_call r) = (plain_circuit given, is, map_to plain_call given.calls.items k r e) in
      let calls : Calls (call_lists g) c r.circuit = (calls_law g c r.circuit).1 (k, plain_call r, call, refl) in
      let d = h.good.called c k (plain_call r) call in
      let p = place_before g order is_order i c r.circuit at calls in
      let has = so_far.done p.0 r.circuit p.1 p.2 (closed c r.circuit on calls) in
      let flat : IsCircuit f.flat r.circuit (plain_circuit has.inner) = subst (λ (z : Circuit). IsCircuit f.flat r.circuit z) (sym has.is) (h.are.there r.circuit d.0 d.1) in
      let good = flat_is_good g f.flat goes f.flats f.height h.good h.are in
      let pins : length d.0.pins ≡ length has.inner.pins.items = ap (λ (z : FlatCircuit). length z.pins) (sym (h.are.each r.circuit d.0 d.1)) ∙ ap (λ (z : Circuit). length z.pins) (sym has.is) in
      record {
        inner = has.inner;
        there = has.there;
        is = has.is;
        pins = let a = d.2 in let b = pins_low f.flat r.circuit has.inner flat f.height good (length has.inner.pins.items) refl in omega (arith, pins, a, b);
        devices = rows_low f.flat r.circuit has.inner flat f.height good;
        calls = calls_low f.flat r.circuit has.inner flat f.height good;
      }

  pub circuits_below : AreCircuitsBelow given.calls.items (length g.circuits)
  circuits_below k r e =
      let d = h.good.called c k (plain_call r) (plain_circuit given, is, map_to plain_call given.calls.items k r e) in
      slice_get_within g.circuits r.circuit d.0 d.1

  pub flat_more : (new : List (Option CircuitRow)) (x : CircuitRow) → plain_circuit x ≡ laid_out goes (λ d. plain (f.flats d)) (plain_circuit given) → new ≡ slice_set flats c (Some x) → AreFlatsBelow g f.flats marks order (i + 1) new
  flat_more new x made e =
      let low : c < length flats = let l = place_low g order is_order i c at in let k = so_far.long in omega (arith, l, k) in
      let set_long : length (slice_set flats c (Some x)) ≡ length flats = length-set flats c (Some x) in
      subst (λ (t : List (Option CircuitRow)). AreFlatsBelow g f.flats marks order (i + 1) t) (sym e) (record {
        long = set_long ∙ so_far.long;
        done = λ j a l here m. elim (ℕ_discrete j i) [
          | yes same ↦
              let s : Some a ≡ Some c = sym here ∙ (ap (λ (k : ℕ). slice_get order k) same ∙ at) in
              let k : a ≡ c = cc in
              subst (λ (y : ℕ). HasFlat f.flats (slice_set flats c (Some x)) y) (sym k) (record {
                inner = x;
                there = slice_get-get_or (slice_set flats c (Some x)) c None (omega (arith, low, set_long)) ∙ ap Some (get_or-set_same flats c (Some x) None low);
                is = made ∙ (sym (laid_law goes f.flats (plain_circuit given)) ∙ ap plain (sym (h.are.each c (plain_circuit given) is)));
              })
          | no not ↦
              let old = so_far.done j a (omega (arith, l, not)) here m in
              let other : a ≡ c → ⊥ = λ k. not (one_place g order is_order j i a here (at ∙ ap Some (sym k))) in
              let a_low : a < length flats = slice_get_within flats a (Some old.inner) old.there in
              record {
                inner = old.inner;
                there =
                    slice_get-get_or (slice_set flats c (Some x)) a None (omega (arith, a_low, set_long))
                    ∙ (ap Some (get_or-set_other flats c a (Some x) None other) ∙ ap Some (at_or flats a (Some old.inner) None old.there));
                is = old.is;
              }
        ];
      })

module _ (g : Netlist) (goes : ℕ → Bool) (f : Flattening) (h : IsFlattening g goes f) (order : List ℕ) (is_order : IsCallOrder (call_lists g) order) (marks : List Bool) (closed : AreClosed g marks)
    (i c : ℕ) (at : slice_get order i ≡ Some c) (flats : List (Option CircuitRow)) (so_far : AreFlatsBelow g f.flats marks order i flats) where
  pub flat_stays : slice_index_or marks c false ≡ false → AreFlatsBelow g f.flats marks order (i + 1) flats
  flat_stays off = record {
    long = so_far.long;
    done = λ j a l here m. elim (ℕ_discrete j i) [
      | yes same ↦
          let s : Some a ≡ Some c = sym here ∙ (ap (λ (k : ℕ). slice_get order k) same ∙ at) in
          let k : a ≡ c = cc in
          absurd (true≢false (sym m ∙ (ap (λ (y : ℕ). slice_index_or marks y false) k ∙ off)))
      | no not ↦ so_far.done j a (omega (arith, l, not)) here m
    ];
  }

pub all_flat : (g : Netlist) (f : ℕ → FlatCircuit) (marks : List Bool) (order : List ℕ) (n : ℕ) (flats : List (Option CircuitRow)) → IsCallOrder (call_lists g) order → length order ≤ n
    → AreFlatsBelow g f marks order n flats → AreFlats g f marks flats
all_flat g f marks order n flats is long h = record {
  long = h.long;
  each = λ c low m. let p = has_place g order is c low in h.done p.0 c (let w = slice_get_within order p.0 c p.1 in omega (arith, w, long)) p.1 m;
}
