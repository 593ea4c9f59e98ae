-- The places in an order with callees first are a height, with which a side is made.
use Rattle.std.proofs.Common.{◌≡◌, ℕ, ◌<◌, Bool, List, Some, slice_get, refl, arith}
use Rattle.std.specs.Prelude.{not, ◌&&◌, slice_index_or, false}
use Rattle.std.proofs.lemmas.Option.{slice_get_within}
use Rattle.call_order.specs.Order.{IsCallOrder}
use Rattle.plain_netlist.specs.Netlist.{CallRow, Netlist, IsCall}
use Rattle.plain_netlist.specs.Sound.{IsGood, IsSoundNetlist}
use Rattle.net_model.specs.Faults.{call_lists}
use Rattle.net_model.proofs.CallLemmas.{calls_law}
use Rattle.net_align.specs.Compared.{IsAlignable}
use Rattle.net_align.specs.Kept.{Flattened}
use Rattle.net_align.specs.Marks.{AreCallsOfCircuits}
use Rattle.net_align.specs.Side.{IsGiven}
use Rattle.net_align.specs.Sights.{has_number, place_in}
use Rattle.net_align.proofs.Existing.{flattening_of, is_flattening}
use Rattle.net_align.proofs.Firsts.{place_is}
use Rattle.net_align.proofs.Walking.{place_before, one_place, has_place}

pub calls_there : (nl : Netlist) → IsSoundNetlist nl → AreCallsOfCircuits nl
calls_there nl sound c k row call = let d = sound.calls c k row call in slice_get_within nl.circuits row.circuit d.0 d.1

-- the circuits that go
abbrev pub going : List ℕ → List Bool → ℕ → Bool
going circuits holds c = not (has_number circuits c) && slice_index_or holds c false

-- what the tables of a side stand for
abbrev pub given_side : Netlist → List ℕ → List Bool → List Bool → List ℕ → Flattened
given_side nl order marks holds circuits = record {
  netlist = nl;
  goes = going circuits holds;
  marks = marks;
  flattening = flattening_of nl (place_in order) (going circuits holds);
}

module _ (nl : Netlist) (h : IsAlignable nl) (order : List ℕ) (is : IsCallOrder (call_lists nl) order) where
  place_of : (i c : ℕ) → slice_get order i ≡ Some c → place_in order c ≡ i
  place_of i c at = place_is order i c (λ j k n a b. one_place nl order is j k n a b) at

  lower : (c k : ℕ) (row : CallRow) → IsCall nl c k row → place_in order row.circuit < place_in order c
  lower c k row call =
      let p = has_place nl order is c (slice_get_within nl.circuits c call.0 call.1) in
      let q = place_before nl order is p.0 c row.circuit p.1 ((calls_law nl c row.circuit).1 (k, row, call, refl)) in
      let e = place_of p.0 c p.1 in
      let f = place_of q.0 row.circuit q.2 in
      let l = q.1 in
      omega (arith, e, f, l)

  good_in_order : IsGood nl (place_in order)
  good_in_order = record {
    within = h.sound.nets;
    called = h.sound.calls;
    lower = lower;
    pins = λ c i n (x, at, e). (h.normal c x at).pins i n e;
  }

  pub is_given : (marks holds : List Bool) (circuits : List ℕ) → IsGiven nl order marks holds circuits (given_side nl order marks holds circuits)
  is_given marks holds circuits = record {
    netlist = refl;
    marks_are = refl;
    goes_are = λ c. refl;
    flattened = is_flattening nl (place_in order) good_in_order (going circuits holds);
    heights = place_of;
  }
