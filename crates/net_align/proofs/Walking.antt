-- Walks along an order of calls.
use Rattle.std.proofs.Common.{◌≡◌, ◌≢◌, inl, inr, ◌↔◌, ℕ, zero, suc, ◌+◌, ◌<◌, ◌≤◌, Bool, true, false, List, [], ◌∷◌, ◌++◌, length, map, take, replicate, Some, slice_get, refl, sym, ◌∙◌, ap, subst, arith, true≢false}
use Rattle.base_laws.proofs.Items.{map_to, map_from}
use Rattle.std.proofs.lemmas.Bool.{cases_Bool, or_left, or_right, or_cases}
use Rattle.std.specs.Prelude.{slice_set, slice_index_or, ◌==◌, not}
use Rattle.std.specs.List.{list_any}
use Rattle.std.proofs.Math.Decide.{ℕ_discrete}
use Rattle.std.proofs.lemmas.Bool.Decides.{Decides-eqb}
use Rattle.std.proofs.lemmas.List.{get_or-set_same, get_or-set_other, length-set, length-replicate, length-map}
use Rattle.std.proofs.lemmas.Option.{slice_get_within}
use Rattle.plain_netlist.specs.Lists.{IsListed}
use Rattle.plain_netlist.specs.Netlist.{DeviceRow, CallRow as PlainCall, Circuit as PlainCircuit, Netlist, IsCircuit, IsCall, HasDevice}
use Rattle.plain_netlist.specs.Sound.{HasDevices, IsCallPath, IsCalledFrom}
use Rattle.plain_netlist.proofs.Listing.{apart_at}
use Rattle.plain_netlist.proofs.Members.{listed, position}
use Rattle.call_order.specs.Order.{Calls, AreInRange, IsCallOrder}
use Rattle.net_model.specs.Faults.{called_by, call_lists}
use Rattle.net_model.specs.Rows.{plain_circuit, plain_call}
use Rattle.net_model.specs.declared.netlist.Circuit.{Circuit}
use Rattle.net_model.specs.declared.netlist.CallRow.{CallRow}
use Rattle.net_model.specs.declared.netlist.DeviceRow.{DeviceRow as Device}
use Rattle.net_model.proofs.CallLemmas.{calls_law}
use Rattle.net_model.proofs.FirstLemmas.{any_listed, any_has}
use Rattle.net_model.specs.Rows.{plain_device}
use Rattle.net_align.specs.Marks.{AreCallsOfCircuits, marked}
use Rattle.net_align.specs.Walked.{IsMarked, AreReached, AreHolding, IsReaching, IsHoldingBelow, holds}
use Rattle.net_align.proofs.Finding.{taken}
use Rattle.net_align.proofs.Marking.{marked_long, marked_or, marked_stays, marked_is, set_or, set_is, none_set}

-- ---- the order

pub in_range : (nl : Netlist) → AreCallsOfCircuits nl → AreInRange (call_lists nl)
in_range nl there a b h =
    let c = (calls_law nl a b).0 h in
    let l = there a c.0 c.1 c.2 in
    let e = c.3 in
    let k = length-map nl.circuits called_by in
    omega (arith, l, e, k)

module _ (nl : Netlist) (order : List ℕ) (is : IsCallOrder (call_lists nl) order) where
  -- all that the circuit at a place calls stands before
  pub place_before : (i a b : ℕ) → slice_get order i ≡ Some a → Calls (call_lists nl) a b → (j : ℕ) × (j < i) × (slice_get order j ≡ Some b)
  place_before i a b at call =
      let p = position (take i order) b (is.behind i a b at call) in
      let t = taken order i p.0 b p.1 in
      (p.0, t.1, t.0)

  pub one_place : (i j a : ℕ) → slice_get order i ≡ Some a → slice_get order j ≡ Some a → i ≡ j
  one_place i j a h g = apart_at a order i j is.apart h g

  pub place_low : (i a : ℕ) → slice_get order i ≡ Some a → a < length nl.circuits
  place_low i a h = let l = is.within a (listed order i a h) in let k = length-map nl.circuits called_by in omega (arith, l, k)

  pub has_place : (a : ℕ) → a < length nl.circuits → (i : ℕ) × (slice_get order i ≡ Some a)
  has_place a low = position order a (is.all a (let k = length-map nl.circuits called_by in omega (arith, low, k)))

  -- ---- those called from the top

  pub first_reached : (top n : ℕ) (marks : List Bool) → top < length nl.circuits → marks ≡ slice_set (replicate (length nl.circuits) false) top true → n ≡ 0 → IsReaching nl top order n marks
  first_reached top n marks low e zeroed =
      let none = replicate (length nl.circuits) false in
      let long : length none ≡ length nl.circuits = length-replicate (length nl.circuits) false in
      let set_long : length (slice_set none top true) ≡ length none = length-set none top true in
      subst (λ (m : List Bool). IsReaching nl top order n m) (sym e) (record {
        long = set_long ∙ long;
        has_top = set_is none top (omega (arith, low, long));
        from = λ c h. elim (set_or none top c h) [
          | inl same ↦ ([], sym same)
          | inr m ↦ absurd (none_set (length nl.circuits) c m)
        ];
        done = λ j a b l at h call. absurd (let w = slice_get_within order j a at in omega (arith, w, l, zeroed));
      })

  path_more : (path : List ℕ) (c d e k : ℕ) (row : PlainCall) → IsCallPath nl c path d → IsCall nl d k row → row.circuit ≡ e → IsCallPath nl c (path ++ k ∷ []) e
  path_more [] c d e k row h call same = (row, subst (λ (x : ℕ). IsCall nl x k row) (sym h) call, same)
  path_more (p ∷ path) c d e k row (r, first, h) call same = (r, first, path_more path r.circuit d e k row h call same)

  pub called_further : (top a b : ℕ) → IsCalledFrom nl top a → Calls (call_lists nl) a b → IsCalledFrom nl top b
  called_further top a b (path, h) call =
      let c = (calls_law nl a b).0 call in
      (path ++ c.0 ∷ [], path_more path top a b c.0 c.1 h c.2 c.3)

  pub reach_step : (top n p a : ℕ) (marks new : List Bool) (given : PlainCircuit) → p + n + 1 ≡ length order → slice_get order p ≡ Some a → IsCircuit nl a given → AreCallsOfCircuits nl
      → IsReaching nl top order n marks → IsMarked marks a → new ≡ marked (called_by given) marks → IsReaching nl top order (n + 1) new
  reach_step top n p a marks new given count at circuit there h on e =
      let bs = called_by given in
      let calls : (b : ℕ) → IsListed b bs → Calls (call_lists nl) a b = λ b l.
      let q = position bs b l in
      let r = map_from (λ (x : PlainCall). x.circuit) given.calls q.0 b q.1 in
      (calls_law nl a b).1 (q.0, r.0, (given, circuit, r.1), r.2) in
      let low : (b : ℕ) → b < length nl.circuits → b < length marks = λ b l. let k = h.long in omega (arith, l, k) in
      let callee_low : (x b : ℕ) → Calls (call_lists nl) x b → b < length nl.circuits = λ x b call.
      let c = (calls_law nl x b).0 call in let l = there x c.0 c.1 c.2 in let s = c.3 in omega (arith, l, s) in
      subst (λ (m : List Bool). IsReaching nl top order (n + 1) m) (sym e) (record {
        long = marked_long bs marks ∙ h.long;
        has_top = marked_stays bs marks top (is_low marks top h.has_top) h.has_top;
        from = λ c m. elim (marked_or bs marks c m) [
          | inl l ↦ called_further top a c (h.from a on) (calls c l)
          | inr old ↦ h.from c old
        ];
        done = λ j x b l here m call.
            let b_low : b < length marks = low b (callee_low x b call) in
            elim (ℕ_discrete j p) [
              | yes same ↦
                  let s : Some x ≡ Some a = sym here ∙ (ap (λ (i : ℕ). slice_get order i) same ∙ at) in
                  let k : x ≡ a = cc in
                  let c = (calls_law nl x b).0 call in
                  let given_same : Some c.2.0 ≡ Some given = sym c.2.1 ∙ (ap (λ (i : ℕ). slice_get nl.circuits i) k ∙ circuit) in
                  let g : c.2.0 ≡ given = cc in
                  let in_given : IsListed c.1.circuit bs = listed bs c.0 c.1.circuit (map_to (λ (y : PlainCall). y.circuit) given.calls c.0 c.1 (subst (λ (y : PlainCircuit). slice_get y.calls c.0 ≡ Some c.1) g c.2.2)) in
                  marked_is bs marks b b_low (subst (λ (y : ℕ). IsListed y bs) c.3 in_given)
              | no not ↦
                  let later : p < j = omega (arith, count, l, not) in
                  elim (marked_or bs marks x m) [
                    | inl new ↦
                        let q = place_before p a x at (calls x new) in
                        let one = one_place q.0 j x q.2 here in
                        let k = q.1 in
                        absurd (omega (arith, one, k, later))
                    | inr old ↦ marked_stays bs marks b b_low (h.done j x b (omega (arith, later, count)) here old call)
                  ]
            ];
      })
    where
      is_low : (ms : List Bool) (c : ℕ) → IsMarked ms c → c < length ms
      is_low [] zero m = absurd (true≢false (sym m))
      is_low [] (suc c) m = absurd (true≢false (sym m))
      is_low (x ∷ ms) zero m = omega arith
      is_low (x ∷ ms) (suc c) m = let l = is_low ms c m in omega arith

  pub reach_stays : (top n p a : ℕ) (marks : List Bool) → p + n + 1 ≡ length order → slice_get order p ≡ Some a → IsReaching nl top order n marks → slice_index_or marks a false ≡ false
      → IsReaching nl top order (n + 1) marks
  reach_stays top n p a marks count at h off = record {
    long = h.long;
    has_top = h.has_top;
    from = h.from;
    done = λ j x b l here m call. elim (ℕ_discrete j p) [
      | yes same ↦
          let s : Some x ≡ Some a = sym here ∙ (ap (λ (i : ℕ). slice_get order i) same ∙ at) in
          let k : x ≡ a = cc in
          absurd (true≢false (sym m ∙ (ap (λ (i : ℕ). slice_index_or marks i false) k ∙ off)))
      | no not ↦ h.done j x b (omega (arith, count, l, not)) here m call
    ];
  }

  pub all_reached : (top n : ℕ) (marks : List Bool) → length order ≤ n → top < length nl.circuits → IsReaching nl top order n marks → AreReached nl top marks
  all_reached top n marks long low h = record { long = h.long; each = λ c l. (h.from c, λ path. down path.0 top c h.has_top low path.1) }
    where
      down : (path : List ℕ) (a c : ℕ) → IsMarked marks a → a < length nl.circuits → IsCallPath nl a path c → IsMarked marks c
      down [] a c m l e = subst (λ (x : ℕ). IsMarked marks x) e m
      down (k ∷ path) a c m l (row, call, e) =
          let place = has_place a l in
          let calls : Calls (call_lists nl) a row.circuit = (calls_law nl a row.circuit).1 (k, row, call, refl) in
          let below = place_before place.0 a row.circuit place.1 calls in
          down path row.circuit c (h.done place.0 a row.circuit (omega (arith, long)) place.1 m calls) (place_low below.0 row.circuit below.2) e

  -- ---- those with devices

  pub none_hold : (n : ℕ) (marks : List Bool) → marks ≡ replicate (length nl.circuits) false → n ≡ 0 → IsHoldingBelow nl order n marks
  none_hold n marks e zeroed = record {
    long = ap (λ (m : List Bool). length m) e ∙ length-replicate (length nl.circuits) false;
    done = λ j a l at. absurd (omega (arith, l, zeroed));
  }

  some_device : (xs : List Device) → not (length xs == 0) ≡ true → (x : Device) × (slice_get xs 0 ≡ Some x)
  some_device [] e = absurd (true≢false (sym e))
  some_device (x ∷ xs) e = (x, refl)

  has_some : (xs : List DeviceRow) (ys : List Device) (i : ℕ) (x : DeviceRow) → xs ≡ map plain_device ys → slice_get xs i ≡ Some x → not (length ys == 0) ≡ true
  has_some xs [] i x same e = let z : slice_get [] i ≡ Some x = ap (λ (t : List DeviceRow). slice_get t i) (sym same) ∙ e in absurd (let w : ⊥ = cc in w)
  has_some xs (y ∷ ys) i x same e = elim (cases_Bool (length (y ∷ ys) == 0)) [
    | inl t ↦ let z : suc (length ys) ≡ 0 = (Decides-eqb (length (y ∷ ys)) 0).0 t in absurd (omega (arith, z))
    | inr f ↦ ap not f
  ]

  module _ (n a : ℕ) (marks : List Bool) (given : Circuit) (at : slice_get order n ≡ Some a) (circuit : IsCircuit nl a (plain_circuit given)) (h : IsHoldingBelow nl order n marks) where
    abbrev on : CallRow → Bool
    on r = slice_index_or marks r.circuit false

    below : (k : ℕ) (row : PlainCall) → IsCall nl a k row → IsMarked marks row.circuit ↔ HasDevices nl row.circuit
    below k row call =
        let p = place_before n a row.circuit at ((calls_law nl a row.circuit).1 (k, row, call, refl)) in
        h.done p.0 row.circuit p.1 p.2

    holds_so : holds marks given ≡ true → HasDevices nl a
    holds_so e = elim (or_cases (not (length given.devices.items == 0)) (list_any on given.calls.items) e) [
      | inl some ↦
          let d = some_device given.devices.items some in
          ([], 0, plain_device d.0, (plain_circuit given, circuit, map_to plain_device given.devices.items 0 d.0 d.1))
      | inr any ↦
          let r = any_has on given.calls.items any in
          let p = position given.calls.items r.0 r.1 in
          let call : IsCall nl a p.0 (plain_call r.0) = (plain_circuit given, circuit, map_to plain_call given.calls.items p.0 r.0 p.1) in
          let d = (below p.0 (plain_call r.0) call).0 r.2 in
          (p.0 ∷ d.0, d.1, d.2, (plain_call r.0, call, d.3))
    ]

    so_holds : (path : List ℕ) (i : ℕ) (row : DeviceRow) → HasDevice nl a path i row → holds marks given ≡ true
    so_holds [] i row has =
        let s : Some has.0 ≡ Some (plain_circuit given) = sym has.1 ∙ circuit in
        let g : has.0 ≡ plain_circuit given = cc in
        or_left (not (length given.devices.items == 0)) (list_any on given.calls.items)
        (has_some has.0.devices given.devices.items i row (ap (λ (c : PlainCircuit). c.devices) g) has.2)
    so_holds (k ∷ path) i row (call, is_call, has) =
        let s : Some is_call.0 ≡ Some (plain_circuit given) = sym is_call.1 ∙ circuit in
        let g : is_call.0 ≡ plain_circuit given = cc in
        let r = map_from plain_call given.calls.items k call (subst (λ (c : PlainCircuit). slice_get c.calls k ≡ Some call) g is_call.2) in
        let marked_below = (below k call is_call).1 (path, i, row, has) in
        let on_r : on r.0 ≡ true = ap (λ (c : PlainCall). slice_index_or marks c.circuit false) r.2 ∙ marked_below in
        or_right (not (length given.devices.items == 0)) (list_any on given.calls.items) (any_listed on given.calls.items r.0 (listed given.calls.items k r.0 r.1) on_r)

    pub hold_step : (new : List Bool) → new ≡ slice_set marks a (holds marks given) → IsHoldingBelow nl order (n + 1) new
    hold_step new e = subst (λ (m : List Bool). IsHoldingBelow nl order (n + 1) m) (sym e) (record {
      long = length-set marks a (holds marks given) ∙ h.long;
      done = λ j x l here. elim (ℕ_discrete j n) [
        | yes same ↦
            let s : Some x ≡ Some a = sym here ∙ (ap (λ (i : ℕ). slice_get order i) same ∙ at) in
            let k : x ≡ a = cc in
            let low : a < length marks = let w = place_low n a at in let v = h.long in omega (arith, w, v) in
            let value : slice_index_or (slice_set marks a (holds marks given)) x false ≡ holds marks given
            = ap (λ (i : ℕ). slice_index_or (slice_set marks a (holds marks given)) i false) k ∙ get_or-set_same marks a (holds marks given) false low in (
              (λ m. subst (λ (i : ℕ). HasDevices nl i) (sym k) (holds_so (sym value ∙ m))),
              (λ d. value ∙ (let w : HasDevices nl a = subst (λ (i : ℕ). HasDevices nl i) k d in so_holds w.0 w.1 w.2 w.3)),
            )
        | no not ↦
            let other : x ≢ a = λ k. not (one_place j n a (here ∙ ap Some k) at) in
            let value : slice_index_or (slice_set marks a (holds marks given)) x false ≡ slice_index_or marks x false = get_or-set_other marks a x (holds marks given) false other in
            let old = h.done j x (omega (arith, l, not)) here in
            ((λ m. old.0 (sym value ∙ m)), (λ d. value ∙ old.1 d))
      ];
    })

  pub all_hold : (n : ℕ) (marks : List Bool) → length order ≤ n → IsHoldingBelow nl order n marks → AreHolding nl marks
  all_hold n marks long h = record {
    long = h.long;
    each = λ c low. let p = has_place c low in h.done p.0 c (let w = slice_get_within order p.0 c p.1 in omega (arith, w, long)) p.1;
  }
