-- Sizes of circuits with others in them, found callees first.
use Rattle.std.proofs.Common.{◌≡◌, ◌⊎◌, inl, inr, ℕ, zero, suc, ◌+◌, ◌<◌, ◌≤◌, List, [], ◌∷◌, length, take, Bool, false, cond, Some, slice_get, refl, sym, ap, subst, ◌∙◌, arith}
use Rattle.base_laws.proofs.Items.{map_to}
use Rattle.std.specs.Prelude.{replicate, slice_index_or, slice_set}
use Rattle.std.specs.List.{All, sum_by}
use Rattle.std.proofs.Math.Decide.{ℕ_discrete}
use Rattle.std.proofs.lemmas.List.{get_or-set_other, get_or-set_same, length-map, length-replicate, length-set}
use Rattle.std.proofs.lemmas.List.Elements.{All-replicate, All-set}
use Rattle.std.proofs.lemmas.List.Sums.{sum_by-cons}
use Rattle.std.proofs.lemmas.Option.{slice_get_within, get_or_from_slice_get}
use Rattle.call_order.specs.Order.{Calls, IsCallOrder}
use Rattle.net_model.specs.Faults.{call_lists, called_by}
use Rattle.plain_netlist.specs.Lists.{IsListed}
use Rattle.plain_netlist.specs.Netlist.{CallRow, Circuit, Netlist, IsCircuit}
use Rattle.plain_netlist.proofs.Listing.{apart_at}
use Rattle.plain_netlist.proofs.Members.{listed, position}
use Rattle.pair_turns.specs.Limit.{AreSizes, call_rows, capped, rows_of}
use Rattle.pair_turns.proofs.Lists.{on_map}

-- what stands in the order is a circuit
pub in_order : (nl : Netlist) (order : List ℕ) → IsCallOrder (call_lists nl) order → (i a : ℕ) → slice_get order i ≡ Some a → a < length nl.circuits
in_order nl order is i a h = let l = is.within a (listed order i a h) in let k = length-map nl.circuits called_by in omega (arith, l, k)

-- the sizes of the first n circuits of the order
pub record AreSizesBelow (nl : Netlist) (goes : List Bool) (order : List ℕ) (n : ℕ) (sizes : List ℕ) : Type 0 where
  pub long : length sizes ≡ length nl.circuits
  pub low : All (λ n. n ≤ 16777217) sizes
  pub done : (j a : ℕ) (c : Circuit) → j < n → slice_get order j ≡ Some a → IsCircuit nl a c → slice_index_or sizes a 0 ≡ capped (rows_of goes sizes c)

pub capped_low : (n : ℕ) → capped n ≤ 16777217
capped_low n = grind arith

-- a sum that is cut off in between is the same in the end
pub capped_more : (a b : ℕ) → capped (capped a + b) ≡ capped (a + b)
capped_more a b = grind arith

-- a call more
pub rows_more : (goes : List Bool) (sizes : List ℕ) (rows : ℕ) (r : CallRow) (rs : List CallRow) (all : ℕ)
    → capped (rows + sum_by (call_rows goes sizes) (r ∷ rs)) ≡ all → capped (capped (rows + call_rows goes sizes r) + sum_by (call_rows goes sizes) rs) ≡ all
rows_more goes sizes rows r rs all e =
    let f = call_rows goes sizes in
    capped_more (rows + f r) (sum_by f rs) ∙ ap capped (let s = sum_by-cons f r rs in let g : rows + f r + sum_by f rs ≡ rows + sum_by f (r ∷ rs) = omega (arith, s) in g) ∙ e

-- rows that don't call what is set stay as they are
sum_same : (goes : List Bool) (sizes new : List ℕ) (calls : List CallRow)
    → ((r : CallRow) → IsListed r calls → slice_index_or new r.circuit 0 ≡ slice_index_or sizes r.circuit 0)
    → sum_by (call_rows goes new) calls ≡ sum_by (call_rows goes sizes) calls
sum_same goes sizes new [] same = refl
sum_same goes sizes new (r ∷ rs) same =
    sum_by-cons (call_rows goes new) r rs
    ∙ ap (λ (n : ℕ). here n + sum_by (call_rows goes new) rs) (same r (inl refl))
    ∙ ap (λ (n : ℕ). call_rows goes sizes r + n) (sum_same goes sizes new rs (λ s h. same s (inr h)))
    ∙ sym (sum_by-cons (call_rows goes sizes) r rs)
  where
    here : ℕ → ℕ
    here n = cond (slice_index_or goes r.circuit false) n 1

rows_same : (goes : List Bool) (sizes new : List ℕ) (c : Circuit)
    → ((r : CallRow) → IsListed r c.calls → slice_index_or new r.circuit 0 ≡ slice_index_or sizes r.circuit 0)
    → capped (rows_of goes new c) ≡ capped (rows_of goes sizes c)
rows_same goes sizes new c same = ap (λ (n : ℕ). capped (length c.devices + n)) (sum_same goes sizes new c.calls same)

-- a call is one of the lists
called : (nl : Netlist) (a : ℕ) (c : Circuit) (r : CallRow) → IsCircuit nl a c → IsListed r c.calls → Calls (call_lists nl) a r.circuit
called nl a c r is h =
    let at = map_to called_by nl.circuits a c is in
    subst (λ (xs : List ℕ). IsListed r.circuit xs) (sym (get_or_from_slice_get (call_lists nl) a (called_by c) [] at)) (on_map (λ (s : CallRow). s.circuit) c.calls r h)

-- what stands among the first i stands before place i
place_in_take : (xs : List ℕ) (i a : ℕ) → IsListed a (take i xs) → (j : ℕ) × (j < i) × (slice_get xs j ≡ Some a)
place_in_take [] zero a h = absurd h
place_in_take [] (suc i) a h = absurd h
place_in_take (x ∷ xs) zero a h = absurd h
place_in_take (x ∷ xs) (suc i) a (inl e) = (zero, omega arith, ap Some (sym e))
place_in_take (x ∷ xs) (suc i) a (inr h) = let r = place_in_take xs i a h in let lt = r.1 in (suc r.0, omega (arith, lt), r.2)

module _ (nl : Netlist) (goes : List Bool) (order : List ℕ) (is_order : IsCallOrder (call_lists nl) order) (n a : ℕ) (c : Circuit) (sizes : List ℕ) (at : slice_get order n ≡ Some a) (is : IsCircuit nl a c)
    (h : AreSizesBelow nl goes order n sizes) where
  abbrev pub new : List ℕ
  new = slice_set sizes a (capped (rows_of goes sizes c))

  in_range : a < length sizes
  in_range = let k = slice_get_within nl.circuits a c is in let l = h.long in omega (arith, k, l)

  -- what a circuit at a place up to this calls isn't this one
  other : (j b : ℕ) (d : Circuit) → j ≤ n → slice_get order j ≡ Some b → IsCircuit nl b d → (r : CallRow) → IsListed r d.calls → r.circuit ≡ a → ⊥
  other j b d le there also r l e =
      let before = place_in_take order j r.circuit (is_order.behind j b r.circuit there (called nl b d r also l)) in
      let same = apart_at a order before.0 n is_order.apart (before.2 ∙ ap Some e) at in
      let lt = before.1 in omega (arith, same, lt, le)

  stays : (j b : ℕ) (d : Circuit) → j ≤ n → slice_get order j ≡ Some b → IsCircuit nl b d → capped (rows_of goes new d) ≡ capped (rows_of goes sizes d)
  stays j b d le there also = rows_same goes sizes new d (λ r l. get_or-set_other sizes a r.circuit _ 0 (λ e. other j b d le there also r l e))

  done_new : (j b : ℕ) (d : Circuit) → j < n + 1 → slice_get order j ≡ Some b → IsCircuit nl b d → (b ≡ a) ⊎ (b ≡ a → ⊥) → slice_index_or new b 0 ≡ capped (rows_of goes new d)
  done_new j b d lt there also (inl e) =
      let place : j ≡ n = apart_at a order j n is_order.apart (there ∙ ap Some e) at in
      let same : d ≡ c = (let f : slice_get nl.circuits a ≡ Some d = subst (λ (i : ℕ). IsCircuit nl i d) e also in cc) in
      ap (λ (i : ℕ). slice_index_or new i 0) e ∙ get_or-set_same sizes a _ 0 in_range ∙ ap (λ (x : Circuit). capped (rows_of goes sizes x)) (sym same)
      ∙ sym (stays j b d (omega (arith, lt)) there also)
  done_new j b d lt there also (inr e) =
      let early : j < n = before j b lt there e in
      get_or-set_other sizes a b _ 0 e ∙ h.done j b d early there also ∙ sym (stays j b d (omega (arith, lt)) there also)
    where
      before : (j b : ℕ) → j < n + 1 → slice_get order j ≡ Some b → (b ≡ a → ⊥) → j < n
      before j b lt there e = elim (ℕ_discrete j n) [
        | yes f ↦ absurd (e (let g : Some b ≡ Some a = sym there ∙ ap (λ (i : ℕ). slice_get order i) f ∙ at in cc))
        | no f ↦ omega (arith, lt, f)
      ]

  either : (x y : ℕ) → (x ≡ y) ⊎ (x ≡ y → ⊥)
  either x y = elim (ℕ_discrete x y) [ yes e ↦ inl e | no e ↦ inr e ]

  pub sized_more : AreSizesBelow nl goes order (n + 1) new
  sized_more = record {
    long = length-set sizes a (capped (rows_of goes sizes c)) ∙ h.long;
    low = All-set (λ n. n ≤ 16777217) sizes a (capped (rows_of goes sizes c)) (capped_low (rows_of goes sizes c)) h.low;
    done = λ j b d lt there also. done_new j b d lt there also (either b a);
  }

pub all_sized : (nl : Netlist) (goes : List Bool) (order : List ℕ) → IsCallOrder (call_lists nl) order → (n : ℕ) (sizes : List ℕ) → length order ≤ n → AreSizesBelow nl goes order n sizes → AreSizes nl goes sizes
all_sized nl goes order is_order n sizes all h = record {
  long = h.long;
  each = λ a c is.
      let within = slice_get_within nl.circuits a c is in
      let long = length-map nl.circuits called_by in
      let p = position order a (is_order.all a (omega (arith, within, long))) in
      let lt = slice_get_within order p.0 a p.1 in
      h.done p.0 a c (omega (arith, lt, all)) p.1 is;
}

pub none_sized : (nl : Netlist) (goes : List Bool) (order : List ℕ) → AreSizesBelow nl goes order 0 (replicate (length nl.circuits) 0)
none_sized nl goes order = record {
  long = length-replicate (length nl.circuits) 0;
  low = All-replicate (λ n. n ≤ 16777217) (length nl.circuits) 0 (omega arith);
  done = λ j a c lt. absurd (omega (arith, lt));
}
