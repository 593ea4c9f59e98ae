-- Calls and cycles of a netlist are those of its lists of calls.
use Rattle.std.proofs.Common.{◌≡◌, inl, inr, ◌↔◌, ℕ, zero, suc, List, [], ◌∷◌, map, Some, slice_get, refl, sym, ap, subst}
use Rattle.std.specs.Prelude.{slice_index_or}
use Rattle.plain_netlist.specs.Lists.{IsListed}
use Rattle.plain_netlist.specs.Chains.{IsChain, Reaches}
use Rattle.plain_netlist.specs.Netlist.{CallRow, Circuit, Netlist, IsCall}
use Rattle.plain_netlist.specs.Sound.{IsCallPath, IsInCycle}
use Rattle.call_order.specs.Order.{Calls, ReachesItself}
use Rattle.net_model.specs.Faults.{called_by, call_lists}

-- the list of circuit a
row_of : (cs : List Circuit) (a : ℕ) (x : Circuit) → slice_get cs a ≡ Some x → slice_index_or (map called_by cs) a [] ≡ called_by x
row_of [] a x e = let z : ⊥ = cc in absurd z
row_of (c ∷ cs) zero x e = let same : c ≡ x = cc in ap called_by same
row_of (c ∷ cs) (suc a) x e = row_of cs a x e

circuit_of : (cs : List Circuit) (a b : ℕ) → IsListed b (slice_index_or (map called_by cs) a []) → (x : Circuit) × (slice_get cs a ≡ Some x) × IsListed b (called_by x)
circuit_of [] a b h = absurd h
circuit_of (c ∷ cs) zero b h = (c, refl, h)
circuit_of (c ∷ cs) (suc a) b h = circuit_of cs a b h

called : (rows : List CallRow) (k : ℕ) (row : CallRow) → slice_get rows k ≡ Some row → IsListed row.circuit (map (λ (r : CallRow). r.circuit) rows)
called [] k row e = let z : ⊥ = cc in absurd z
called (r ∷ rows) zero row e = inl (let same : row ≡ r = cc in ap (λ (x : CallRow). x.circuit) same)
called (r ∷ rows) (suc k) row e = inr (called rows k row e)

caller : (rows : List CallRow) (b : ℕ) → IsListed b (map (λ (r : CallRow). r.circuit) rows) → (k : ℕ) × (row : CallRow) × (slice_get rows k ≡ Some row) × (row.circuit ≡ b)
caller [] b h = absurd h
caller (r ∷ rows) b (inl e) = (0, r, refl, sym e)
caller (r ∷ rows) b (inr h) = let f = caller rows b h in (suc f.0, f.1, f.2, f.3)

module _ (nl : Netlist) where
  pub to_list : (a k : ℕ) (row : CallRow) → IsCall nl a k row → Calls (call_lists nl) a row.circuit
  to_list a k row (x, is, e) = subst (λ ks. IsListed row.circuit ks) (sym (row_of nl.circuits a x is)) (called x.calls k row e)

  pub from_list : (a b : ℕ) → Calls (call_lists nl) a b → (k : ℕ) × (row : CallRow) × IsCall nl a k row × (row.circuit ≡ b)
  from_list a b h =
      let c = circuit_of nl.circuits a b h in
      let r = caller c.0.calls b c.2 in
      (r.0, r.1, (c.0, c.1, r.2), r.3)

  path_chain : (ks : List ℕ) (a b : ℕ) → IsCallPath nl a ks b → Reaches (Calls (call_lists nl)) a b
  path_chain [] a b h = record { via = []; chain = h }
  path_chain (k ∷ ks) a b (row, call, h) =
      let rest = path_chain ks row.circuit b h in
      record { via = row.circuit ∷ rest.via; chain = (to_list a k row call, rest.chain) }

  chain_path : (via : List ℕ) (a b : ℕ) → IsChain (Calls (call_lists nl)) a via b → (ks : List ℕ) × IsCallPath nl a ks b
  chain_path [] a b h = ([], h)
  chain_path (x ∷ via) a b h =
      let c = from_list a x h.0 in
      let rest = chain_path via x b h.1 in
      (c.0 ∷ rest.0, (c.1, c.2, subst (λ m. IsCallPath nl m rest.0 b) (sym c.3) rest.1))

  pub in_cycle : (k : ℕ) → ReachesItself (call_lists nl) k → IsInCycle nl k
  in_cycle k r =
      let c = from_list k r.first r.called in
      let rest = chain_path r.back.via r.first k r.back.chain in
      (c.0, rest.0, (c.1, c.2, subst (λ m. IsCallPath nl m rest.0 k) (sym c.3) rest.1))

  pub reaches : (k : ℕ) → IsInCycle nl k → ReachesItself (call_lists nl) k
  reaches k (j, ks, (row, call, h)) = record { first = row.circuit; called = to_list k j row call; back = path_chain ks row.circuit k h }

pub calls_law : (nl : Netlist) (a b : ℕ) → Calls (call_lists nl) a b ↔ ((k : ℕ) × (row : CallRow) × IsCall nl a k row × (row.circuit ≡ b))
calls_law nl a b = (
  from_list nl a b,
  λ (k, row, call, e). subst (λ m. Calls (call_lists nl) a m) e (to_list nl a k row call),
)

pub cycles_law : (nl : Netlist) (k : ℕ) → ReachesItself (call_lists nl) k ↔ IsInCycle nl k
cycles_law nl k = (in_cycle nl k, reaches nl k)
