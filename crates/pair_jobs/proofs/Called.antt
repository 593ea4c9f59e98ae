-- The pairs that a circuit calls, as an ascending list.
use Rattle.std.proofs.Common.{◌≡◌, ℕ, ◌+◌, ◌<◌, ◌==◌, ◌||◌, Result, Ok, Err, IfOk, true, List, [], ◌∷◌, ◌++◌, map, length, get_or, slice_get, slice_index, Some, refl, sym, ◌∙◌, ap, subst, arith}
use Rattle.base_laws.proofs.Tests.{turned_test, same_truth}
use Rattle.std.proofs.Math.Decide.{ℕ_discrete}
use Rattle.std.proofs.lemmas.List.{get_or_append_left, get_or_default, get_or_push, length-append, length-map}
use Rattle.std.proofs.lemmas.List.Kept.{Contains-dedup_nat, Contains-from_dedup}
use Rattle.std.proofs.lemmas.List.Sorted.{Contains-permutation, IsPermutation-sym}
use Rattle.std.proofs.lemmas.Map.Keys.{IsStrictlyIncreasing-dedup}
use Rattle.std.proofs.lemmas.Option.{slice_get-map, slice_get_within, slice_get-get_or}
use Rattle.std.specs.Option.{option_map}
use Rattle.std.specs.List.{Contains, dedup, list_any}
use Rattle.std.specs.List.Sorted.{IsPermutation, IsSorted}
use Rattle.std.specs.Ordering.{nat_cmp}
use Rattle.std.specs.Prelude.{nat_eq}
use Rattle.plain_netlist.specs.Netlist.{CallRow as PlainCall, Circuit, Netlist, IsCircuit}
use Rattle.plain_netlist.specs.Sound.{IsGood}
use Rattle.composed_laws.proofs.Fitting.{any_listed}
use Rattle.composed_laws.specs.Answered.{is_called}
use Rattle.job_graph.proofs.Inputs.{item_has}
use Rattle.job_graph.proofs.Over.{ascend_law, place_of}
use Rattle.job_graph.specs.Graph.{AreLower, has, inputs_of}
use Rattle.net_model.specs.Rows.{plain_call, plain_circuit, plain_netlist}
use Rattle.net_model.specs.declared.netlist.Circuit.{Circuit as RowsCircuit}
use Rattle.net_model.specs.declared.netlist.Netlist.{Netlist as RowsNetlist}
use Rattle.net_model.specs.declared.netlist.CallRow.{CallRow}
use Rattle.pair_jobs.specs.Jobs.{AreCalled, AreCalledBelow, AreCalledJobs}

pub has_calls : (q : ℕ) (rows : List CallRow) → has q (map (λ (r : CallRow). r.circuit) rows) ≡ list_any (λ (r : PlainCall). r.circuit == q) (map plain_call rows)
has_calls q [] = refl
has_calls q (r ∷ rows) = ap (λ t. t || has q (map (λ (s : CallRow). s.circuit) rows)) (turned_test q r.circuit) ∙ ap (λ t. (r.circuit == q) || t) (has_calls q rows)

contained : (xs : List ℕ) (x : ℕ) → has x xs ≡ true → Contains xs x
contained xs x h = let p = place_of xs x h in (p.0, p.1, get_or_default xs p.0 x 0 p.1 ∙ p.2)

has_contained : (xs : List ℕ) (x : ℕ) → Contains xs x → has x xs ≡ true
has_contained xs x c = subst (λ y. has y xs ≡ true) c.2 (item_has xs c.0 x c.1)

-- sorted and each once, the numbers are the same
pub has_once : (xs sorted : List ℕ) → IsPermutation xs sorted → (q : ℕ) → has q (dedup nat_eq sorted) ≡ has q xs
has_once xs sorted p q = same_truth (has q (dedup nat_eq sorted)) (has q xs)
    (λ h. has_contained xs q (Contains-permutation sorted xs q (IsPermutation-sym xs sorted p) (Contains-from_dedup nat_eq sorted q (contained (dedup nat_eq sorted) q h))))
    (λ h. has_contained (dedup nat_eq sorted) q (Contains-dedup_nat sorted q (Contains-permutation xs sorted q p (contained xs q h))))

pub called_once : (c : Circuit) (xs sorted : List ℕ) → ((q : ℕ) → has q xs ≡ is_called c q) → IsPermutation xs sorted → IsSorted nat_cmp sorted → AreCalled c (dedup nat_eq sorted)
called_once c xs sorted all p s = record {
  rising = IsStrictlyIncreasing-dedup sorted s;
  all = λ q. has_once xs sorted p q ∙ all q;
}

-- the number of circuits
pub count_of : (nl : RowsNetlist) → length (plain_netlist nl).circuits ≡ length nl.circuits.items
count_of nl = length-map nl.circuits.items plain_circuit

-- a circuit by its number
pub circuit_at : (nl : RowsNetlist) (k : ℕ) (d : RowsCircuit) → k < length nl.circuits.items → IsCircuit (plain_netlist nl) k (plain_circuit (get_or nl.circuits.items k d))
circuit_at nl k d lt = slice_get-map plain_circuit nl.circuits.items k ∙ ap (option_map plain_circuit) (slice_get-get_or nl.circuits.items k d lt)

-- one circuit more
pub called_more : (left : Netlist) (n : ℕ) (graph : List (List ℕ)) (c : Circuit) (called : List ℕ) → IsCircuit left n c → AreCalled c called → AreCalledBelow left n graph → AreCalledBelow left (n + 1) (graph ++ called ∷ [])
called_more left n graph c called is h g = record {
  count = (let a = length-append graph (called ∷ []) in let b = g.count in omega (arith, a, b));
  each = λ k d lt at. elim (ℕ_discrete k n) [
    | yes e ↦
        let same : d ≡ c = (let f : Some d ≡ Some c = sym at ∙ (ap (slice_get left.circuits) e ∙ is) in cc) in
        let here : get_or (graph ++ called ∷ []) k [] ≡ called =
        ap (λ i. get_or (graph ++ called ∷ []) i []) e ∙ get_or_push graph called [] n g.count in
        subst (λ (xs : List ℕ). AreCalled d xs) (sym here) (subst (λ (x : Circuit). AreCalled x called) (sym same) h)
    | no m ↦
        let low : k < n = omega (arith, lt, m) in
        let count = g.count in
        let there : get_or (graph ++ called ∷ []) k [] ≡ get_or graph k [] = get_or_append_left graph (called ∷ []) [] k (omega (arith, low, count)) in
        subst (λ (xs : List ℕ). AreCalled d xs) (sym there) (g.each k d low at)
  ];
}

-- what a circuit calls stands before it
pub called_lower : (left : Netlist) (n : ℕ) (graph : List (List ℕ)) → IsGood left (λ k. k) → n ≡ length left.circuits → AreCalledBelow left n graph → AreLower graph
called_lower left n graph good e g job lt = ascend_law (inputs_of graph job) job here.rising (λ k l. below (slice_index (inputs_of graph job) k) (item_has (inputs_of graph job) k 0 l))
  where
    within : job < length left.circuits
    within = let count = g.count in omega (arith, count, e, lt)

    c : Circuit
    c = get_or left.circuits job (record { name = []; nets = []; pins = []; devices = []; calls = [] })

    is : IsCircuit left job c
    is = slice_get-get_or left.circuits job _ within

    here : AreCalled c (inputs_of graph job)
    here = g.each job c (omega (arith, within, e)) is

    below : (q : ℕ) → has q (inputs_of graph job) ≡ true → q < job
    below q h =
        let r = any_listed q c.calls (sym (here.all q) ∙ h) in
        let low = good.lower job r.0 r.1 (c, is, r.2) in
        let same = r.3 in
        omega (arith, low, same)

pub called_jobs : (left : Netlist) (n : ℕ) (graph : List (List ℕ)) → n ≡ length left.circuits → AreCalledBelow left n graph → AreCalledJobs left graph
called_jobs left n graph e g = record {
  jobs = g.count ∙ e;
  waits = λ pair input c is.
      let lt = slice_get_within left.circuits pair c is in
      let all = (g.each pair c (omega (arith, lt, e)) is).all input in
      ((λ h. sym all ∙ h), (λ h. all ∙ h));
}

pub if_ok : {T E : Type 0} (P Q : T → Type 0) (r : Result T E) → ((x : T) → P x → Q x) → IfOk r P → IfOk r Q
if_ok P Q (Ok x) f h = f x h
if_ok P Q (Err e) f h = h
