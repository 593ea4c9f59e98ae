-- How many devices of a kind, class and sizes there are.
use Rattle.std.proofs.Common.{◌≡◌, ◌≢◌, inl, inr, ℕ, suc, ◌-◌, Bool, true, cond, Option, Some, None, List, [], ◌∷◌, length, slice_get, refl, sym, subst, ◌∙◌, ap, arith}
use Rattle.std.specs.List.{count_by, sum_by}
use Rattle.std.proofs.lemmas.List.Sums.{sum_by-cons}
use Rattle.std.proofs.lemmas.Bool.{cases_lt}
use Rattle.plain_netlist.specs.declared.kinds.DeviceKind.{DeviceKind}
use Rattle.plain_netlist.specs.Lists.{IsListed}
use Rattle.plain_netlist.specs.Netlist.{DeviceRow, CallRow}
use Rattle.round_laws.specs.Web.{IsNode, IsUneven, on_left, on_right}
use Rattle.round_laws.specs.Nodes.{Node, Side, Layout, Schematic, Net, Device, Call}
use Rattle.match_laws.specs.Circuits.{Own, OfCall, OfDevice, OfNone, Pair, circuit_of, node, nodes, numbers_from, own, same_own, web_of}
use Rattle.match_laws.proofs.Sums.{in_numbers, sum_same}
use Rattle.match_laws.proofs.Images.{own_decides, seen, size, sum_nodes, sum_owners}
use Rattle.refine_match.specs.Matching.{HaveUnevenDevices, is_of}
use Rattle.refine_match.proofs.Chosen.{some_passes}

-- a sum over the numbers of a list's rows
row_sums : {X : Type 0} (h : Option X → ℕ) (a : ℕ) (xs : List X) → sum_by (λ k. h (slice_get xs (k - a))) (numbers_from a (length xs)) ≡ sum_by (λ x. h (Some x)) xs
row_sums h a [] = refl
row_sums h a (x ∷ xs) =
    let first : a - a ≡ 0 = omega arith in
    let head : h (slice_get (x ∷ xs) (a - a)) ≡ h (Some x) = ap (λ (k : ℕ). h (slice_get (x ∷ xs) k)) first in
    let later : (k : ℕ) → IsListed k (numbers_from (suc a) (length xs)) → h (slice_get (x ∷ xs) (k - a)) ≡ h (slice_get xs (k - suc a))
    = λ k i. let b = (in_numbers k (suc a) (length xs) i).0 in let e : k - a ≡ suc (k - suc a) = omega arith in ap (λ (m : ℕ). h (slice_get (x ∷ xs) m)) e in
    let rest = sum_same (λ k. h (slice_get (x ∷ xs) (k - a))) (λ k. h (slice_get xs (k - suc a))) (numbers_from (suc a) (length xs)) later in
    let all = row_sums h (suc a) xs in
    let l = sum_by-cons (λ k. h (slice_get (x ∷ xs) (k - a))) a (numbers_from (suc a) (length xs)) in
    let r = sum_by-cons (λ y. h (Some y)) x xs in
    omega arith

no_sum : {X : Type 0} (f : X → ℕ) (xs : List X) → ((x : X) → f x ≡ 0) → sum_by f xs ≡ 0
no_sum f [] h = refl
no_sum f (x ∷ xs) h = let a = sum_by-cons f x xs in let b = h x in let c = no_sum f xs h in omega arith

abbrev device_own : Option DeviceRow → Own
device_own o = elim o [ None ↦ OfNone | Some d ↦ OfDevice d.kind d.class d.sizes ]

abbrev call_own : Option CallRow → Own
call_own o = elim o [ None ↦ OfNone | Some c ↦ OfCall c.circuit ]

-- the nodes of a side that look like a device
pub device_count : (p : Pair) (side : Side) (kind : DeviceKind) (class sizes : List ℕ) → count_by (λ a. same_own (OfDevice kind class sizes) (own p a)) (nodes p side) ≡ count_by (is_of kind class sizes) (circuit_of p side).devices
device_count p side kind class sizes =
    let test : Own → ℕ = λ o. cond {A = ℕ} (same_own (OfDevice kind class sizes) o) 1 0 in
    let g : Node → ℕ = λ a. test (own p a) in
    let ds = (circuit_of p side).devices in
    let nets = no_sum (λ k. g (node side Net k)) (numbers_from 0 (size p side Net)) (λ k. refl) in
    let calls = no_sum (λ k. g (node side Call k)) (numbers_from 0 (size p side Call)) (λ k. elim (seen (slice_get (circuit_of p side).calls k)) [
      | inl e ↦ ap (λ (o : Option CallRow). test (call_own o)) e
      | inr s ↦ ap (λ (o : Option CallRow). test (call_own o)) s.1
    ]) in
    let shift = sum_same (λ k. g (node side Device k)) (λ k. test (device_own (slice_get ds (k - 0)))) (numbers_from 0 (length ds)) (λ k i. let e : k ≡ k - 0 = omega arith in ap (λ (m : ℕ). test (device_own (slice_get ds m))) e) in
    let devices = row_sums (λ o. test (device_own o)) 0 ds in
    let all = sum_nodes p side g in
    let own_sum = sum_owners p side g in
    omega arith

-- a device whose class has unequal counts
uneven_at : (p : Pair) (kind : DeviceKind) (class sizes : List ℕ) (c : Node) → IsNode (web_of p) c → same_own (OfDevice kind class sizes) (own p c) ≡ true
    → (count_by (is_of kind class sizes) p.left.devices ≢ count_by (is_of kind class sizes) p.right.devices) → IsUneven (web_of p) 0 c
uneven_at p kind class sizes c n t differ =
    let e : OfDevice kind class sizes ≡ own p c = (own_decides _ _).0 t in
    let left : on_left (web_of p) 0 c ≡ count_by (is_of kind class sizes) p.left.devices
    = subst (λ (o : Own). count_by (λ a. same_own o (own p a)) (nodes p Layout) ≡ count_by (is_of kind class sizes) p.left.devices) e (device_count p Layout kind class sizes) in
    let right : on_right (web_of p) 0 c ≡ count_by (is_of kind class sizes) p.right.devices
    = subst (λ (o : Own). count_by (λ a. same_own o (own p a)) (nodes p Schematic) ≡ count_by (is_of kind class sizes) p.right.devices) e (device_count p Schematic kind class sizes) in
    record { node = n; counts = λ f. differ (sym left ∙ (f ∙ right)) }

pub uneven_device : (p : Pair) → HaveUnevenDevices p → (c : Node) × IsUneven (web_of p) 0 c
uneven_device p h =
    let test : Node → Bool = λ a. same_own (OfDevice h.0 h.1 h.2) (own p a) in
    let left = device_count p Layout h.0 h.1 h.2 in
    let right = device_count p Schematic h.0 h.1 h.2 in
    elim (cases_lt 0 (count_by test (nodes p Layout))) [
      | inl some ↦ let c = some_passes test (nodes p Layout) some in (c.0, uneven_at p h.0 h.1 h.2 c.0 (inl c.1) c.2 h.3)
      | inr none ↦ elim (cases_lt 0 (count_by test (nodes p Schematic))) [
        | inl some ↦ let c = some_passes test (nodes p Schematic) some in (c.0, uneven_at p h.0 h.1 h.2 c.0 (inr c.1) c.2 h.3)
        | inr none2 ↦ absurd (h.3 (omega arith))
      ]
    ]
