-- Circuits of one name are partners, and both are pairs.
use Rattle.std.proofs.Common.{◌≡◌, inl, inr, ℕ, ltb, true, [], ◌∷◌, refl, sym, ◌∙◌, ap, subst}
use Rattle.net_names.specs.Folding.{folded_bytes}
use Rattle.align_laws.specs.Partners.{ArePairs, IsPair, IsPartner, IsPartnerByName}
use Rattle.law_samples.specs.Transistors.{child_circuit, gate_netlist, parent_circuit}
use Rattle.law_samples.proofs.headline.Circuits.{layout_still, schematic_at, schematic_still}
use Rattle.law_samples.proofs.headline.Kept.{aligned, circuit_at, only_kept, two_cases}
use Rattle.law_samples.specs.Matched.{as_it_is, IsSamplePair, part, schematic, whole}
use Rattle.law_samples.proofs.chain.Sound.{differ}
use Rattle.plain_netlist.specs.Netlist.{Circuit, IsCircuit}
use Rattle.plain_netlist.specs.Sound.{HasDevices, IsCalledFrom}

named : (a b : ℕ) (x y : Circuit) → IsCircuit gate_netlist a x → IsCircuit schematic b y → folded_bytes x.name ≡ folded_bytes y.name → IsPartnerByName gate_netlist schematic 1 [] a b
named a b x y is js e = inr ((λ h. h.1), (λ h. h.1), (x.name, (x, is, refl), (y, js, sym e)))

children : IsPartnerByName gate_netlist schematic 1 [] 0 0
children = named 0 0 child_circuit part refl refl refl

parents : IsPartnerByName gate_netlist schematic 1 [] 1 1
parents = named 1 1 parent_circuit whole refl refl refl

pub tops : IsPartner gate_netlist schematic 1 [] 1 1
tops = inr (parents, λ h. h.unnamed 1 parents)

abbrev Same : ℕ → Circuit → ℕ → Circuit → Type 0
Same a x b y = folded_bytes x.name ≡ folded_bytes y.name → a ≡ b

one_number : (a b : ℕ) (x y : Circuit) → IsCircuit gate_netlist a x → IsCircuit schematic b y → folded_bytes x.name ≡ folded_bytes y.name → a ≡ b
one_number a b x y is js = circuit_at child_circuit parent_circuit (λ a x. (b : ℕ) (y : Circuit) → IsCircuit schematic b y → Same a x b y)
    (schematic_at (Same 0 child_circuit) (λ e. refl) (λ e. absurd (differ _ _ refl e))) (schematic_at (Same 1 parent_circuit) (λ e. absurd (differ _ _ refl e)) (λ e. refl)) a x is b y js

low : (a : ℕ) (x : Circuit) → IsCircuit gate_netlist a x → ltb a 2 ≡ true
low = circuit_at child_circuit parent_circuit (λ a x. ltb a 2 ≡ true) refl refl

by_name : (a b : ℕ) → IsPartnerByName gate_netlist schematic 1 [] a b → (a ≡ b) × (ltb a 2 ≡ true)
by_name a b (inl (line, i, h, k)) = absurd i
by_name a b (inr (no_left, no_right, (name, (x, is, h), (y, js, k)))) = (one_number a b x y is js (h ∙ sym k), low a x is)

only_pairs : (a b : ℕ) → IsPair gate_netlist schematic 1 [] 1 a b → (a ≡ b) × (ltb a 2 ≡ true)
only_pairs a b p = elim p.partner [ inl (e, h) ↦ absurd (h.unnamed 1 parents) | inr (h, none) ↦ by_name a b h ]

called : IsCalledFrom gate_netlist 1 0
called = (0 ∷ [], (_, (parent_circuit, refl, refl), refl))

right_called : IsCalledFrom schematic 1 0
right_called = (0 ∷ [], (_, (whole, refl, refl), refl))

devices : HasDevices gate_netlist 0
devices = ([], 0, _, (child_circuit, refl, refl))

right_devices : HasDevices schematic 0
right_devices = ([], 0, _, (part, refl, refl))

child_pair : IsPair gate_netlist schematic 1 [] 1 0 0
child_pair = record { tops = tops; partner = inr (children, λ h. h.unnamed 1 parents); called = called; right_called = right_called; devices = inr (devices, right_devices) }

top_pair : IsPair gate_netlist schematic 1 [] 1 1 1
top_pair = record { tops = tops; partner = tops; called = ([], refl); right_called = ([], refl); devices = inl refl }

pair_of : (k : ℕ) → ltb k 2 ≡ true → IsPair gate_netlist schematic 1 [] 1 k k
pair_of k h = elim (two_cases k h) [
  | inl e ↦ subst (λ (n : ℕ). IsPair gate_netlist schematic 1 [] 1 n n) (sym e) child_pair
  | inr e ↦ subst (λ (n : ℕ). IsPair gate_netlist schematic 1 [] 1 n n) (sym e) top_pair
]

pairs : ArePairs gate_netlist schematic 1 [] 1 (as_it_is child_circuit parent_circuit) (as_it_is part whole)
pairs = record {
  left_kept = λ a. ((λ h. (a, pair_of a h)), (λ (b, p). (only_pairs a b p).1));
  right_kept = λ b. ((λ h. (b, pair_of b h)), (λ (a, p). let r = only_pairs a b p in sym (ap (λ n. ltb n 2) r.0) ∙ r.1));
  together = λ a b p. (only_pairs a b p).0;
  rising = λ a b lt h k. lt;
}

pub sample_pair : IsSamplePair
sample_pair = record {
  partner = tops;
  pairs = pairs;
  left_aligned = aligned child_circuit parent_circuit layout_still;
  right_aligned = aligned part whole schematic_still;
  left_only = only_kept child_circuit parent_circuit;
  right_only = only_kept part whole;
}
