-- Both netlists are good, in normal form, and their own aligned netlists.
use Rattle.std.proofs.Common.{◌≡◌, inl, inr, ℕ, zero, suc, ◌<◌, [], length, Some, slice_get, refl, arith}
use Rattle.std.proofs.lemmas.Option.{none-some}
use Rattle.align_laws.specs.Cut.{OnDevice}
use Rattle.law_samples.proofs.layout.Whole.{right}
use Rattle.law_samples.specs.Sample.{sample_level}
use Rattle.law_samples.specs.Transistors.{child_circuit, gate_circuits, gate_design, gate_netlist, gate_rules, gate_tables, gate_wiring, parent_circuit}
use Rattle.law_samples.proofs.headline.Kept.{circuit_at, IsStill}
use Rattle.law_samples.specs.Matched.{part, schematic, whole}
use Rattle.law_samples.proofs.chain.Sound.{one_call, two_pins}
use Rattle.plain_netlist.proofs.Numbered.{normal_nets, numbered}
use Rattle.plain_netlist.specs.Netlist.{CallRow, Circuit, IsCircuit}
use Rattle.plain_netlist.specs.Normal.{appearances, IsNormalCircuit, IsNormalNetlist}
use Rattle.plain_netlist.specs.Sound.{AreCallsFitting, IsGood}
use Rattle.table_laws.proofs.Sound.{extracted_good}

on_four : (P : ℕ → Type 0) → P 0 → P 1 → P 2 → P 3 → (n : ℕ) → n < 4 → P n
on_four P a b c d zero h = a
on_four P a b c d (suc zero) h = b
on_four P a b c d (suc (suc zero)) h = c
on_four P a b c d (suc (suc (suc zero))) h = d
on_four P a b c d (suc (suc (suc (suc n)))) h = absurd (omega arith)

pub layout_good : IsGood gate_netlist (λ k. k)
layout_good = (extracted_good gate_design gate_wiring gate_tables gate_circuits gate_netlist gate_rules 1000 sample_level right).0

pub layout_still : IsStill child_circuit parent_circuit
layout_still = record {
  first = refl;
  second = refl;
  first_plain = refl;
  second_plain = refl;
  first_cut = refl;
  second_cut = refl;
  first_count = refl;
  second_count = refl;
  first_on = on_four (OnDevice gate_netlist 0) (0, _, (_, refl, refl), inl refl) (0, _, (_, refl, refl), inr (inr (inr (inl refl)))) (0, _, (_, refl, refl), inr (inl refl)) (0, _, (_, refl, refl), inr (inr (inl refl)));
  second_on = on_four (OnDevice gate_netlist 1) (0, _, (_, refl, refl), inl refl) (0, _, (_, refl, refl), inr (inr (inr (inl refl)))) (0, _, (_, refl, refl), inr (inl refl)) (0, _, (_, refl, refl), inr (inr (inl refl)));
  normal = (extracted_good gate_design gate_wiring gate_tables gate_circuits gate_netlist gate_rules 1000 sample_level right).1;
  good = layout_good;
}

no_call : (P : CallRow → Type 0) (k : ℕ) (row : CallRow) → slice_get [] k ≡ Some row → P row
no_call P k row h = absurd (none-some row h)

pub schematic_at : (P : ℕ → Circuit → Type 0) → P 0 part → P 1 whole → (k : ℕ) (x : Circuit) → IsCircuit schematic k x → P k x
schematic_at P p q k x h = circuit_at part whole P p q k x h

normal : IsNormalNetlist schematic
normal = schematic_at (λ k x. IsNormalCircuit x) (record { pins = two_pins; numbered = numbered 4 0 (appearances part) refl }) (record { pins = two_pins; numbered = numbered 4 0 (appearances whole) refl })

abbrev Fits : CallRow → Type 0
Fits row = (d : Circuit) × IsCircuit schematic row.circuit d × (length row.nets ≡ length d.pins)

fitting : AreCallsFitting schematic
fitting c k row (x, is, h) = schematic_at (λ c x. (k : ℕ) (row : CallRow) → slice_get x.calls k ≡ Some row → Fits row) (no_call Fits) (one_call Fits _ (part, refl, refl)) c x is k row h

good : IsGood schematic (λ k. k)
good = record {
  within = normal_nets schematic normal;
  called = fitting;
  lower = λ c k row (x, is, h). schematic_at (λ c x. (k : ℕ) (row : CallRow) → slice_get x.calls k ≡ Some row → row.circuit < c)
      (no_call (λ row. row.circuit < 0)) (one_call (λ row. row.circuit < 1) _ (omega arith)) c x is k row h;
  pins = λ c i n (x, is, h). (normal c x is).pins i n h;
}

pub schematic_still : IsStill part whole
schematic_still = record {
  first = refl;
  second = refl;
  first_plain = refl;
  second_plain = refl;
  first_cut = refl;
  second_cut = refl;
  first_count = refl;
  second_count = refl;
  first_on = on_four (OnDevice schematic 0) (0, _, (_, refl, refl), inr (inr (inr (inl refl)))) (0, _, (_, refl, refl), inr (inr (inl refl))) (0, _, (_, refl, refl), inl refl) (0, _, (_, refl, refl), inr (inl refl));
  second_on = on_four (OnDevice schematic 1) (0, _, (_, refl, refl), inl refl) (0, _, (_, refl, refl), inr (inr (inr (inl refl)))) (0, _, (_, refl, refl), inr (inl refl)) (0, _, (_, refl, refl), inr (inr (inl refl)));
  normal = normal;
  good = good;
}
