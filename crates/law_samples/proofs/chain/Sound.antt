-- The two netlists are sound and in normal form.
use Rattle.std.proofs.Common.{◌≡◌, ◌≢◌, ℕ, zero, suc, ◌<◌, true, false, List, [], ◌∷◌, length, Some, slice_get, refl, sym, ◌∙◌, ap, subst, arith, true≢false}
use Rattle.std.specs.Prelude.{bytes_eq}
use Rattle.net_names.specs.Folding.{folded_bytes}
use Rattle.std.proofs.lemmas.Option.{none-some, same_Some}
use Rattle.std.proofs.lemmas.Slice.Eq.{bytes_eq-Decides}
use Rattle.plain_netlist.specs.Netlist.{CallRow, Circuit, Netlist, IsCircuit}
use Rattle.plain_netlist.specs.Normal.{appearances, IsNormalCircuit, IsNormalNetlist}
use Rattle.plain_netlist.specs.Sound.{AreCallsFitting, IsSoundNetlist, IsGood, NameClash, CircuitCycle}
use Rattle.plain_netlist.proofs.Heights.{no_fault_in_good}
use Rattle.plain_netlist.proofs.Numbered.{normal_nets, numbered}
use Rattle.law_samples.specs.Chain.{a, b, void, unit, middle, outer, layout, part, whole, schematic}

pub differ : (xs ys : List ℕ) → bytes_eq xs ys ≡ false → xs ≡ ys → ⊥
differ xs ys h e = let g : bytes_eq xs ys ≡ true = (bytes_eq-Decides xs ys).1 e in true≢false (sym g ∙ h)

-- the circuits by number
pub layout_at : (P : ℕ → Circuit → Type 0) → P 0 void → P 1 unit → P 2 middle → P 3 outer → (c : ℕ) (x : Circuit) → IsCircuit layout c x → P c x
layout_at P v u m o zero x h = subst (P 0) (same_Some _ _ h) v
layout_at P v u m o (suc zero) x h = subst (P 1) (same_Some _ _ h) u
layout_at P v u m o (suc (suc zero)) x h = subst (P 2) (same_Some _ _ h) m
layout_at P v u m o (suc (suc (suc zero))) x h = subst (P 3) (same_Some _ _ h) o
layout_at P v u m o (suc (suc (suc (suc c)))) x h = absurd (none-some x h)

pub schematic_at : (P : ℕ → Circuit → Type 0) → P 0 part → P 1 whole → (c : ℕ) (x : Circuit) → IsCircuit schematic c x → P c x
schematic_at P p w zero x h = subst (P 0) (same_Some _ _ h) p
schematic_at P p w (suc zero) x h = subst (P 1) (same_Some _ _ h) w
schematic_at P p w (suc (suc c)) x h = absurd (none-some x h)

-- pins that are the first nets
pub no_pin : (i n : ℕ) → slice_get [] i ≡ Some n → n ≡ i
no_pin i n h = absurd (none-some n h)

pub one_pin : (i n : ℕ) → slice_get (0 ∷ []) i ≡ Some n → n ≡ i
one_pin zero n h = sym (same_Some _ _ h)
one_pin (suc i) n h = absurd (none-some n h)

pub two_pins : (i n : ℕ) → slice_get (0 ∷ 1 ∷ []) i ≡ Some n → n ≡ i
two_pins zero n h = sym (same_Some _ _ h)
two_pins (suc zero) n h = sym (same_Some _ _ h)
two_pins (suc (suc i)) n h = absurd (none-some n h)

pub normal_layout : IsNormalNetlist layout
normal_layout = layout_at (λ c x. IsNormalCircuit x)
    (record { pins = no_pin; numbered = refl })
    (record { pins = two_pins; numbered = numbered 2 0 (appearances unit) refl })
    (record { pins = one_pin; numbered = numbered 2 0 (appearances middle) refl })
    (record { pins = one_pin; numbered = numbered 1 0 (appearances outer) refl })

pub normal_schematic : IsNormalNetlist schematic
normal_schematic = schematic_at (λ c x. IsNormalCircuit x)
    (record { pins = two_pins; numbered = numbered 2 0 (appearances part) refl })
    (record { pins = one_pin; numbered = numbered 2 0 (appearances whole) refl })

-- what a call of a circuit is: none, one of this row, one of two
no_call : (P : CallRow → Type 0) (k : ℕ) (row : CallRow) → slice_get [] k ≡ Some row → P row
no_call P k row h = absurd (none-some row h)

pub one_call : (P : CallRow → Type 0) (r : CallRow) → P r → (k : ℕ) (row : CallRow) → slice_get (r ∷ []) k ≡ Some row → P row
one_call P r p zero row h = subst P (same_Some _ _ h) p
one_call P r p (suc k) row h = absurd (none-some row h)

two_calls : (P : CallRow → Type 0) (r s : CallRow) → P r → P s → (k : ℕ) (row : CallRow) → slice_get (r ∷ s ∷ []) k ≡ Some row → P row
two_calls P r s p q zero row h = subst P (same_Some _ _ h) p
two_calls P r s p q (suc k) row h = one_call P s q k row h

abbrev Fits : Netlist → CallRow → Type 0
Fits nl row = (d : Circuit) × IsCircuit nl row.circuit d × (length row.nets ≡ length d.pins)

fit_layout : AreCallsFitting layout
fit_layout c k row (x, is, h) = layout_at (λ c x. (k : ℕ) (row : CallRow) → slice_get x.calls k ≡ Some row → Fits layout row)
    (no_call (Fits layout)) (no_call (Fits layout)) (one_call (Fits layout) _ (unit, refl, refl)) (two_calls (Fits layout) _ _ (middle, refl, refl) (void, refl, refl)) c x is k row h

fit_schematic : AreCallsFitting schematic
fit_schematic c k row (x, is, h) = schematic_at (λ c x. (k : ℕ) (row : CallRow) → slice_get x.calls k ≡ Some row → Fits schematic row)
    (no_call (Fits schematic)) (one_call (Fits schematic) _ (part, refl, refl)) c x is k row h

pub good_layout : IsGood layout (λ k. k)
good_layout = record {
  within = normal_nets layout normal_layout;
  called = fit_layout;
  lower = λ c k row (x, is, h). layout_at (λ c x. (k : ℕ) (row : CallRow) → slice_get x.calls k ≡ Some row → row.circuit < c)
      (no_call (λ row. row.circuit < 0)) (no_call (λ row. row.circuit < 1)) (one_call (λ row. row.circuit < 2) _ (omega arith)) (two_calls (λ row. row.circuit < 3) _ _ (omega arith) (omega arith)) c x is k row h;
  pins = λ c i n (x, is, h). (normal_layout c x is).pins i n h;
}

pub good_schematic : IsGood schematic (λ k. k)
good_schematic = record {
  within = normal_nets schematic normal_schematic;
  called = fit_schematic;
  lower = λ c k row (x, is, h). schematic_at (λ c x. (k : ℕ) (row : CallRow) → slice_get x.calls k ≡ Some row → row.circuit < c)
      (no_call (λ row. row.circuit < 0)) (one_call (λ row. row.circuit < 1) _ (omega arith)) c x is k row h;
  pins = λ c i n (x, is, h). (normal_schematic c x is).pins i n h;
}

-- names that differ, their letters folded
abbrev Apart : ℕ → List ℕ → ℕ → Circuit → Type 0
Apart b name c y = folded_bytes name ≡ folded_bytes y.name → b ≡ c

pub apart_layout : (b c : ℕ) (x y : Circuit) → IsCircuit layout b x → IsCircuit layout c y → folded_bytes x.name ≡ folded_bytes y.name → b ≡ c
apart_layout b c x y is js = layout_at (λ b x. (c : ℕ) (y : Circuit) → IsCircuit layout c y → Apart b x.name c y)
    (layout_at (Apart 0 void.name) (λ e. refl) (λ e. absurd (differ _ _ refl e)) (λ e. absurd (differ _ _ refl e)) (λ e. absurd (differ _ _ refl e)))
    (layout_at (Apart 1 unit.name) (λ e. absurd (differ _ _ refl e)) (λ e. refl) (λ e. absurd (differ _ _ refl e)) (λ e. absurd (differ _ _ refl e)))
    (layout_at (Apart 2 middle.name) (λ e. absurd (differ _ _ refl e)) (λ e. absurd (differ _ _ refl e)) (λ e. refl) (λ e. absurd (differ _ _ refl e)))
    (layout_at (Apart 3 outer.name) (λ e. absurd (differ _ _ refl e)) (λ e. absurd (differ _ _ refl e)) (λ e. absurd (differ _ _ refl e)) (λ e. refl)) b x is c y js

pub apart_schematic : (b c : ℕ) (x y : Circuit) → IsCircuit schematic b x → IsCircuit schematic c y → folded_bytes x.name ≡ folded_bytes y.name → b ≡ c
apart_schematic b c x y is js = schematic_at (λ b x. (c : ℕ) (y : Circuit) → IsCircuit schematic c y → Apart b x.name c y)
    (schematic_at (Apart 0 part.name) (λ e. refl) (λ e. absurd (differ _ _ refl e)))
    (schematic_at (Apart 1 whole.name) (λ e. absurd (differ _ _ refl e)) (λ e. refl)) b x is c y js

no_names : (i j : ℕ) (name : List ℕ) → slice_get [] i ≡ Some name → slice_get [] j ≡ Some name → i ≡ j
no_names i j name h k = absurd (none-some name h)

one_name : (i j : ℕ) (name : List ℕ) → slice_get (a ∷ []) i ≡ Some name → slice_get (a ∷ []) j ≡ Some name → i ≡ j
one_name zero zero name h k = refl
one_name zero (suc j) name h k = absurd (none-some name k)
one_name (suc i) j name h k = absurd (none-some name h)

two_names : (i j : ℕ) (name : List ℕ) → slice_get (a ∷ b ∷ []) i ≡ Some name → slice_get (a ∷ b ∷ []) j ≡ Some name → i ≡ j
two_names zero zero name h k = refl
two_names zero (suc zero) name h k = absurd (differ a b refl (same_Some _ _ (h ∙ sym k)))
two_names (suc zero) zero name h k = absurd (differ b a refl (same_Some _ _ (h ∙ sym k)))
two_names (suc zero) (suc zero) name h k = refl
two_names (suc (suc i)) j name h k = absurd (none-some name h)
two_names i (suc (suc j)) name h k = absurd (none-some name k)

not_clash : CircuitCycle ≢ NameClash
not_clash e = absurd (let z : ⊥ = cc in z)

pub sound_layout : IsSoundNetlist layout
sound_layout = record {
  names = λ b c x y is js e. apart_layout b c x y is js (ap folded_bytes e);
  net_names = λ c i j x name is. layout_at (λ c x. (i j : ℕ) (name : List ℕ) → slice_get x.nets i ≡ Some name → slice_get x.nets j ≡ Some name → i ≡ j) no_names two_names two_names one_name c x is i j name;
  nets = good_layout.within;
  calls = fit_layout;
  no_cycle = λ c h. no_fault_in_good layout (λ k. k) CircuitCycle c good_layout not_clash h;
}

pub sound_schematic : IsSoundNetlist schematic
sound_schematic = record {
  names = λ b c x y is js e. apart_schematic b c x y is js (ap folded_bytes e);
  net_names = λ c i j x name is. schematic_at (λ c x. (i j : ℕ) (name : List ℕ) → slice_get x.nets i ≡ Some name → slice_get x.nets j ≡ Some name → i ≡ j) two_names two_names c x is i j name;
  nets = good_schematic.within;
  calls = fit_schematic;
  no_cycle = λ c h. no_fault_in_good schematic (λ k. k) CircuitCycle c good_schematic not_clash h;
}
