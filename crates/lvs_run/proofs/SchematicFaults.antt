-- A schematic has one first fault at most.
use Rattle.std.proofs.Common.{◌≡◌, ◌≢◌, ◌⊎◌, inl, inr, ℕ, ◌<◌, List, Option, Some, None, Ok, Err, refl, sym, ap, subst, ◌∙◌, slice_get, arith}
use Rattle.std.proofs.Math.Decide.{ℕ_discrete}
use Rattle.call_order.specs.Order.{ReachesItself}
use Rattle.spice_rows.specs.Sizes.{Limits}
use Rattle.spice_rows.specs.declared.fault.SpiceFault.{SpiceFault}
use Rattle.spice_rows.specs.declared.fault.SpiceFault.TheVariants.{NotClosed, NameClash, NoSuchCircuit, PinCount, CircuitCycle, NoMemory}
use Rattle.spice_text.specs.Gather.{Circuit, Cards}
use Rattle.spice_text.specs.Circuits.{all_of, call_lists}
use Rattle.spice_text.specs.Faults.{HasCall, IsClash, IsCycle, IsSecond, IsLeast, Lacks, IsCircuitsFault, IsWholeFault, is_missing, is_other_count}
use Rattle.spice_text.specs.Means.{IsFirstFault}

-- the least of two, by what is below it
least_one : (P : ℕ → Type 0) (m n : ℕ) → P m → P n → ((j : ℕ) → j < m → P j → ⊥) → ((j : ℕ) → j < n → P j → ⊥) → m ≡ n
least_one P m n a b none other =
    elim (ℕ_discrete m n) [
      | yes e ↦ e
      | no not ↦ apart m n not (λ (less : m < n). other m less a) (λ (less : n < m). none n less b)
    ]
  where
    apart : (m n : ℕ) → (m ≡ n → ⊥) → (m < n → ⊥) → (n < m → ⊥) → m ≡ n
    apart m n not a b = omega (arith, not, a, b)

least : (P : ℕ → Type 0) (m n : ℕ) → IsLeast P m → IsLeast P n → m ≡ n
least P m n a b = least_one P m n a.holds b.holds a.none b.none

-- circuit k has this line, or this name
at_one : (cs : List Circuit) (j k : ℕ) (c d : Circuit) → j ≡ k → slice_get cs j ≡ Some c → slice_get cs k ≡ Some d → c ≡ d
at_one cs j k c d same e f = let there : slice_get cs k ≡ Some c = subst (λ (n : ℕ). slice_get cs n ≡ Some c) same e in cc

clash_one : (cs : List Circuit) (l m : ℕ) → IsClash cs l → IsClash cs m → l ≡ m
clash_one cs l m a b = sym a.4 ∙ (ap (λ (c : Circuit). c.line) (at_one cs a.0 b.0 a.2 b.2 (least (IsSecond cs) a.0 b.0 a.1 b.1) a.3 b.3) ∙ b.4)

cycle_one : (cs : List Circuit) (n m : List ℕ) → IsCycle cs n → IsCycle cs m → n ≡ m
cycle_one cs n m a b =
    let x = a.1 in let y = b.1 in
    let same : a.0 ≡ b.0 = least_one (ReachesItself (call_lists cs)) a.0 b.0 x.reaches y.reaches x.first y.first in
    sym a.4 ∙ (ap (λ (c : Circuit). c.name) (at_one cs a.0 b.0 a.2 b.2 same a.3 b.3) ∙ b.4)

no_clash : (cs : List Circuit) (l : ℕ) → Lacks (IsSecond cs) → IsClash cs l → ⊥
no_clash cs l none a = let x = a.1 in none a.0 x.holds

no_least : (P : ℕ → Type 0) (l : ℕ) → Lacks P → IsLeast P l → ⊥
no_least P l none a = none l a.holds

no_cycle : (cs : List Circuit) (n : List ℕ) → Lacks (ReachesItself (call_lists cs)) → IsCycle cs n → ⊥
no_cycle cs n none a = let x = a.1 in none a.0 x.reaches

one_of_circuits : (cs : List Circuit) (f g : SpiceFault) → f ≢ NoMemory → g ≢ NoMemory → IsCircuitsFault cs f → IsCircuitsFault cs g → f ≡ g
one_of_circuits cs NoMemory g p q a b = absurd (p refl)
one_of_circuits cs f NoMemory p q a b = absurd (q refl)
one_of_circuits cs (NameClash n) (NameClash m) p q a b = ap (λ (l : ℕ). NameClash l) (clash_one cs n m a b)
one_of_circuits cs (NameClash n) (NoSuchCircuit m) p q a b = absurd (no_clash cs n b.0 a)
one_of_circuits cs (NameClash n) (PinCount m) p q a b = absurd (no_clash cs n b.0 a)
one_of_circuits cs (NameClash n) (CircuitCycle m) p q a b = absurd (no_clash cs n b.0 a)
one_of_circuits cs (NameClash n) g p q a b = absurd b
one_of_circuits cs (NoSuchCircuit n) (NameClash m) p q a b = absurd (no_clash cs m a.0 b)
one_of_circuits cs (NoSuchCircuit n) (NoSuchCircuit m) p q a b = ap (λ (l : ℕ). NoSuchCircuit l) (least (HasCall cs (is_missing cs)) n m a.1 b.1)
one_of_circuits cs (NoSuchCircuit n) (PinCount m) p q a b = absurd (no_least (HasCall cs (is_missing cs)) n b.1 a.1)
one_of_circuits cs (NoSuchCircuit n) (CircuitCycle m) p q a b = absurd (no_least (HasCall cs (is_missing cs)) n b.1 a.1)
one_of_circuits cs (NoSuchCircuit n) g p q a b = absurd b
one_of_circuits cs (PinCount n) (NameClash m) p q a b = absurd (no_clash cs m a.0 b)
one_of_circuits cs (PinCount n) (NoSuchCircuit m) p q a b = absurd (no_least (HasCall cs (is_missing cs)) m a.1 b.1)
one_of_circuits cs (PinCount n) (PinCount m) p q a b = ap (λ (l : ℕ). PinCount l) (least (HasCall cs (is_other_count cs)) n m a.2 b.2)
one_of_circuits cs (PinCount n) (CircuitCycle m) p q a b = absurd (no_least (HasCall cs (is_other_count cs)) n b.2 a.2)
one_of_circuits cs (PinCount n) g p q a b = absurd b
one_of_circuits cs (CircuitCycle n) (NameClash m) p q a b = absurd (no_clash cs m a.0 b)
one_of_circuits cs (CircuitCycle n) (NoSuchCircuit m) p q a b = absurd (no_least (HasCall cs (is_missing cs)) m a.1 b.1)
one_of_circuits cs (CircuitCycle n) (PinCount m) p q a b = absurd (no_least (HasCall cs (is_other_count cs)) m a.2 b.2)
one_of_circuits cs (CircuitCycle n) (CircuitCycle m) p q a b = ap (λ (l : List ℕ). CircuitCycle l) (cycle_one cs n m a.3 b.3)
one_of_circuits cs (CircuitCycle n) g p q a b = absurd b
one_of_circuits cs f g p q a b = absurd a

-- a circuit isn't closed, or all are and the circuits have the fault
abbrev IsOpenFault : Cards → SpiceFault → Type 0
IsOpenFault cards fault = (line : ℕ) × (fault ≡ NotClosed line) × (c : Circuit) × (cards.open_one ≡ Some c) × (c.line ≡ line)

whole_of : (cards : Cards) (fault : SpiceFault) → fault ≢ NoMemory → IsWholeFault cards fault → IsOpenFault cards fault ⊎ ((cards.open_one ≡ None) × IsCircuitsFault (all_of cards) fault)
whole_of cards (NotClosed line) p h = inl (line, refl, h.0, h.1, h.2)
whole_of cards NoMemory p h = absurd (p refl)
whole_of cards fault p h = inr h

open_one : (cards : Cards) (f g : SpiceFault) → IsOpenFault cards f → IsOpenFault cards g → f ≡ g
open_one cards f g a b =
    let one : Some a.2 ≡ Some b.2 = sym a.3 ∙ b.3 in
    let same : a.2 ≡ b.2 = cc in
    a.1 ∙ (ap (λ (l : ℕ). NotClosed l) (sym a.4 ∙ (ap (λ (c : Circuit). c.line) same ∙ b.4)) ∙ sym b.1)

not_both : (cards : Cards) (f : SpiceFault) → IsOpenFault cards f → cards.open_one ≡ None → ⊥
not_both cards f a none = let no : Some a.2 ≡ None = sym a.3 ∙ none in cc

one_of_cards : (cards : Cards) (f g : SpiceFault) → f ≢ NoMemory → g ≢ NoMemory → IsOpenFault cards f ⊎ ((cards.open_one ≡ None) × IsCircuitsFault (all_of cards) f)
    → IsOpenFault cards g ⊎ ((cards.open_one ≡ None) × IsCircuitsFault (all_of cards) g) → f ≡ g
one_of_cards cards f g p q (inl a) (inl b) = open_one cards f g a b
one_of_cards cards f g p q (inl a) (inr b) = absurd (not_both cards f a b.0)
one_of_cards cards f g p q (inr a) (inl b) = absurd (not_both cards g b a.0)
one_of_cards cards f g p q (inr a) (inr b) = one_of_circuits (all_of cards) f g p q a.1 b.1

-- bytes have one first fault at most
pub one_fault : (limit : Option Limits) (bytes : List ℕ) (f g : SpiceFault) → f ≢ NoMemory → g ≢ NoMemory → IsFirstFault limit bytes f → IsFirstFault limit bytes g → f ≡ g
one_fault limit bytes f g p q (inl a) (inl b) = let e : Err f ≡ Err g = sym a ∙ b in cc
one_fault limit bytes f g p q (inl a) (inr b) = let e : Err f ≡ Ok b.0 = sym a ∙ b.1 in cc
one_fault limit bytes f g p q (inr a) (inl b) = let e : Err g ≡ Ok a.0 = sym b ∙ a.1 in cc
one_fault limit bytes f g p q (inr a) (inr b) =
    let e : Ok a.0 ≡ Ok b.0 = sym a.1 ∙ b.1 in
    let same : a.0 ≡ b.0 = cc in
    one_of_cards b.0 f g p q (whole_of b.0 f p (subst (λ (c : Cards). IsWholeFault c f) same a.2)) (whole_of b.0 g q b.2)
