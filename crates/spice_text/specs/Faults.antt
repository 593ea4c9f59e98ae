-- What is first wrong with the cards of a text as a whole.
use Rattle.std.specs.Prelude.{◌≡◌, ◌<◌, ◌==◌, ◌^◌, ℕ, Bool, true, false, not, List, length, take}
use Rattle.std.specs.Prelude.{slice_get, Option, Some, None}
use Rattle.plain_netlist.specs.Lists.{IsListed}
use Rattle.text_table.specs.Texts.{has_text}
use Rattle.call_order.specs.Order.{IsFirstInCycle, IsCallOrder}
use Rattle.spice_rows.specs.Rows.{CallCard}
use Rattle.spice_text.specs.Gather.{Circuit, Cards}
use Rattle.spice_text.specs.Circuits.{all_of, names_of, called_in, call_lists}
use Rattle.spice_rows.specs.declared.fault.SpiceFault.{SpiceFault}
use Rattle.spice_rows.specs.declared.fault.SpiceFault.TheVariants.{NotClosed, NameClash}
use Rattle.spice_rows.specs.declared.fault.SpiceFault.TheVariants.{NoSuchCircuit, PinCount}
use Rattle.spice_rows.specs.declared.fault.SpiceFault.TheVariants.{CircuitCycle, NoMemory}

-- circuit k has the name of one before it
abbrev pub IsSecond : List Circuit → ℕ → Type 0
IsSecond cs k = (c : Circuit) × (slice_get cs k ≡ Some c)
    × (has_text (names_of (take k cs)) c.name ≡ true)

-- a call of no circuit
abbrev pub is_missing : List Circuit → CallCard → Bool
is_missing cs r = not (has_text (names_of cs) r.circuit)

abbrev pub is_other_than : Option Circuit → CallCard → Bool
is_other_than None r = false
is_other_than (Some c) r = not (length r.nets == length c.pins)

-- a call with another number of nets than the circuit lists pins
abbrev pub is_other_count : List Circuit → CallCard → Bool
is_other_count cs r = is_other_than (slice_get cs (called_in (names_of cs) r)) r

-- a call that shows this stands on this line, among some calls
abbrev pub IsCallOn : List CallCard → (CallCard → Bool) → ℕ → Type 0
IsCallOn rs shows line = (r : CallCard) × IsListed r rs × (shows r ≡ true) × (r.line ≡ line)

-- or in a circuit
abbrev pub HasCall : List Circuit → (CallCard → Bool) → ℕ → Type 0
HasCall cs shows line = (c : Circuit) × IsListed c cs × IsCallOn c.calls shows line

abbrev pub Lacks : (ℕ → Type 0) → Type 0
Lacks P = (n : ℕ) → P n → ⊥

-- the least number of which P holds
pub record IsLeast (P : ℕ → Type 0) (n : ℕ) : Type 0 where
  pub holds : P n
  pub none : (j : ℕ) → j < n → P j → ⊥

-- the least such number, or none where there is none
abbrev pub FindsLeast : (ℕ → Type 0) → Option ℕ → Type 0
FindsLeast P None = Lacks P
FindsLeast P (Some n) = IsLeast P n

abbrev pub IsClash : List Circuit → ℕ → Type 0
IsClash cs line = (k : ℕ) × IsLeast (IsSecond cs) k
    × (c : Circuit) × (slice_get cs k ≡ Some c) × (c.line ≡ line)

abbrev pub IsCycle : List Circuit → List ℕ → Type 0
IsCycle cs name = (k : ℕ) × IsFirstInCycle (call_lists cs) k
    × (c : Circuit) × (slice_get cs k ≡ Some c) × (c.name ≡ name)

-- the first fault of circuits; want of memory says nothing of them
abbrev pub IsCircuitsFault : List Circuit → SpiceFault → Type 0
IsCircuitsFault cs (NameClash line) = IsClash cs line
IsCircuitsFault cs (NoSuchCircuit line) =
    Lacks (IsSecond cs) × IsLeast (HasCall cs (is_missing cs)) line
IsCircuitsFault cs (PinCount line) =
    Lacks (IsSecond cs) × Lacks (HasCall cs (is_missing cs))
    × IsLeast (HasCall cs (is_other_count cs)) line
IsCircuitsFault cs (CircuitCycle name) =
    Lacks (IsSecond cs) × Lacks (HasCall cs (is_missing cs))
    × Lacks (HasCall cs (is_other_count cs)) × IsCycle cs name
IsCircuitsFault cs NoMemory = Unit {0}
IsCircuitsFault cs fault = ⊥

-- the first fault of the cards as a whole
abbrev pub IsWholeFault : Cards → SpiceFault → Type 0
IsWholeFault cards (NotClosed line) = (c : Circuit) × (cards.open_one ≡ Some c) × (c.line ≡ line)
IsWholeFault cards NoMemory = Unit {0}
IsWholeFault cards fault = (cards.open_one ≡ None) × IsCircuitsFault (all_of cards) fault

-- nothing is wrong with circuits, whose names and calls are these
pub record AreOrdered (cs : List Circuit) (names : List (List ℕ)) (calls : List (List ℕ))
    (order : List ℕ) : Type 0 where
  pub one : Lacks (IsSecond cs)
  pub called : Lacks (HasCall cs (is_missing cs))
  pub counts : Lacks (HasCall cs (is_other_count cs))
  pub few : length cs < 2 ^ 32
  pub texts : names ≡ names_of cs
  pub lists : calls ≡ call_lists cs
  pub in_order : IsCallOrder (call_lists cs) order
