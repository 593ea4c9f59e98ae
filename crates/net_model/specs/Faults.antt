-- What a check of a netlist answers, and the calls of a netlist as numbers that call numbers.
use Rattle.std.specs.Prelude.{◌≡◌, ◌↔◌, ℕ, List, map, Option, Some, None}
use Rattle.plain_netlist.specs.Netlist.{CallRow, Circuit, Netlist, IsCall}
use Rattle.plain_netlist.specs.Sound as sound
use Rattle.plain_netlist.specs.Sound.{IsFirstFault, IsInCycle}
use Rattle.call_order.specs.Order.{Calls, ReachesItself, IsFirstInCycle}
use Rattle.net_model.specs.declared.fault.NetFault.{NetFault}
use Rattle.net_model.specs.declared.fault.NetFault.TheVariants.{NameClash, BadTerminal}
use Rattle.net_model.specs.declared.fault.NetFault.TheVariants.{NoSuchCircuit, PinCount}
use Rattle.net_model.specs.declared.fault.NetFault.TheVariants.{CircuitCycle, NoMemory}

-- the answer names the netlist's first fault and the first circuit that shows it; want of memory
-- says nothing of the netlist
abbrev pub IsNetFault : Netlist → NetFault → Type 0
IsNetFault nl (NameClash c) = IsFirstFault nl sound.NameClash c
IsNetFault nl (BadTerminal c) = IsFirstFault nl sound.BadTerminal c
IsNetFault nl (NoSuchCircuit c) = IsFirstFault nl sound.NoSuchCircuit c
IsNetFault nl (PinCount c) = IsFirstFault nl sound.PinCount c
IsNetFault nl (CircuitCycle c) = IsFirstFault nl sound.CircuitCycle c
IsNetFault nl NoMemory = Unit {0}

-- the circuits that a circuit's calls call
abbrev pub called_by : Circuit → List ℕ
called_by c = map (λ (r : CallRow). r.circuit) c.calls

-- for each circuit, those that it calls
abbrev pub call_lists : Netlist → List (List ℕ)
call_lists nl = map called_by nl.circuits

-- the least number that reaches itself, or that none does
abbrev pub FindsCycle : List (List ℕ) → Option ℕ → Type 0
FindsCycle calls None = (k : ℕ) → ReachesItself calls k → ⊥
FindsCycle calls (Some k) = IsFirstInCycle calls k

-- calls and cycles are those of these lists
pub record CallListsLaw : Type 0 where
  pub calls : (nl : Netlist) (a b : ℕ) → Calls (call_lists nl) a b
      ↔ ((k : ℕ) × (row : CallRow) × IsCall nl a k row × (row.circuit ≡ b))
  pub cycles : (nl : Netlist) (k : ℕ) → ReachesItself (call_lists nl) k ↔ IsInCycle nl k
