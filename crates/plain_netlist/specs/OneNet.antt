-- Nets are classes: standing on one net is an equivalence of slots.
use Rattle.std.specs.Prelude.{ℕ}
use Rattle.plain_netlist.specs.Netlist.{Netlist, Slot, InOneNet}

-- each slot stands on one net with itself
abbrev pub SelfLaw : Type 0
SelfLaw = (nl : Netlist) (t : ℕ) (a : Slot) → InOneNet nl t a a

-- in either order
abbrev pub TurnLaw : Type 0
TurnLaw = (nl : Netlist) (t : ℕ) (a b : Slot) → InOneNet nl t a b → InOneNet nl t b a

-- and through a third
abbrev pub ThroughLaw : Type 0
ThroughLaw = (nl : Netlist) (t : ℕ) (a b c : Slot)
    → InOneNet nl t a b → InOneNet nl t b c → InOneNet nl t a c
