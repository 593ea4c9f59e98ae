-- The bad gates of a design: its list has each of them, and no other, and there is one such list.
use Rattle.std.specs.Prelude.{◌≡◌, ◌↔◌, ℕ, List, []}
use Rattle.flat_layout.specs.GateTables.{AreBadGates, Bad, BadGate, GateEntry, all_bad_gates}
use Rattle.flat_layout.specs.Layout.{Design, IsReached}
use Rattle.plain_netlist.specs.Lists.{IsListed}

-- the entry of its cell's list
abbrev pub bad_entry : BadGate → GateEntry
bad_entry b = record { at = b.at; verdict = Bad b.cause }

-- of these cells each bad gate of their lists is listed, and no other
abbrev pub BadListedLaw : Type 0
BadListedLaw = (gates : ℕ → List GateEntry) (cells : List ℕ) (b : BadGate)
    → IsListed b (all_bad_gates gates cells)
    ↔ (IsListed b.cell cells × IsListed (bad_entry b) (gates b.cell))

-- a design has one list of bad gates
abbrev pub OneBadLaw : Type 0
OneBadLaw = (d : Design) (level : ℕ → ℕ) (gates : ℕ → List GateEntry) (v z : List BadGate)
    → AreBadGates d level gates v → AreBadGates d level gates z → v ≡ z

-- and it is empty exactly where no reached cell's list has a bad gate
abbrev pub NoBadLaw : Type 0
NoBadLaw = (d : Design) (level : ℕ → ℕ) (gates : ℕ → List GateEntry) (v : List BadGate)
    → AreBadGates d level gates v
    → (v ≡ []) ↔ ((b : BadGate) → IsReached d b.cell → IsListed (bad_entry b) (gates b.cell) → ⊥)
