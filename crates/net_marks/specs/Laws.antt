-- What right tables give of terminals.
use Rattle.std.specs.Prelude.{◌<◌, ℕ, List}
use Rattle.flat_layout.specs.Gates.{Rule}
use Rattle.flat_layout.specs.GateTables.{AreGates, GateEntry}
use Rattle.flat_layout.specs.Layout.{Design}
use Rattle.flat_layout.specs.Nets.{AreNets, Tables}
use Rattle.flat_layout.specs.Pins.{HasGate}
use Rattle.flat_layout.specs.Regions.{Wiring}

-- a terminal's net is one of the cell's
abbrev pub TerminalLaw : Type 0
TerminalLaw = (d : Design) (w : Wiring) (t : Tables) (rules : List Rule)
    (gates : ℕ → List GateEntry) (cell x : ℕ) → AreNets d w t cell (t.nets cell)
    → AreGates d w t rules cell (gates cell) → HasGate gates cell x → x < (t.nets cell).count
