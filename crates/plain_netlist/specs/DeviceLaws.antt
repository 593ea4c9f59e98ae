-- Being the same device is an equivalence, it tells the joined terminals, and goes along with maps
-- of nets.
use Rattle.std.specs.Prelude.{◌≡◌, ◌↔◌, ℕ, Bool, Decides}
use Rattle.plain_netlist.specs.declared.kinds.DeviceKind.{DeviceKind}
use Rattle.plain_netlist.specs.Kinds.{same_device_kind}
use Rattle.plain_netlist.specs.Lists.{IsListed}
use Rattle.plain_netlist.specs.Devices.{Row, AreRowsAlike, IsRowOver, row_over, terminal_nets}
use Rattle.plain_netlist.specs.Devices.{Terminal, IsAt, IsFormed}
use Rattle.plain_netlist.specs.Flats.{Reversed, Through}
use Rattle.plain_netlist.specs.FlatLaws.{Passes}
use Rattle.plain_netlist.specs.Netlist.{DeviceRow, Slot}

-- two kinds are one exactly where the test says so
abbrev pub KindLaw : Type 0
KindLaw = (a b : DeviceKind) → Decides (same_device_kind a b) (a ≡ b)

-- a device is the same as itself
abbrev pub RowSameLaw : Type 0
RowSameLaw = (r : Row Slot) → AreRowsAlike (λ a b. a ≡ b) r r

-- in either order
abbrev pub RowTurnedLaw : Type 0
RowTurnedLaw = (net : Slot → Slot → Bool) (r s : Row Slot)
    → AreRowsAlike (Passes net) r s → AreRowsAlike (Reversed (Passes net)) s r

-- and through a third
abbrev pub RowThroughLaw : Type 0
RowThroughLaw = (net on_net : Slot → Slot → Bool) (r s t : Row Slot)
    → AreRowsAlike (Passes net) r s → AreRowsAlike (Passes on_net) s t
    → AreRowsAlike (Through (Passes net) (Passes on_net)) r t

-- each terminal's net is joined with that of a terminal
abbrev pub RowTerminalLaw : Type 0
RowTerminalLaw = (net : Slot → Slot → Bool) (r s : Row Slot) → AreRowsAlike (Passes net) r s
    → (n : Slot) → IsListed n (terminal_nets r)
    → (m : Slot) × IsListed m (terminal_nets s) × Passes net n m

-- the nets of the terminals are those at which a terminal stands
abbrev pub TerminalsLaw : Type 0
TerminalsLaw = (r : DeviceRow) (n : ℕ)
    → IsListed n (terminal_nets r) ↔ ((t : Terminal) × IsAt t r n)

-- of two formed devices of one kind, class and sizes each terminal of the one is one of the other
abbrev pub FormedLaw : Type 0
FormedLaw = (net : ℕ → Slot → Bool) (r : DeviceRow) (s : Row Slot) → IsFormed r → IsFormed s
    → r.kind ≡ s.kind → r.class ≡ s.class → r.sizes ≡ s.sizes
    → ((t : Terminal) (n : ℕ) (m : Slot) → IsAt t r n → IsAt t s m → Passes net n m)
    → IsRowOver (Passes net) r s

-- the device over its nets' images is the same by these, in the same order
abbrev pub CarriedLaw : Type 0
CarriedLaw = (f : ℕ → Slot) (r : DeviceRow) → IsRowOver (λ n m. f n ≡ m) r (row_over f r)

-- the same in the same order is the same
abbrev pub OrderedLaw : Type 0
OrderedLaw = (net : ℕ → Slot → Bool) (r : DeviceRow) (s : Row Slot) → IsRowOver (Passes net) r s
    → AreRowsAlike (Passes net) r s
