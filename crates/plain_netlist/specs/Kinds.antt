-- What the kinds of devices have.
use Rattle.std.specs.Prelude.{ℕ, Bool, true, false, ◌==◌}
use Rattle.plain_netlist.specs.declared.kinds.DeviceKind.{DeviceKind}
use Rattle.plain_netlist.specs.declared.kinds.DeviceKind.TheVariants.{Mos4, ResistorWithBulk, Diode}

-- so many terminals
abbrev pub terminal_count : DeviceKind → ℕ
terminal_count Mos4 = 4
terminal_count ResistorWithBulk = 3
terminal_count Diode = 2

-- two of them may change places
abbrev pub has_ends : DeviceKind → Bool
has_ends Mos4 = true
has_ends ResistorWithBulk = true
has_ends Diode = false

-- so many others have a place of their own
abbrev pub other_count : DeviceKind → ℕ
other_count Mos4 = 2
other_count ResistorWithBulk = 1
other_count Diode = 2

-- its number in the list of kinds
abbrev pub kind_number : DeviceKind → ℕ
kind_number Mos4 = 0
kind_number ResistorWithBulk = 1
kind_number Diode = 2

-- two kinds are one
abbrev pub same_device_kind : DeviceKind → DeviceKind → Bool
same_device_kind a b = kind_number a == kind_number b
