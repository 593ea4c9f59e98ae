-- How cards say the kinds of devices: by this they are read and written.
use Rattle.std.specs.Prelude.{ℕ, Bool, true, false, List, ◌∷◌}
use Rattle.plain_netlist.specs.declared.kinds.DeviceKind.{DeviceKind}
use Rattle.plain_netlist.specs.declared.kinds.DeviceKind.TheVariants.{Mos4, ResistorWithBulk, Diode}
use Rattle.plain_netlist.specs.Devices.{Row, Ends, NoEnds, Both, nets_of}

-- M (0x4D), R (0x52) or D (0x44) begins a card
abbrev pub letter : DeviceKind → ℕ
letter Mos4 = 0x4D
letter ResistorWithBulk = 0x52
letter Diode = 0x44

-- the keys of the two sizes: L (0x4C) and W (0x57), of a diode P (0x50) and A (0x41)
abbrev pub first_key : DeviceKind → ℕ
first_key Mos4 = 0x4C
first_key ResistorWithBulk = 0x4C
first_key Diode = 0x50

abbrev pub second_key : DeviceKind → ℕ
second_key Mos4 = 0x57
second_key ResistorWithBulk = 0x57
second_key Diode = 0x41

-- the second size is an area
abbrev pub has_area : DeviceKind → Bool
has_area Mos4 = false
has_area ResistorWithBulk = false
has_area Diode = true

-- a card may have further parameters, which say nothing of the netlist
abbrev pub may_say_more : DeviceKind → Bool
may_say_more Mos4 = true
may_say_more ResistorWithBulk = false
may_say_more Diode = false

-- the nets in the order of a card: drain, gate, source, bulk; the two ends and the bulk of a
-- resistor; anode and cathode
abbrev pub in_card_order : {N : Type 0} → DeviceKind → Ends N → List N → List N
in_card_order Mos4 ends others = nets_of ends others
in_card_order ResistorWithBulk NoEnds others = others
in_card_order ResistorWithBulk (Both a b) others = a ∷ b ∷ others
in_card_order Diode ends others = nets_of ends others

abbrev pub card_nets : {N : Type 0} → Row N → List N
card_nets d = in_card_order d.kind d.ends d.others
