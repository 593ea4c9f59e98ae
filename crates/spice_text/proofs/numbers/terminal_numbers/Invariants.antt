use Rattle.std.proofs.Common.{◌≡◌, map, take, length}
use Rattle.text_table.specs.Texts.{place_of}
use Rattle.plain_netlist.specs.Devices.{terminal_nets}
use Rattle.spice_text.proofs.numbers.terminal_numbers.Given as goal

abbrev pub invariant-nets : goal.invariant-nets
invariant-nets l = (length l.numbers ≡ 4) × (take l.place l.numbers ≡ map (place_of l.nets) (take l.place (terminal_nets l.d)))
