-- How much is compared: devices, nets and pins of circuits, each circuit once however often it is
-- placed.
use Rattle.std.specs.Prelude.{ℕ, ◌+◌, ◌==◌, List, [], ◌++◌, codes, decimal, length}
use Rattle.std.specs.Prelude.{if◌then◌else◌}
use Rattle.std.specs.List.{sum_by}
use Rattle.plain_netlist.specs.Netlist.{Circuit}

abbrev pub device_count : List Circuit → ℕ
device_count circuits = sum_by (λ c. length c.devices) circuits

abbrev pub net_count : List Circuit → ℕ
net_count circuits = sum_by (λ c. length c.nets) circuits

abbrev pub pin_count : List Circuit → ℕ
pin_count circuits = sum_by (λ c. length c.pins) circuits

-- a word and a number
abbrev pub counted : List ℕ → ℕ → List ℕ
counted word count = word ++ decimal count

-- `devices N, nets N, pins N`
abbrev pub counts_text : List Circuit → List ℕ
counts_text circuits = counted (codes "devices ") (device_count circuits)
    ++ (counted (codes ", nets ") (net_count circuits)
    ++ counted (codes ", pins ") (pin_count circuits))

-- without a device on either side everything matches
abbrev pub warning_text : List Circuit → List Circuit → List ℕ
warning_text lefts rights =
    if device_count lefts + device_count rights == 0
    then codes "Warning: no device was compared, so opens and shorts aren't seen.\n" else []

abbrev pub layout_text : List Circuit → List ℕ
layout_text circuits = codes "Compared: " ++ (counts_text circuits ++ codes " of the layout; ")

abbrev pub schematic_text : List Circuit → List ℕ
schematic_text circuits = counts_text circuits ++ codes " of the schematic.\n"

-- the line of what was compared, and a warning where no device was
abbrev pub compared_text : List Circuit → List Circuit → List ℕ
compared_text lefts rights =
    layout_text lefts ++ (schematic_text rights ++ warning_text lefts rights)
