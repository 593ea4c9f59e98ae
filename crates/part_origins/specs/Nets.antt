-- The nets of flat circuits that are kept, by the spots that stand inside them.
use Rattle.std.specs.Prelude.{ℕ, List, [], ◌++◌, map, flat_map, Option, Some, None, slice_get}
use Rattle.std.specs.Prelude.{slice_index_or}
use Rattle.align_laws.specs.Lists.{given_of}
use Rattle.plain_netlist.specs.Netlist.{CallRow, Circuit, DeviceRow, Netlist}
use Rattle.plain_netlist.specs.Devices.{terminal_nets}
use Rattle.part_origins.specs.Inside.{PlainSpot}

abbrev pub net_at : List ℕ → ℕ → ℕ
net_at nets n = slice_index_or nets n 0

-- the flat nets of a device whose circuit's nets stand so
abbrev pub terminals_at : List ℕ → DeviceRow → List ℕ
terminals_at nets d = map (net_at nets) (terminal_nets d)

abbrev pub pins_or : Option (List ℕ) → List ℕ
pins_or (Some pins) = pins
pins_or None = []

-- the held pins of the circuit that is kept under a number
abbrev pub pins_under : List (List ℕ) → Option ℕ → List ℕ
pins_under held None = []
pins_under held (Some number) = pins_or (slice_get held number)

-- the flat nets of a call at the held pins of the circuit that it calls, where that is kept
abbrev pub call_nets_at : List (Option ℕ) → List (List ℕ) → List ℕ → CallRow → List ℕ
call_nets_at numbers held nets r = map (λ p. net_at nets (net_at r.nets p))
    (pins_under held (slice_index_or numbers r.circuit None))

abbrev pub spot_terminals : Netlist → PlainSpot → List ℕ
spot_terminals g s = flat_map (terminals_at s.nets) (given_of g s.circuit).devices

abbrev pub spot_calls : Netlist → List (Option ℕ) → List (List ℕ) → PlainSpot → List ℕ
spot_calls g numbers held s =
    flat_map (call_nets_at numbers held s.nets) (given_of g s.circuit).calls

-- the flat nets that devices are on, and calls of kept circuits at held pins
abbrev pub seen_nets : Netlist → List (Option ℕ) → List (List ℕ) → List PlainSpot → List ℕ
seen_nets g numbers held spots =
    flat_map (spot_terminals g) spots ++ flat_map (spot_calls g numbers held) spots

-- the nets of a circuit that devices and calls are on
abbrev pub named_nets : Circuit → List ℕ
named_nets c =
    flat_map terminal_nets c.devices ++ flat_map (λ (r : CallRow). r.nets) c.calls
