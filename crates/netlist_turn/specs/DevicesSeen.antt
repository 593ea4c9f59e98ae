-- What the code's records of devices are.
use Rattle.std.specs.Prelude.{List, map}
use Rattle.spice_cards.specs.Parts.{Param}
use Rattle.netlist_turn.specs.Devices as spec
use Rattle.netlist_turn.specs.declared.device.Key.{Key}
use Rattle.netlist_turn.specs.declared.device.Device.{Device}

abbrev pub key_seen : Key → Param
key_seen k = record { key = k.key.items; value = k.name.items }

abbrev pub keys_seen : List Key → List Param
keys_seen ks = map key_seen ks

abbrev pub device_seen : Device → spec.Device
device_seen d = record {
  kind = d.kind;
  fixed = map (λ n. n.items) d.fixed.items;
  places = d.places.items;
  keys = keys_seen d.keys.items;
}
