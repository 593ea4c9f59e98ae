use Rattle.std.proofs.Common.{length, map}
use Rattle.std.specs.List.{AllByRecursion}
use Rattle.net_model.specs.Rows.{plain_device}
use Rattle.netlist_file.specs.Spelled.{IsSpelledDevice}
use Rattle.netlist_file.proofs.laws.spelling.devices_spelled.Given as goal

abbrev pub invariant-devices : goal.invariant-devices
invariant-devices l = AllByRecursion IsSpelledDevice (map plain_device l.rest) → AllByRecursion IsSpelledDevice (map plain_device l.devices)

abbrev pub decreases-devices : goal.decreases-devices
decreases-devices l = length l.rest
