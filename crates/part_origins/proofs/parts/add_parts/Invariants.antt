use Rattle.std.proofs.Common.{◌≡◌, ◌+◌, ◌++◌, map, length}
use Rattle.net_model.specs.Rows.{plain_device}
use Rattle.part_origins.specs.Parts.{parts_from}
use Rattle.part_origins.proofs.parts.add_parts.Given as goal

abbrev pub invariant-devices : goal.invariant-devices
invariant-devices l =
    (l.parts.items ++ parts_from l.spot l.j (map plain_device l.rest) ≡ l.initial.parts.items ++ parts_from l.spot 0 (map plain_device l.devices))
    × (l.j + length l.rest ≡ length l.devices)

abbrev pub decreases-devices : goal.decreases-devices
decreases-devices l = length l.rest
