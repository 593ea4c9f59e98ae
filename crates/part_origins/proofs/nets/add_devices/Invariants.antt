use Rattle.std.proofs.Common.{◌≡◌, ◌++◌, map, length}
use Rattle.std.specs.Prelude.{flat_map}
use Rattle.net_model.specs.Rows.{plain_device}
use Rattle.part_origins.specs.Nets.{terminals_at}
use Rattle.part_origins.proofs.nets.add_devices.Given as goal

abbrev pub invariant-rows : goal.invariant-rows
invariant-rows l =
    l.seen.items ++ flat_map (terminals_at l.nets) (map plain_device l.rest) ≡ l.initial.seen.items ++ flat_map (terminals_at l.nets) (map plain_device l.rows)

abbrev pub decreases-rows : goal.decreases-rows
decreases-rows l = length l.rest
