use Rattle.std.proofs.Common.{◌≡◌, ◌++◌, ◌+◌, map, length}
use Rattle.merge_laws.specs.Grouped.{is_too_wide, merged_circuit}
use Rattle.net_model.specs.Rows.{plain_circuit}
use Rattle.net_model.specs.Tests.{first_from, first_of}
use Rattle.device_merge.proofs.merged.merge_circuits.Given as goal

abbrev pub invariant-circuits : goal.invariant-circuits
invariant-circuits l =
    (map plain_circuit l.circuits.items ++ map merged_circuit (map plain_circuit l.rest) ≡ map merged_circuit (map plain_circuit l.n.circuits.items))
    × (first_from l.count is_too_wide (map plain_circuit l.rest) ≡ first_of is_too_wide (map plain_circuit l.n.circuits.items))
    × (l.count + length l.rest ≡ length l.n.circuits.items)

abbrev pub decreases-circuits : goal.decreases-circuits
decreases-circuits l = length l.rest
