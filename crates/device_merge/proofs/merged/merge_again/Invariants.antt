use Rattle.std.proofs.Common.{◌≡◌, ◌++◌, ◌||◌, map, length}
use Rattle.std.specs.List.{list_any}
use Rattle.merge_laws.specs.Grouped.{merged_circuit}
use Rattle.net_model.specs.Rows.{plain_circuit}
use Rattle.device_merge.specs.Merged.{is_shorter}
use Rattle.device_merge.proofs.Few.{AreNarrowCircuits}
use Rattle.device_merge.proofs.merged.merge_again.Given as goal

abbrev pub invariant-circuits : goal.invariant-circuits
invariant-circuits l =
    (map plain_circuit l.circuits.items ++ map merged_circuit (map plain_circuit l.rest) ≡ map merged_circuit (map plain_circuit l.n.circuits.items))
    × AreNarrowCircuits (map plain_circuit l.rest)
    × ((l.had_alike || list_any is_shorter (map plain_circuit l.rest)) ≡ list_any is_shorter (map plain_circuit l.n.circuits.items))

abbrev pub decreases-circuits : goal.decreases-circuits
decreases-circuits l = length l.rest
