use Rattle.std.proofs.Common.{◌≡◌, ◌-◌, ◌≤◌}
use Rattle.netlist_join.specs.Joining.{all_joined, joined}
use Rattle.netlist_join.specs.Seen.{seen}
use Rattle.netlist_join.proofs.join.join_files.Given as goal

abbrev pub invariant-files : goal.invariant-files
invariant-files l =
    (l.file ≤ l.count) × (all_joined (l.count - l.file) l.files l.file (seen l.joined) ≡ joined l.files l.count l.has_title)

abbrev pub decreases-files : goal.decreases-files
decreases-files l = l.count - l.file
