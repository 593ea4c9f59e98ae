use Rattle.std.proofs.Common.{◌≡◌, ◌-◌, length}
use Rattle.rule_lines.specs.Lines.{lines_of}
use Rattle.netlist_join.specs.Joining.{file_joined, lines_joined}
use Rattle.netlist_join.specs.Seen.{call_seen, seen, taking_seen}
use Rattle.netlist_join.proofs.join.+join_file.Given as goal

abbrev pub decreases-join_file : goal.decreases-join_file
decreases-join_file l = l.depth

abbrev pub invariant-lines : goal.invariant-lines
invariant-lines l =
    lines_joined (file_joined (l.depth - 1) l.files) l.files l.by (taking_seen l.part) l.at (lines_of l.rest) (seen l.joined)
    ≡ file_joined l.depth l.files (call_seen l.call) l.by (seen l.fn.joined)

abbrev pub decreases-lines : goal.decreases-lines
decreases-lines l = length l.rest
