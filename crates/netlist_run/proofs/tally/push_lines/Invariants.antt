use Rattle.std.proofs.Common.{◌≡◌, ◌++◌, map, length}
use Rattle.netlist_run.specs.Sums.{tally_text}
use Rattle.netlist_run.proofs.tally.push_lines.Given as goal

abbrev pub invariant-names : goal.invariant-names
invariant-names l =
    l.out.items ++ tally_text l.what (map (λ n. n.items) l.rest) l.left ≡ l.fn.out.items ++ tally_text l.what (map (λ n. n.items) l.names) l.counts

abbrev pub decreases-names : goal.decreases-names
decreases-names l = length l.rest
