use Rattle.std.proofs.Common.{◌≡◌, ◌++◌, length}
use Rattle.std.specs.List.{filter}
use Rattle.pair_turns.specs.Alone.{is_untouched}
use Rattle.pair_turns.specs.Seen.{names_in}
use Rattle.pair_turns.proofs.alone.untouched_by.Given as goal

abbrev pub invariant-lines : goal.invariant-lines
invariant-lines l = l.lines.items ++ filter (is_untouched (names_in l.alone)) l.rest ≡ filter (is_untouched (names_in l.alone)) l.same

abbrev pub decreases-lines : goal.decreases-lines
decreases-lines l = length l.rest
