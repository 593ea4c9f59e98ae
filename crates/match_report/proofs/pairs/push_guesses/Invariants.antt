use Rattle.std.proofs.Common.{◌≡◌, ◌++◌, map, length}
use Rattle.match_types.specs.Plain.{row_of}
use Rattle.match_report.specs.Pairs.{guess_lines}
use Rattle.match_report.proofs.pairs.push_guesses.Given as goal

abbrev pub invariant-guesses : goal.invariant-guesses
invariant-guesses l = l.out.items ++ guess_lines (map row_of l.rest) ≡ l.initial.out.items ++ guess_lines (map row_of l.guesses)

abbrev pub decreases-guesses : goal.decreases-guesses
decreases-guesses l = length l.rest
