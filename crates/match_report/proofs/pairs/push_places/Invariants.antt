use Rattle.std.proofs.Common.{◌≡◌, ◌++◌, ◌≤◌, ◌+◌, length}
use Rattle.match_report.specs.Pairs.{place_lines}
use Rattle.match_report.proofs.pairs.push_places.Given as goal

abbrev pub invariant-places : goal.invariant-places
invariant-places l = (l.out.items ++ place_lines l.kind l.k l.rest ≡ l.initial.out.items ++ place_lines l.kind 0 l.places) × (l.k + length l.rest ≤ length l.places)

abbrev pub decreases-places : goal.decreases-places
decreases-places l = length l.rest
