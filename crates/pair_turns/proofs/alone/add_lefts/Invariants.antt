use Rattle.std.proofs.Common.{◌≡◌, ◌++◌, length, map}
use Rattle.pair_turns.specs.Alone.{stranger}
use Rattle.pair_turns.proofs.alone.add_lefts.Given as goal

abbrev pub invariant-names : goal.invariant-names
invariant-names l = l.lines.items ++ map (λ name. (name, stranger l.most name)) l.rest ≡ l.initial.lines.items ++ map (λ name. (name, stranger l.most name)) l.names

abbrev pub decreases-names : goal.decreases-names
decreases-names l = length l.rest
