use Rattle.std.proofs.Common.{◌≡◌, ◌==◌, ◌+◌, length}
use Rattle.std.specs.List.{position_or_len}
use Rattle.view_cross.proofs.matched.pin_on.Given as goal

abbrev pub invariant-pins : goal.invariant-pins
invariant-pins l =
    (l.k + position_or_len (λ p. p == l.net) l.rest ≡ position_or_len (λ p. p == l.net) l.pins)
    × (l.k + length l.rest ≡ length l.pins)

abbrev pub decreases-pins : goal.decreases-pins
decreases-pins l = length l.rest
