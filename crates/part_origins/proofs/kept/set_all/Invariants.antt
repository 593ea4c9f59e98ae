use Rattle.std.proofs.Common.{◌≡◌, ◌+◌, length}
use Rattle.part_origins.specs.Kept.{set_all}
use Rattle.part_origins.proofs.kept.set_all.Given as goal

abbrev pub invariant-places : goal.invariant-places
invariant-places l =
    (set_all l.table.items l.i l.rest l.values ≡ set_all l.initial.table.items 0 l.at l.values)
    × (l.i + length l.rest ≡ length l.at)

abbrev pub decreases-places : goal.decreases-places
decreases-places l = length l.rest
