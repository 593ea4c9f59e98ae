use Rattle.std.proofs.Common.{◌≡◌, ◌+◌, map, length}
use Rattle.part_origins.specs.Inside.{plain_spot}
use Rattle.view_joined.specs.Nets.{all_put, shape_lists}
use Rattle.view_joined.proofs.nets.put_all.Given as goal

abbrev pub invariant-spots : goal.invariant-spots
invariant-spots l =
    (all_put l.numbers l.motions l.drawings l.i (map plain_spot l.rest) (shape_lists l.lists.items) ≡ all_put l.numbers l.motions l.drawings 0 (map plain_spot l.spots) (shape_lists l.initial.lists.items))
    × (l.i + length l.rest ≡ length l.spots)

abbrev pub decreases-spots : goal.decreases-spots
decreases-spots l = length l.rest
