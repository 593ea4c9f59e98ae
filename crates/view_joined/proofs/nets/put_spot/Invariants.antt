use Rattle.std.proofs.Common.{◌≡◌, ◌+◌, length}
use Rattle.view_netlist.specs.Drawing.{plain_drawing}
use Rattle.view_joined.specs.Nets.{shape_lists, spot_put}
use Rattle.view_joined.proofs.nets.put_spot.Given as goal

abbrev pub invariant-nets : goal.invariant-nets
invariant-nets l =
    (spot_put l.numbers l.motion (plain_drawing l.drawing).nets l.n l.rest (shape_lists l.lists.items) ≡ spot_put l.numbers l.motion (plain_drawing l.drawing).nets 0 l.nets (shape_lists l.initial.lists.items))
    × (l.n + length l.rest ≡ length l.nets)

abbrev pub decreases-nets : goal.decreases-nets
decreases-nets l = length l.rest
