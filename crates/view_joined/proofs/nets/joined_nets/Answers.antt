use Rattle.std.proofs.Common.{List, ap, ◌∙◌, map}
use Rattle.part_origins.specs.Inside.{plain_spot}
use Rattle.view_netlist.specs.declared.drawing.Shape.{Shape}
use Rattle.view_joined.specs.Nets.{all_put}
use Rattle.view_joined.proofs.Put.{are_joined}
use Rattle.view_joined.proofs.nets.joined_nets.Goals as goal

pub returns : goal.returns
returns c =
    are_joined (map plain_spot c.args.spots.now) c.args.motions.now c.args.drawings.now c.args.numbers.now c.args.count _
    (c.in_ok-put_all.ensures ∙ ap (λ (z : List (List Shape)). all_put c.args.numbers.now c.args.motions.now c.args.drawings.now 0 (map plain_spot c.args.spots.now) z) c.in_ok-lists.ensures)
