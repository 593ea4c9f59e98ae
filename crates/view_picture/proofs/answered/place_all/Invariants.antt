use Rattle.std.proofs.Common.{map}
use Rattle.net_model.specs.Rows.{plain_circuit}
use Rattle.view_netlist.specs.Drawing.{AreAllSmall}
use Rattle.view_picture.specs.Picture.{plain_drawings}
use Rattle.view_picture.proofs.Placed.{PlacesOn}
use Rattle.view_picture.proofs.answered.place_all.Given as goal

abbrev pub invariant-drawings : goal.invariant-drawings
invariant-drawings l =
    PlacesOn (map plain_circuit l.others) (map plain_circuit l.rest) (plain_drawings l.drawing-iterator.rest.items) (plain_drawings l.out.items)
    (map plain_circuit l.answered) (map plain_circuit l.lefts) (plain_drawings l.fn.drawings.items)
    × AreAllSmall l.drawing-iterator.rest.items × AreAllSmall l.out.items
