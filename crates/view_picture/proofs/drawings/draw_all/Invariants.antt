use Rattle.std.proofs.Common.{length}
use Rattle.std.specs.Prelude.{map}
use Rattle.net_model.specs.Rows.{plain_circuit}
use Rattle.view_drawing.specs.Devices.{areas_of}
use Rattle.view_drawing.specs.Drawn.{listed_tables}
use Rattle.view_shapes.specs.Shown.{called_by}
use Rattle.view_picture.proofs.Picturing.{DrawnSoFar}
use Rattle.view_picture.proofs.drawings.draw_all.Given as goal

abbrev pub invariant-circuits : goal.invariant-circuits
invariant-circuits l = DrawnSoFar l.given.source (listed_tables l.given.lists.now) (called_by l.given.lists.now.called.items) l.given.cells.now l.table l.shown
    (areas_of l.initial.regions.regions.items) (areas_of l.regions.regions.items) (map plain_circuit l.rest) l.out.items (map plain_circuit l.lefts)

abbrev pub decreases-circuits : goal.decreases-circuits
decreases-circuits l = length l.rest
