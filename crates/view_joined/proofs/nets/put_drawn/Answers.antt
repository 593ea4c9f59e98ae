use Rattle.std.proofs.Common.{subst, sym}
use Rattle.view_netlist.proofs.Drawings.{drawn_small}
use Rattle.view_netlist.specs.Drawing.{IsSmallDrawing}
use Rattle.view_joined.proofs.nets.put_drawn.Goals as goal

pub put_spot-requires-clause-drawing : goal.put_spot-requires-clause-drawing
put_spot-requires-clause-drawing c = subst IsSmallDrawing (sym c.drawing_at-drawing.ensures) (drawn_small c.args.drawings.now c.args.spot.now.circuit c.requires.small)
