use Rattle.std.proofs.Common.{List, subst, sym}
use Rattle.view_netlist.proofs.Drawings.{shapes_small}
use Rattle.view_netlist.specs.Drawing.{AreSmallShapes, plain_drawing}
use Rattle.view_netlist.specs.declared.drawing.Shape.{Shape}
use Rattle.view_joined.proofs.nets.put_spot.Goals as goal

pub put_if-requires-clause-shapes : goal.put_if-requires-clause-shapes
put_if-requires-clause-shapes c =
    subst (λ (l : List Shape). AreSmallShapes l) (sym c.shapes.ensures) (shapes_small (plain_drawing c.args.drawing.now) c.nets.n c.requires.drawing)
