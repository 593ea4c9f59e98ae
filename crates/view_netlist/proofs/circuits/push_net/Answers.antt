use Rattle.std.proofs.Common.{sym, subst}
use Rattle.view_netlist.specs.Drawing.{AreSmallShapes, plain_drawing}
use Rattle.view_netlist.proofs.Drawings.{shapes_small}
use Rattle.view_netlist.proofs.circuits.push_net.Goals as goal

pub push_shapes-requires : goal.push_shapes-requires
push_shapes-requires c = subst AreSmallShapes (sym c.shapes.ensures) (shapes_small (plain_drawing c.args.drawing.now) c.args.k c.requires)
