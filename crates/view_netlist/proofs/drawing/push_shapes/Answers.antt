use Rattle.std.proofs.Common.{◌-◌, pos, length, take, drop, get_or}
use Rattle.view_words.proofs.Rows.{first_and_rest}
use Rattle.view_netlist.specs.Drawing.{origin}
use Rattle.view_netlist.specs.declared.drawing.Shape.{Shape}
use Rattle.view_netlist.proofs.Shapes.{shape_more}
use Rattle.view_netlist.proofs.drawing.push_shapes.Goals as goal

pub shapes-preserved : goal.shapes-preserved
shapes-preserved c =
    let rest = c.shapes.rest.now in
    let none : Shape = record { layer = 0; rect = record { x1 = pos 0; y1 = pos 0; x2 = pos 0; y2 = pos 0 } } in
    let more = take (length rest - 1) (drop 1 rest) in
    shape_more c.args.layers.now c.shapes.out.items c.push_shape.new.out.items c.shapes.corner c.upper_right-corner.result (get_or rest 0 none) rest more c.args.out.now.items origin
    c.args.shapes.now c.shapes.invariant (first_and_rest rest none c.in-len1-up.len_at_least) c.in_ok-push_shape.ensures c.upper_right-corner.ensures
