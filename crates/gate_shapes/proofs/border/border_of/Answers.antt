use Rattle.gate_shapes.proofs.Borders.{border_law, from_or}
use Rattle.gate_shapes.proofs.border.border_of.Goals as goal

pub returns : goal.returns
returns c =
    let r = c.in_ok-right.right in let u = c.in_ok-up.up in let l = c.in_ok-left.left in let d = c.in_ok-down.down in
    border_law c.args.part.now c.args.ends.now c.in_ok-touched.touched r u l d c.in_ok-wide.wide c.in_ok-long.long
    c.in_ok-right.ensures c.in_ok-up.ensures c.in_ok-left.ensures c.in_ok-down.ensures c.in_ok-wide.ensures.sum c.in_ok-long.ensures.sum
    (from_or r.touched u.touched l.touched d.touched c.in_ok-touched.touched c.in_ok-touched.ensures)
