use Rattle.std.proofs.Common.{rules, FitsSigned, w64, pos, ◌*ℤ◌}
use Rattle.std.proofs.lemmas.Int.{to_z-of_z}
use Rattle.cell_context.proofs.arrays.rows_meeting.Goals as goal

pub returns-clause-all : goal.returns-clause-all
returns-clause-all c = λ row column lt lt' m.
    let p = c.args.place.now in
    let f0 : FitsSigned w64 c.args.place.now.motion.dx = search rules in let f1 : FitsSigned w64 c.args.place.now.motion.dy = search rules in
    let f2 : FitsSigned w64 c.args.place.now.row_step.x = search rules in let f3 : FitsSigned w64 c.args.place.now.row_step.y = search rules in
    let f4 : FitsSigned w64 c.args.place.now.column_step.x = search rules in let f5 : FitsSigned w64 c.args.place.now.column_step.y = search rules in
    let f6 : FitsSigned w64 c.args.reach.now.x_low = search rules in let f7 : FitsSigned w64 c.args.reach.now.x_high = search rules in
    let f8 : FitsSigned w64 c.args.reach.now.y_low = search rules in let f9 : FitsSigned w64 c.args.reach.now.y_high = search rules in
    let x = c.extent_of-x.ensures.all column lt' in let y = c.extent_of-y.ensures.all column lt' in
    let h1 : FitsSigned w64 c.extent_of-x.result.low = search rules in let h2 : FitsSigned w64 c.extent_of-x.result.high = search rules in
    let h3 : FitsSigned w64 c.extent_of-y.result.low = search rules in let h4 : FitsSigned w64 c.extent_of-y.result.high = search rules in
    let x' = simp to_z-of_z at x in let y' = simp to_z-of_z at y in
    c.both.ensures.all row
    (c.wide_axis-across.ensures.all row (pos column *ℤ p.column_step.x) lt x'.0 x'.1 (simp to_z-of_z m.x_low) (simp to_z-of_z m.x_high))
    (c.wide_axis-up.ensures.all row (pos column *ℤ p.column_step.y) lt y'.0 y'.1 (simp to_z-of_z m.y_low) (simp to_z-of_z m.y_high))
