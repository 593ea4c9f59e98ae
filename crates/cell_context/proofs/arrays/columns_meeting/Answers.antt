use Rattle.std.proofs.Common.{rules, FitsSigned, w64, pos, ◌*ℤ◌}
use Rattle.std.proofs.lemmas.Int.{to_z-of_z}
use Rattle.cell_context.proofs.Times.{low_swap, high_swap}
use Rattle.cell_context.proofs.arrays.columns_meeting.Goals as goal

pub returns-clause-within : goal.returns-clause-within
returns-clause-within c = c.both.ensures.within c.args.place.now.columns c.axis-across.ensures.within

pub returns-clause-all : goal.returns-clause-all
returns-clause-all c = λ column lt m.
    let p = c.args.place.now in
    let f0 : FitsSigned w64 c.args.place.now.motion.dx = search rules in let f1 : FitsSigned w64 c.args.place.now.motion.dy = search rules in
    let f2 : FitsSigned w64 c.args.place.now.row_step.x = search rules in let f3 : FitsSigned w64 c.args.place.now.row_step.y = search rules in
    let f4 : FitsSigned w64 c.args.place.now.column_step.x = search rules in let f5 : FitsSigned w64 c.args.place.now.column_step.y = search rules in
    let f6 : FitsSigned w64 c.args.reach.now.x_low = search rules in let f7 : FitsSigned w64 c.args.reach.now.x_high = search rules in
    let f8 : FitsSigned w64 c.args.reach.now.y_low = search rules in let f9 : FitsSigned w64 c.args.reach.now.y_high = search rules in
    let g1 : FitsSigned w64 c.start_at-x.result = search rules in let g2 : FitsSigned w64 c.start_at-y.result = search rules in
    let x = simp to_z-of_z at c.start_at-x.ensures.exact in let y = simp to_z-of_z at c.start_at-y.ensures.exact in
    c.both.ensures.all column
    (c.axis-across.ensures.all column lt
    (simp to_z-of_z (low_swap c.args.reach.now.x_low p.motion.dx (pos column *ℤ p.column_step.x) (pos c.args.row *ℤ p.row_step.x) c.start_at-x.result x m.x_low))
    (simp to_z-of_z (high_swap c.args.reach.now.x_high p.motion.dx (pos column *ℤ p.column_step.x) (pos c.args.row *ℤ p.row_step.x) c.start_at-x.result x m.x_high)))
    (c.axis-up.ensures.all column lt
    (simp to_z-of_z (low_swap c.args.reach.now.y_low p.motion.dy (pos column *ℤ p.column_step.y) (pos c.args.row *ℤ p.row_step.y) c.start_at-y.result y m.y_low))
    (simp to_z-of_z (high_swap c.args.reach.now.y_high p.motion.dy (pos column *ℤ p.column_step.y) (pos c.args.row *ℤ p.row_step.y) c.start_at-y.result y m.y_high)))
