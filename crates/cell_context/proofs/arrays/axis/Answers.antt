use Rattle.std.proofs.Common.{rules, FitsSigned, w64}
use Rattle.std.proofs.lemmas.Int.{to_z-of_z}
use Rattle.cell_context.proofs.Times.{low_less, high_less}
use Rattle.cell_context.proofs.arrays.axis.Goals as goal

pub returns-clause-all : goal.returns-clause-all
returns-clause-all c = λ i lt a b.
    let f0 : FitsSigned w64 c.args.start = search rules in let f1 : FitsSigned w64 c.args.step = search rules in
    let f2 : FitsSigned w64 c.args.low = search rules in let f3 : FitsSigned w64 c.args.high = search rules in
    let g1 : FitsSigned w64 c.less.result = search rules in let g2 : FitsSigned w64 c.less-2.result = search rules in
    let e1 = simp to_z-of_z at c.less.ensures.exact in let e2 = simp to_z-of_z at c.less-2.ensures.exact in
    let h = c.steps_between.ensures.all i lt in
    h (simp to_z-of_z (low_less c.args.low c.args.start _ c.less.result e1 a)) (simp to_z-of_z (high_less c.args.high c.args.start _ c.less-2.result e2 b))
