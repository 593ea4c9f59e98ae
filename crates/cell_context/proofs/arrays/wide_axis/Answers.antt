use Rattle.std.proofs.Common.{rules, FitsSigned, w64}
use Rattle.std.proofs.lemmas.Int.{to_z-of_z}
use Rattle.cell_context.proofs.Times.{low_wide, high_wide}
use Rattle.cell_context.proofs.arrays.wide_axis.Goals as goal

pub returns-clause-all : goal.returns-clause-all
returns-clause-all c = λ i z lt a b d e.
    let f0 : FitsSigned w64 c.args.start = search rules in let f1 : FitsSigned w64 c.args.step = search rules in
    let f2 : FitsSigned w64 c.args.low = search rules in let f3 : FitsSigned w64 c.args.high = search rules in
    let f4 : FitsSigned w64 c.args.extent.low = search rules in let f5 : FitsSigned w64 c.args.extent.high = search rules in
    let g1 : FitsSigned w64 c.widened.result = search rules in let g2 : FitsSigned w64 c.widened-2.result = search rules in
    let e1 = simp to_z-of_z at c.widened.ensures.exact in let e2 = simp to_z-of_z at c.widened-2.ensures.exact in
    let h = c.axis.ensures.all i lt in
    h (simp to_z-of_z (low_wide c.args.low c.args.start z _ c.args.extent.high c.widened.result e1 b d)) (simp to_z-of_z (high_wide c.args.high c.args.start z _ c.args.extent.low c.widened-2.result e2 a e))
