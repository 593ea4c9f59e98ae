use Rattle.std.proofs.Common.{rules, FitsSigned, w64}
use Rattle.std.proofs.lemmas.Int.{to_z-of_z}
use Rattle.cell_context.proofs.Times.{sum_within}
use Rattle.cell_context.proofs.arrays.shift.Goals as goal

pub plus-requires-2-clause-a : goal.plus-requires-2-clause-a
plus-requires-2-clause-a c =
    let f0 : FitsSigned w64 c.args.start = search rules in
    let f1 : FitsSigned w64 c.times-across.result = search rules in let f2 : FitsSigned w64 c.plus.result = search rules in
    let f3 : FitsSigned w64 c.args.column_step = search rules in
    let a = simp to_z-of_z at c.times-across.ensures in let e = simp to_z-of_z at c.plus.ensures in
    simp to_z-of_z (sum_within c.args.start c.times-across.result c.plus.result _ c.requires.start c.requires.column a e)
