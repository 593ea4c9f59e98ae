use Rattle.std.proofs.Common.{rules, FitsSigned, w64, ◌∙◌}
use Rattle.std.proofs.lemmas.Int.{to_z-of_z}
use Rattle.cell_context.proofs.Times.{between_ends}
use Rattle.cell_context.proofs.arrays.extent_of.Goals as goal

pub returns-clause-all : goal.returns-clause-all
returns-clause-all c = λ i lt.
    let f : FitsSigned w64 c.times-far.result = search rules in let fs : FitsSigned w64 c.args.step = search rules in
    let f1 : FitsSigned w64 c.min.result = search rules in let f2 : FitsSigned w64 c.max.result = search rules in
    let low = simp to_z-of_z at c.min.ensures.value in let high = simp to_z-of_z at c.max.ensures.value in
    let e = simp to_z-of_z at c.times-far.ensures in
    between_ends i c.args.count c.args.step c.times-far.result _ _ lt e (to_z-of_z w64 c.min.result f1 ∙ low) (to_z-of_z w64 c.max.result f2 ∙ high)
