use Rattle.std.proofs.Common.{arith, rules, FitsSigned, w64, ◌∙◌}
use Rattle.std.proofs.lemmas.Int.{ints, to_z-of_z}
use Rattle.cell_context.proofs.Reaching.{is_reach}
use Rattle.cell_context.proofs.arrays.reach_of.Goals as goal

pub returns : goal.returns
returns c =
    let fn1 : FitsSigned w64 c.turned_hull-turned.result.x1 = search rules in let fn2 : FitsSigned w64 c.turned_hull-turned.result.x2 = search rules in
    let fn3 : FitsSigned w64 c.turned_hull-turned.result.y1 = search rules in let fn4 : FitsSigned w64 c.turned_hull-turned.result.y2 = search rules in
    let fw1 : FitsSigned w64 c.args.window.now.x1 = search rules in let fw2 : FitsSigned w64 c.args.window.now.x2 = search rules in
    let fw3 : FitsSigned w64 c.args.window.now.y1 = search rules in let fw4 : FitsSigned w64 c.args.window.now.y2 = search rules in
    let f1 : FitsSigned w64 c.minus.result = search rules in let f2 : FitsSigned w64 c.minus-2.result = search rules in
    let f3 : FitsSigned w64 c.minus-3.result = search rules in let f4 : FitsSigned w64 c.minus-4.result = search rules in
    let e1 = simp to_z-of_z at c.minus.ensures in let e2 = simp to_z-of_z at c.minus-2.ensures in
    let e3 = simp to_z-of_z at c.minus-3.ensures in let e4 = simp to_z-of_z at c.minus-4.ensures in
    is_reach c.args.place.now c.args.hull.now c.args.window.now c.turned_hull-turned.result _ c.requires.hull c.requires.window c.turned_hull-turned.ensures.near c.turned_hull-turned.ensures.exact
    (to_z-of_z w64 c.minus.result f1 ∙ e1) (to_z-of_z w64 c.minus-2.result f2 ∙ e2) (to_z-of_z w64 c.minus-3.result f3 ∙ e3) (to_z-of_z w64 c.minus-4.result f4 ∙ e4)

pub minus-requires-4-clause-b : goal.minus-requires-4-clause-b
minus-requires-4-clause-b c =
    let n = c.turned_hull-turned.ensures.near.y1 in let l = n.low in let h = n.high in
    record { low = omega (arith, ints); high = omega (arith, ints) }
