use Rattle.std.proofs.Common.{◌≡◌, true, false, length, sym, ◌∙◌, arith}
use Rattle.cell_graph.specs.Linked.{plain}
use Rattle.cell_graph.proofs.Firsts.{none_more, none_to}
use Rattle.layout_shapes.specs.Wide.{IsFarOut}
use Rattle.run_layout.proofs.far.first_far.Goals as goal

pub loop-cell-preserved : goal.loop-cell-preserved
loop-cell-preserved c =
    none_more (λ i. IsFarOut (plain c.args.design.now) c.args.reach i) c.loop-cell.cell
    (λ f. (let e : false ≡ true = sym c.if-is_far.false ∙ c.is_far.ensures.1 f in let z : ⊥ = cc in z)) c.loop-cell.invariant

pub returns : goal.returns
returns c =
    let past = c.loop-cell-test.false in let end = c.loop-cell.auto.cell-end in let cells = c.cells-cell-end.ensures in
    none_to (λ i. IsFarOut (plain c.args.design.now) c.args.reach i) (length c.args.design.now.cells) c.loop-cell.cell (omega (arith, past, end, cells)) c.loop-cell.invariant
