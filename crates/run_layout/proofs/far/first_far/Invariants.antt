use Rattle.cell_graph.specs.Firsts.{HasNone}
use Rattle.cell_graph.specs.Linked.{plain}
use Rattle.layout_shapes.specs.Wide.{IsFarOut}
use Rattle.run_layout.proofs.far.first_far.Given as goal

abbrev pub invariant-loop-cell : goal.invariant-loop-cell
invariant-loop-cell l = HasNone (λ i. IsFarOut (plain l.design) l.reach i) l.cell
