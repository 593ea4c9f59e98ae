use Rattle.cell_graph.specs.Linked.{plain}
use Rattle.further_layers.specs.Further.{lists_of}
use Rattle.rule_layers.specs.Formulas.{formulas}
use Rattle.depth_designs.specs.Chosen.{AreChosenTo}
use Rattle.select_flow.proofs.sets.select_sets.Given as goal

abbrev pub invariant-loop-k : goal.invariant-loop-k
invariant-loop-k l = AreChosenTo (plain l.design) (formulas l.stage.names.items) l.selected l.k (lists_of l.sets.items)
