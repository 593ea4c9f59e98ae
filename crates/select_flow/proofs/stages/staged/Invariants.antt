use Rattle.cell_graph.specs.Linked.{keeping}
use Rattle.flat_layout.specs.declared.way.Way.TheVariants.{Disturbed}
use Rattle.rule_stages.specs.Stages.{from_depth}
use Rattle.rule_text.specs.Seen.{rules_seen}
use Rattle.depth_designs.specs.Stages.{stages_by}
use Rattle.staged_layouts.specs.Staged.{IsStagedDesign}
use Rattle.select_flow.proofs.stages.staged.Given as goal

abbrev pub invariant-loop-depth : goal.invariant-loop-depth
invariant-loop-depth g l = IsStagedDesign (stages_by (rules_seen l.rules) (from_depth (rules_seen l.rules) 1 l.depth)) (keeping Disturbed l.fn.design) l.staged
