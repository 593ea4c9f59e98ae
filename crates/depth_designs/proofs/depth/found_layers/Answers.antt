use Rattle.std.proofs.Common.{◌≡◌, ◌∙◌, List}
use Rattle.std.specs.Global.{Vec}
use Rattle.std.proofs.lemmas.Result.{IfOk-weaker}
use Rattle.cell_graph.specs.Layering.{AreFurther}
use Rattle.cell_graph.specs.declared.cells.OwnLayer.{OwnLayer}
use Rattle.further_layers.specs.Further.{AreCellLayers, lists_of}
use Rattle.rule_text.specs.Seen.{rules_seen}
use Rattle.staged_designs.specs.Depths.{AreFound, stage_keys}
use Rattle.staged_layouts.specs.Staged.{AreFresh}
use Rattle.depth_designs.specs.Stages.{stages_by}
use Rattle.depth_designs.proofs.Layering.{found_all, fresh_all}
use Rattle.depth_designs.proofs.depth.found_layers.Goals as goal

pub returns-clause-further : goal.returns-clause-further
returns-clause-further c =
    let d = c.args.design.now in let r = rules_seen c.args.rules.now in let selected = c.args.selected.now in let lists = lists_of c.args.sets.now in let keys = c.deref.result.now in
    IfOk-weaker c.further_layers.result (λ (v : Vec (Vec OwnLayer)). AreCellLayers keys lists c.cells.result v.items) (λ (v : Vec (Vec OwnLayer)). AreFurther d.cells (stage_keys (stages_by r selected)) v.items)
    (λ v are. (found_all c.laws.ensures d r c.args.depth selected lists keys c.cells.result v.items c.requires.rules c.requires.selected (c.deref.ensures.value ∙ c.in_ok-keys.ensures) c.cells.ensures c.requires.sets are).layers)
    c.further_layers.ensures

pub returns-clause-found : goal.returns-clause-found
returns-clause-found c =
    let d = c.args.design.now in let r = rules_seen c.args.rules.now in let selected = c.args.selected.now in let lists = lists_of c.args.sets.now in let keys = c.deref.result.now in
    IfOk-weaker c.further_layers.result (λ (v : Vec (Vec OwnLayer)). AreCellLayers keys lists c.cells.result v.items) (λ (v : Vec (Vec OwnLayer)). AreFound d (stages_by r selected) v.items)
    (λ v are. (found_all c.laws.ensures d r c.args.depth selected lists keys c.cells.result v.items c.requires.rules c.requires.selected (c.deref.ensures.value ∙ c.in_ok-keys.ensures) c.cells.ensures c.requires.sets are).found)
    c.further_layers.ensures

pub returns-clause-fresh : goal.returns-clause-fresh
returns-clause-fresh c =
    let d = c.args.design.now in let r = rules_seen c.args.rules.now in let selected = c.args.selected.now in let lists = lists_of c.args.sets.now in let keys = c.deref.result.now in
    IfOk-weaker c.further_layers.result (λ (v : Vec (Vec OwnLayer)). AreCellLayers keys lists c.cells.result v.items) (λ (v : Vec (Vec OwnLayer)). AreFresh d (stages_by r selected) v.items)
    (λ v are. fresh_all d r selected lists keys c.cells.result v.items c.sound.ensures.order c.requires.unused (c.deref.ensures.value ∙ c.in_ok-keys.ensures) c.cells.ensures c.requires.sets are)
    c.further_layers.ensures
