use Rattle.std.proofs.Common.{ℕ, List, ap, subst, slice_index}
use Rattle.cell_graph.specs.Linked.{plain}
use Rattle.rule_text.specs.Seen.{rules_seen}
use Rattle.rule_layers.specs.Formulas.{formulas}
use Rattle.deep_tables.specs.declared.layers.CellLayers.{CellLayers}
use Rattle.deep_tables.specs.Entries.{upward_cell}
use Rattle.deep_tables.specs.Layers.{AreCellLayers}
use Rattle.layer_phase.specs.Names.{AreLocals}
use Rattle.layer_phase.specs.Phase.{LayerJobs}
use Rattle.layer_phase.proofs.phase.LayerPhasePhase.work.Goals as goal

pub returns : goal.returns
returns g c =
    let d = c.self.inside.design.now in let r = rules_seen c.self.inside.rules.now in
    let v : CellLayers = record { layers = c.in_ok-layers.layers } in
    let locals : AreLocals d (upward_cell d c.args.job) (formulas r.names) c.in_ok-layers.layers.items =
    subst (λ n. AreLocals d n (formulas r.names) c.in_ok-layers.layers.items) (ap (λ (o : List ℕ). slice_index o c.args.job) c.order.ensures) c.in_ok-layers.ensures.layers in
    let is : AreCellLayers (plain d) r (upward_cell d c.args.job) v = record { names = c.in_ok-layers.ensures.count; layers = locals } in
    subst (λ (z : LayerJobs). AreCellLayers (plain z.design) (rules_seen z.rules) (upward_cell z.design c.args.job) v) c.self.view_is is
