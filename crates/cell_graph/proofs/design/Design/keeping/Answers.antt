use Rattle.cell_graph.specs.Inside.{linked}
use Rattle.cell_graph.proofs.Ways.{sound_kept}
use Rattle.cell_graph.proofs.design.Design.keeping.Goals as goal

pub invariant_of-design : goal.invariant_of-design
invariant_of-design c = record {
  sound = sound_kept c.args.way (linked c.design.inside) c.design.invariant.sound;
  nothing = c.design.invariant.nothing;
  indexed = c.design.invariant.indexed;
}
