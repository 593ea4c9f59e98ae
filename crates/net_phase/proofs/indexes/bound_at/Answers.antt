use Rattle.std.proofs.Common.{sym, subst}
use Rattle.cell_graph.proofs.Bridge.{hull_sound}
use Rattle.cell_graph.specs.Linked.{HullIsSound}
use Rattle.net_phase.proofs.indexes.bound_at.Goals as goal

pub bound_by-requires : goal.bound_by-requires
bound_by-requires c = subst HullIsSound (sym c.hull.ensures) (hull_sound c.args.design.now c.args.cell c.sound.ensures)
