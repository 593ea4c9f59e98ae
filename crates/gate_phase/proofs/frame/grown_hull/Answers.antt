use Rattle.std.proofs.Common.{◌^◌, sym, subst, arith}
use Rattle.cell_graph.specs.Linked.{IsFrame}
use Rattle.cell_graph.proofs.Growing.{grown_frame}
use Rattle.cell_context.proofs.Visiting.{wider_rect}
use Rattle.gate_phase.proofs.frame.grown_hull.Goals as goal

pub grown-requires : goal.grown-requires
grown-requires c = wider_rect (2 ^ 36) (2 ^ 39) c.args.hull.now (omega arith) c.requires.hull.near

pub returns-clause-frame : goal.returns-clause-frame
returns-clause-frame c = subst IsFrame (sym c.grown.ensures) (grown_frame c.args.by c.args.hull.now c.requires.by c.requires.hull)
