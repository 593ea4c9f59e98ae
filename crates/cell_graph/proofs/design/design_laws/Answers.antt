use Rattle.cell_graph.proofs.Bridge.{own, heights, hulls}
use Rattle.cell_graph.proofs.Seeing.{seen}
use Rattle.cell_graph.proofs.Ordered.{levels, order}
use Rattle.cell_graph.proofs.design.design_laws.Goals as goal

pub returns : goal.returns
returns c = record { own = own; height = heights; level = levels; order = order; hull = hulls; seen = seen }
