use Rattle.std.proofs.Common.{length, arith}
use Rattle.net_link_laws.specs.Places.{places_of}
use Rattle.net_walk.proofs.Besides.{beside_all, beside_more, no_beside, pair_beside_at}
use Rattle.net_walk.proofs.Spanning.{no_link}
use Rattle.net_walk.proofs.beside.link_all_beside.Goals as goal

pub loop-pair-init : goal.loop-pair-init
loop-pair-init g c = (c.requires.lists, no_beside (g.C.Cells.design c.args.cells.now) (g.C.Cells.wiring c.args.cells.now) (g.C.Cells.tables c.args.cells.now) c.args.site.now.cell (length c.args.pieces.now) c.args.out.now.items)

pub link_beside-requires-clause-pair : goal.link_beside-requires-clause-pair
link_beside-requires-clause-pair g c = pair_beside_at (length c.args.pieces.now) (length (places_of (g.C.Cells.design c.args.cells.now) c.args.site.now.cell)) c.args.pairs.now c.loop-pair.pair-index no_link c.requires.pairs (omega arith)

pub loop-pair-preserved : goal.loop-pair-preserved
loop-pair-preserved g c = (
  c.in_ok-link_beside.ensures.lists,
  beside_more (g.C.Cells.design c.args.cells.now) (g.C.Cells.wiring c.args.cells.now) (g.C.Cells.tables c.args.cells.now) c.args.site.now.cell (length c.args.pieces.now) c.args.pairs.now c.loop-pair.pair-index no_link c.args.out.now.items c.loop-pair.out.items c.link_beside.new.out.items (omega arith)
      c.loop-pair.invariant.1 c.in_ok-link_beside.ensures.links,
)

pub returns-clause-links : goal.returns-clause-links
returns-clause-links g c = beside_all (g.C.Cells.design c.args.cells.now) (g.C.Cells.wiring c.args.cells.now) (g.C.Cells.tables c.args.cells.now) c.args.site.now.cell (length c.args.pieces.now) c.args.pairs.now c.loop-pair.pair-index c.args.out.now.items c.loop-pair.out.items (omega arith) c.loop-pair.invariant.1
