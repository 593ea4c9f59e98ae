use Rattle.std.proofs.Common.{length, arith}
use Rattle.link_classes.proofs.Trees.{link_at}
use Rattle.net_link_laws.specs.Places.{places_of}
use Rattle.net_walk.proofs.Spanning.{no_pairs, pairs_more, pairs_all, no_link}
use Rattle.net_walk.proofs.children.link_pairs.Goals as goal

pub loop-pair-init : goal.loop-pair-init
loop-pair-init g c = record { known = tt; links = no_pairs (g.C.Cells.design c.args.cells.now) (g.C.Cells.wiring c.args.cells.now) (g.C.Cells.tables c.args.cells.now) c.args.site.now.cell c.args.out.now.items }

pub link_numbers-requires-clause-one : goal.link_numbers-requires-clause-one
link_numbers-requires-clause-one g c = (link_at (length (places_of (g.C.Cells.design c.args.cells.now) c.args.site.now.cell)) c.args.pairs.now c.loop-pair.pair-index no_link c.requires.pairs (omega arith)).0

pub link_numbers-requires-clause-other : goal.link_numbers-requires-clause-other
link_numbers-requires-clause-other g c = (link_at (length (places_of (g.C.Cells.design c.args.cells.now) c.args.site.now.cell)) c.args.pairs.now c.loop-pair.pair-index no_link c.requires.pairs (omega arith)).1

pub loop-pair-preserved : goal.loop-pair-preserved
loop-pair-preserved g c = record {
  known = c.in_ok-beside.ensures.is;
  links = pairs_more (g.C.Cells.design c.args.cells.now) (g.C.Cells.wiring c.args.cells.now) (g.C.Cells.tables c.args.cells.now) c.args.site.now.cell c.args.pairs.now c.loop-pair.pair-index no_link c.args.out.now.items c.loop-pair.out.items c.link_numbers.new.out.items (omega arith)
      c.loop-pair.invariant.links c.in_ok-beside.ensures.links;
}

pub returns : goal.returns
returns g c = pairs_all (g.C.Cells.design c.args.cells.now) (g.C.Cells.wiring c.args.cells.now) (g.C.Cells.tables c.args.cells.now) c.args.site.now.cell c.args.pairs.now c.loop-pair.pair-index c.args.out.now.items c.loop-pair.out.items (omega arith) c.loop-pair.invariant.links
