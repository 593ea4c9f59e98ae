use Rattle.std.proofs.Common.{arith}
use Rattle.touching_pieces.proofs.Links.{ones_at, ones_all, nothing_ones, no_piece}
use Rattle.touching_pieces.proofs.pairs.link_all.Goals as goal

pub loop-one-init : goal.loop-one-init
loop-one-init c = nothing_ones c.args.others.now c.args.out.now.items

pub loop-one-preserved : goal.loop-one-preserved
loop-one-preserved c = ones_at c.args.ones.now c.args.others.now c.loop-one.one-index no_piece c.args.out.now.items c.loop-one.out.items c.link_one.new.out.items (omega arith) c.loop-one.invariant c.in_ok-link_one.ensures

pub returns : goal.returns
returns c = ones_all c.args.ones.now c.args.others.now c.loop-one.one-index c.args.out.now.items c.loop-one.out.items (omega arith) c.loop-one.invariant
