use Rattle.std.proofs.Common.{arith}
use Rattle.touching_pieces.proofs.Chains.{firsts_none, firsts_at, firsts_all}
use Rattle.touching_pieces.proofs.Links.{no_piece}
use Rattle.touching_pieces.proofs.crowds.link_firsts.Goals as goal

pub loop-one-init : goal.loop-one-init
loop-one-init c = firsts_none c.args.others.now c.args.out.now.items

pub loop-one-preserved : goal.loop-one-preserved
loop-one-preserved c = firsts_at c.args.ones.now c.args.others.now c.loop-one.one-index no_piece c.args.out.now.items c.loop-one.out.items c.link_first.new.out.items (omega arith) c.loop-one.invariant c.in_ok-link_first.ensures

pub returns : goal.returns
returns c = firsts_all c.args.ones.now c.args.others.now c.loop-one.one-index c.args.out.now.items c.loop-one.out.items (omega arith) c.loop-one.invariant
