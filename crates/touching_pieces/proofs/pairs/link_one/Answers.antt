use Rattle.std.proofs.Common.{[], ◌∷◌, arith}
use Rattle.touching_pieces.proofs.Links.{others_at, others_all, nothing_others, no_piece}
use Rattle.touching_pieces.proofs.pairs.link_one.Goals as goal

pub loop-other-init : goal.loop-other-init
loop-other-init c = nothing_others (c.args.one.now ∷ []) c.args.out.now.items

pub loop-other-preserved : goal.loop-other-preserved
loop-other-preserved c = others_at (c.args.one.now ∷ []) c.args.others.now c.loop-other.other-index no_piece c.args.out.now.items c.loop-other.out.items c.link_two.new.out.items (omega arith) c.loop-other.invariant c.in_ok-link_two.ensures

pub returns : goal.returns
returns c = others_all (c.args.one.now ∷ []) c.args.others.now c.loop-other.other-index c.args.out.now.items c.loop-other.out.items (omega arith) c.loop-other.invariant
