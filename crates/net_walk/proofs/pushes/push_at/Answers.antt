use Rattle.std.proofs.Common.{arith}
use Rattle.net_walk.proofs.Adding.{own_at}
use Rattle.net_walk.proofs.pushes.push_at.Goals as goal

pub returns : goal.returns
returns c =
    let inside = c.requires.inside in let fits = c.requires.fits in
    own_at c.args.window.now c.args.own.now c.args.net_of.now c.args.at c.args.r c.args.out.now.items c.push_clipped.new.out.items inside (omega arith) c.in_ok-push_clipped.ensures
