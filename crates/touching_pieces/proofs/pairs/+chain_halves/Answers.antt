use Rattle.touching_pieces.proofs.Chains.{chain_halves, chains_of, crowd_rest}
use Rattle.touching_pieces.proofs.pairs.+chain_halves.Goals as goal
use Rattle.touching_pieces.specs.Pairs.{AreInTouch}

pub returns-then-depth-eq0 : goal.returns-then-depth-eq0
returns-then-depth-eq0 t c = chains_of (AreInTouch c.args.ones.now c.args.others.now) c.args.out.now.items c.link_all.new.out.items c.in_ok-link_all.ensures

pub returns-in_ok-link_all-in-All : goal.returns-in_ok-link_all-in-All
returns-in_ok-link_all-in-All t c = chains_of (AreInTouch c.args.ones.now c.args.others.now) c.args.out.now.items _ c.in_ok-link_all-in-All.ensures

pub returns-in_ok-chain_halves-in-Hub : goal.returns-in_ok-chain_halves-in-Hub
returns-in_ok-chain_halves-in-Hub t c =
    let rest = rw c.deref.ensures.value at c.in_ok-chain_halves-in-Hub.ensures in
    crowd_rest c.args.ones.now c.args.others.now c.in_ok-left-in-Hub.left.items c.args.out.now.items _ _ c.in_ok-left-in-Hub.ensures rest

pub returns-in_ok-chain_halves-in-Halves-2 : goal.returns-in_ok-chain_halves-in-Halves-2
returns-in_ok-chain_halves-in-Halves-2 t c =
    let p = c.in_ok-parts-in-Halves.ensures in
    let l = rw (c.deref-in-Halves.ensures.value, c.deref-in-Halves-2.ensures.value, p.low_ones, p.low_others) at c.in_ok-chain_halves-in-Halves.ensures in
    let h = rw (c.deref-in-Halves-3.ensures.value, c.deref-in-Halves-4.ensures.value, p.high_ones, p.high_others) at c.in_ok-chain_halves-in-Halves-2.ensures in
    chain_halves c.in-Halves.cut c.args.ones.now c.args.others.now c.args.out.now.items _ _ l h
