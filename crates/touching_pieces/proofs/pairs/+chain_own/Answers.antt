use Rattle.touching_pieces.proofs.Chains.{chain_halves, chains_of, crowd_rest}
use Rattle.touching_pieces.proofs.pairs.+chain_own.Goals as goal
use Rattle.touching_pieces.specs.Pairs.{AreInTouch}

pub returns-then-depth-eq0 : goal.returns-then-depth-eq0
returns-then-depth-eq0 t c = chains_of (AreInTouch c.args.pieces.now c.args.pieces.now) c.args.out.now.items c.link_all.new.out.items c.in_ok-link_all.ensures

pub returns-in_ok-link_all-in-All : goal.returns-in_ok-link_all-in-All
returns-in_ok-link_all-in-All t c = chains_of (AreInTouch c.args.pieces.now c.args.pieces.now) c.args.out.now.items _ c.in_ok-link_all-in-All.ensures

pub returns-in_ok-chain_halves-in-Hub : goal.returns-in_ok-chain_halves-in-Hub
returns-in_ok-chain_halves-in-Hub t c =
    let rest = rw c.deref.ensures.value at c.in_ok-chain_halves-in-Hub.ensures in
    crowd_rest c.args.pieces.now c.args.pieces.now c.in_ok-left-in-Hub.left.items c.args.out.now.items _ _ c.in_ok-left-in-Hub.ensures rest

pub returns-in_ok-chain_own-in-Halves-2 : goal.returns-in_ok-chain_own-in-Halves-2
returns-in_ok-chain_own-in-Halves-2 t c =
    let l = rw (c.deref-in-Halves.ensures.value, c.in_ok-low-in-Halves.ensures) at c.in_ok-chain_own-in-Halves.ensures in
    let h = rw (c.deref-in-Halves-2.ensures.value, c.in_ok-high-in-Halves.ensures) at c.in_ok-chain_own-in-Halves-2.ensures in
    chain_halves c.in-Halves.cut c.args.pieces.now c.args.pieces.now c.args.out.now.items _ _ l h
