use Rattle.touching_pieces.proofs.Links.{halves}
use Rattle.touching_pieces.proofs.pairs.+link_halves.Goals as goal

pub returns : goal.returns
returns t c =
    let p = c.in_ok-parts.ensures in
    let l = rw (c.deref.ensures.value, c.deref-2.ensures.value, p.low_ones, p.low_others) at c.in_ok-link_halves.ensures in
    let h = rw (c.deref-3.ensures.value, c.deref-4.ensures.value, p.high_ones, p.high_others) at c.in_ok-link_halves-2.ensures in
    halves c.in-Some.cut c.args.ones.now c.args.others.now c.args.out.now.items _ _ l h
