use Rattle.std.proofs.Common.{◌≤◌, sym, subst}
use Rattle.net_phase.proofs.Reaching.{first_all, greater, rest_all}
use Rattle.net_phase.proofs.indexes.+greatest.Goals as goal

pub returns-then-known-clause-most : goal.returns-then-known-clause-most
returns-then-known-clause-most g c = λ n h.
    let some = c.in-len1-up.len_at_least in
    subst (λ m. m ≤ n) (sym c.max.ensures)
    (greater _ _ n (c.greatest-most.ensures.most n (rest_all (λ m. m ≤ n) c.args.reaches.now some h)) (first_all (λ m. m ≤ n) c.args.reaches.now some h))

pub returns-else-known-clause-most : goal.returns-else-known-clause-most
returns-else-known-clause-most g c = λ n h.
    c.greatest-most.ensures.most n (rest_all (λ m. m ≤ n) c.args.reaches.now c.in-len1-up.len_at_least h)
