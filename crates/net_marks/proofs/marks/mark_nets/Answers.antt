use Rattle.std.proofs.Common.{◌==◌, get_or, refl, arith}
use Rattle.std.proofs.lemmas.Bool.{eq-eqb}
use Rattle.std.proofs.lemmas.List.Folds.{list_any_at}
use Rattle.net_marks.proofs.marks.mark_nets.Goals as goal

pub mark-requires : goal.mark-requires
mark-requires c =
    let nets = c.args.nets.now in
    let i = c.loop-net.net-index in
    let x = get_or nets i 0 in
    let lt = c.requires x (list_any_at (λ k. x == k) nets i 0 c.loop-net-test.true (eq-eqb x x refl)) in
    let long = c.loop-net.invariant.count in
    omega (arith, lt, long)
