use Rattle.std.proofs.Common.{◌≡◌, inl, length, sym, ◌-◌, arith}
use Rattle.std.proofs.lemmas.Bool.Decides.{nat_tests}
use Rattle.net_walk.proofs.Ordering.{linked_by}
use Rattle.net_walk.proofs.lyings.is_last.Goals as goal

pub returns-then-last-lying : goal.returns-then-last-lying
returns-then-last-lying c = λ e.
    let one : c.in-Some.last.now.one ≡ c.args.lying.now.one = c.if-last-lying.true in
    let other : c.in-Some.last.now.other ≡ c.args.lying.now.other = grind (arith, nat_tests) in
    linked_by c.args.links.now (length c.args.links.now - 1) c.in-Some.last.now c.args.lying.now.one c.args.lying.now.other (sym c.in-Some.ensures.value) (inl (one, other))
