use Rattle.std.proofs.Common.{arith, length, refl}
use Rattle.std.proofs.lemmas.Option.{slice_get_read}
use Rattle.layer_phase.proofs.groups.has_reach.Goals as goal

pub returns-then-group-far : goal.returns-then-group-far
returns-then-group-far c = λ _.
    let groups = c.args.groups.now in let i = c.loop-group.group-index in let g = c.group-item.result in
    let same = c.if-group-far.true in
    record { at = i; group = g; at_in = c.loop-group-test.true; there = slice_get_read groups (length groups) i g refl c.loop-group-test.true c.group-item.is; far_is = omega arith }
