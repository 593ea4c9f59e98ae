use Rattle.std.proofs.Common.{rules, ◌≡◌, ◌<◌, length, slice_index, inl, refl}
use Rattle.job_board.proofs.close.keep_own.Goals as goal

pub returns-clause-kept : goal.returns-clause-kept
returns-clause-kept g c =
    let l : c.args.next.now < length c.args.own.now = search rules in let s : slice_index c.args.own.now c.args.next.now ≡ c.args.slot = search rules in
    inl (c.in-Some.note, c.in-Some.is, l, s, refl, (c.in-Ok.ensures {u = tt}).items)
