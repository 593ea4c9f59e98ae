use Rattle.std.proofs.Common.{◌+◌, ◌*◌, ◌<◌, arith, None}
use Rattle.job_board.specs.Notes.{IsRight}
use Rattle.job_board.proofs.Steps.{tells}
use Rattle.job_board.proofs.words.tell.Goals as goal

pub fetch_sub-requires : goal.fetch_sub-requires
fetch_sub-requires g c = let b = c.requires.board in let w = b.words in let m = c.requires.work in let l = m.within in let in' : 2 * c.args.to + 2 < c.args.table.now.shared.table_id.words = omega arith in
    (b.seat, in', tells None (IsRight g.T.Defined.is_defined) c.args.table.now.shared.key _ _ _ b.plan c.args.job c.args.told c.args.to m.hand.0 m.hand.1 m.work m.more m.next m.hand.2 m.hand.3)

pub returns-clause-told : goal.returns-clause-told
returns-clause-told g c = c.fetch_sub.ensures.2 c.args.job c.args.told c.requires.work.work
