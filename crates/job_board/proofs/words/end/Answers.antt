use Rattle.std.proofs.Common.{◌<◌, refl, arith, None}
use Rattle.job_board.specs.Notes.{IsRight}
use Rattle.job_board.proofs.Steps.{ends}
use Rattle.job_board.proofs.words.end.Goals as goal

pub fetch_add-requires : goal.fetch_add-requires
fetch_add-requires g c = let b = c.requires.board in let w = b.words in let m = c.requires.work in let in' : 0 < c.args.table.now.shared.table_id.words = omega arith in
    (b.seat, in', ends None (IsRight g.T.Defined.is_defined) c.args.table.now.shared.key _ _ _ b.plan c.args.job _ m.hand.0 m.hand.1 m.work refl m.hand.2 m.hand.3)

pub returns-clause-ended : goal.returns-clause-ended
returns-clause-ended g c = c.fetch_add.ensures.2 c.args.job _ c.requires.work.work
