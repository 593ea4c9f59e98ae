use Rattle.std.proofs.Common.{◌+◌, ◌*◌, ◌<◌, refl, arith}
use Rattle.std.proofs.Common.{None}
use Rattle.job_board.specs.Notes.{IsRight}
use Rattle.job_board.proofs.Steps.{claims}
use Rattle.job_board.proofs.words.claim.Goals as goal

pub fetch_or-requires : goal.fetch_or-requires
fetch_or-requires g c = let b = c.requires.board in let w = b.words in let l = c.requires.job in let in' : 2 * c.args.job + 1 < c.args.table.now.shared.table_id.words = omega arith in
    (b.seat, in', claims None (IsRight g.T.Defined.is_defined) c.args.table.now.shared.key _ _ _ b.plan c.args.job c.requires.ready c.requires.rest)

pub returns-clause-claim : goal.returns-clause-claim
returns-clause-claim g c = c.fetch_or.ensures.2 c.args.job refl
