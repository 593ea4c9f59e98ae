use Rattle.std.proofs.Common.{◌+◌, ◌*◌, ◌<◌, refl, arith}
use Rattle.std.proofs.Common.{None}
use Rattle.job_board.specs.Notes.{IsRight}
use Rattle.job_board.proofs.Steps.{looks}
use Rattle.job_board.proofs.words.look.Goals as goal

pub load-requires : goal.load-requires
load-requires g c = let b = c.requires.board in let w = b.words in let l = c.requires.job in let in' : 2 * c.args.job + 2 < c.args.table.now.shared.table_id.words = omega arith in
    (b.seat, in', looks None (IsRight g.T.Defined.is_defined) c.args.table.now.shared.key _ _ _ b.plan c.args.job c.requires.job)

pub returns-clause-ready : goal.returns-clause-ready
returns-clause-ready g c = (c.load.ensures.2 c.args.job refl).0

pub returns-clause-waits : goal.returns-clause-waits
returns-clause-waits g c = (c.load.ensures.2 c.args.job refl).1
