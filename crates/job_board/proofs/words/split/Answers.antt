use Rattle.std.proofs.Common.{◌<◌, arith, None}
use Rattle.job_board.specs.Notes.{IsRight}
use Rattle.job_board.proofs.Seats.{splits}
use Rattle.job_board.proofs.words.split.Goals as goal

pub split_seat-requires : goal.split_seat-requires
split_seat-requires g c = let b = c.requires.board in let w = b.words in let in' : 0 < c.args.table.now.shared.table_id.words = omega arith in
    (b.seat, in', splits None (IsRight g.T.Defined.is_defined c.args.table.now.shared.key) c.args.table.now.shared.key _ _ b.plan)
