use Rattle.std.proofs.Common.{◌<◌, arith, None}
use Rattle.job_board.specs.Notes.{IsRight}
use Rattle.job_board.proofs.Seats.{joins}
use Rattle.job_board.proofs.words.join.Goals as goal

pub join_seat-requires : goal.join_seat-requires
join_seat-requires g c = let b = c.requires.board in let w = b.words in let in' : 0 < c.args.table.now.shared.table_id.words = omega arith in
    (b.seat, c.requires.other.0, c.requires.other.1, in', joins None (IsRight g.T.Defined.is_defined c.args.table.now.shared.key) c.args.table.now.shared.key _ _ _ _ b.plan c.requires.rest)
