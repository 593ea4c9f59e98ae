use Rattle.std.proofs.Common.{rules, sym, subst}
use Rattle.job_board.specs.Work.{MayGoOn}
use Rattle.job_board.proofs.run.work_board.Goals as goal

pub map_vec-requires-after_bounds : goal.map_vec-requires-after_bounds
map_vec-requires-after_bounds g c κs within i x l e = (
  c.requires.board,
  (subst (λ w. MayGoOn c.args.board.now w.1) (sym e) (c.in_ok-seats.ensures.seats i x l), search rules),
)
