use Rattle.std.proofs.Common.{length, sym, ap, ◌∙◌, subst}
use Rattle.job_board.specs.Board.{BoardState, SeatState, AreOnce, claims_of}
use Rattle.job_board.specs.Rule.{graph_of}
use Rattle.job_board.proofs.Ended.{names_match, all_defined, once_claimed}
use Rattle.job_board.proofs.board.Board.close.Goals as goal

pub from_cells-requires : goal.from_cells-requires
from_cells-requires g c = let p = c.self.inside.table.shared.key in let v = c.self.invariant in
    names_match g.T.Defined.is_defined p (length (graph_of p)) c.all_notes.new.notes.items c.all_notes.ensures.notes c.self.inside.cells.items v.cells_are v.count

pub returns-clause-right : goal.returns-clause-right
returns-clause-right g c = let p = c.self.inside.table.shared.key in let plan = ap (λ (z : BoardState g.row.T.Denot g.row.T-Key.Denot). z.plan) c.self.view_is in
    all_defined g.T.Defined.is_defined p (length (graph_of p)) c.all_notes.new.notes.items c.all_notes.ensures.notes c.args.self.plan.key (graph_of c.args.self.plan) c.from_cells.result
    (ap (λ z. z.key) plan) (ap (λ z. length (graph_of z)) (sym plan)) c.from_cells.ensures

pub returns-clause-once : goal.returns-clause-once
returns-clause-once g c = let same = ap (λ (z : SeatState g.row.T.Denot g.row.T-Key.Denot). claims_of z) c.seat.view_is in
    subst AreOnce (same ∙ c.progress-finished.ensures.seat.claims) (once_claimed c.seat.inside.seat.me.0.claims c.all_notes.ensures.once)
