use Rattle.std.proofs.Common.{◌≡◌, ℕ, true, ◌||◌, ◌==◌, List, [], ◌∷◌, ◌++◌, map, None, sym, ap, ◌∙◌, subst}
use Rattle.base_laws.proofs.Tests.{or_true}
use Rattle.job_graph.specs.Graph.{has}
use Rattle.job_board.specs.declared.view.View.{View}
use Rattle.job_board.specs.Views.{joined_view}
use Rattle.job_board.specs.Pieces.{IsOut}
use Rattle.job_board.specs.Board.{BoardState, SeatState, TicketState, HasTicket}
use Rattle.job_board.proofs.board.Board.join.Goals as goal

-- what stands among these claims stands among more
has_after : (j : ℕ) (cs ds : List (ℕ × ℕ)) → has j (map (λ c. c.0) ds) ≡ true → has j (map (λ c. c.0) (cs ++ ds)) ≡ true
has_after j [] ds h = h
has_after j (c ∷ cs) ds h = ap (λ b. (j == c.0) || b) (has_after j cs ds h) ∙ or_true (j == c.0)

-- a seat that takes another in keeps its ticket
joined_ticket : {T K : Type 0} (b : BoardState T K) (old new : SeatState T K) (w : View T K) (t : TicketState T) → new.me ≡ (joined_view old.me.0 w, old.me.1) → HasTicket b old t → HasTicket b new t
joined_ticket b old new w t e h = record {
  work = ap (λ m. m.0.work) e ∙ h.work;
  claimed = ap (λ m. has t.job (map (λ c. c.0) m.0.claims)) e ∙ has_after t.job w.claims old.me.0.claims h.claimed;
  hand = subst (IsOut None b.plan t.job) (sym (ap (λ m. m.1) e)) h.hand;
  room = h.room;
}

pub returns-clause-ticket : goal.returns-clause-ticket
returns-clause-ticket g c t h = joined_ticket c.args.self.now c.args.seat.now _ c.other.inside.seat.me.0 t
    (c.join.ensures.2 ∙ ap (λ (z : SeatState g.row.T.Denot g.row.T-Key.Denot). (joined_view z.me.0 c.other.inside.seat.me.0, z.me.1)) c.seat.view_is) h
