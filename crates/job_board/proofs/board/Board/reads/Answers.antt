use Rattle.std.proofs.Common.{◌≡◌, ◌<◌, ℕ, List, true, length, IsSomeAnd, sym, ap, ◌∙◌, subst, arith}
use Rattle.job_graph.specs.Graph.{inputs_of, AreInputs, AreAscending, has}
use Rattle.job_graph.specs.declared.notes.CellNote.{CellNote}
use Rattle.once_cell.specs.declared.race.once_box.OnceBox.{OnceBox}
use Rattle.job_board.specs.declared.view.Plan.{Plan}
use Rattle.job_board.specs.Board.{BoardState, TicketState, jobs_on}
use Rattle.job_board.specs.Rule.{graph_of}
use Rattle.job_board.specs.Notes.{AreNotes}
use Rattle.job_board.specs.Inputs.{MayRead, value_of}
use Rattle.job_board.proofs.Known.{names_from, ascending_up, read_right}
use Rattle.job_board.proofs.board.Board.reads.Goals as goal

module _ {T K : Type 0} (defined : K → ℕ → T → Type 0) (p : Plan T K) (ins : List ℕ) (ns : List (CellNote T)) (job : ℕ) (same : ins ≡ inputs_of (graph_of p) job) (right : AreNotes defined p (inputs_of (graph_of p) job) ns) where
  reads : (cells : List (OnceBox T)) (i : ℕ) → p.cells.value.items ≡ cells → length cells ≡ length (graph_of p) → AreInputs (graph_of p) → job < length (graph_of p) → has i (inputs_of (graph_of p) job) ≡ true → MayRead cells ins ns i
  reads cells i e count a l h = record {
    noted = record {
      ascend = subst (λ z. AreAscending 0 z (length cells)) (sym same) (ascending_up 0 (inputs_of (graph_of p) job) job (length cells) (omega arith) (a.lower job l));
      names = names_from defined p cells ins ns e (subst (λ z. AreNotes defined p z ns) (sym same) right);
    };
    listed = ap (has i) same ∙ h;
  }

  rights : (i : ℕ) → has i (inputs_of (graph_of p) job) ≡ true → IsSomeAnd (value_of ins ns i) (defined p.key i)
  rights i h = subst (λ z. IsSomeAnd (value_of z ns i) (defined p.key i)) (sym same) (read_right defined p (inputs_of (graph_of p) job) ns i right h)

pub returns-clause-read : goal.returns-clause-read
returns-clause-read g c i h =
    let t = c.args.ticket.now in let b = c.args.self.now in let v = c.self.invariant in let pk = c.self.inside.table.shared.key in
    let plan = ap (λ (z : BoardState g.row.T.Denot g.row.T-Key.Denot). z.plan) c.self.view_is in let job = ap (λ (z : TicketState g.row.T.Denot). z.job) c.ticket.view_is in
    let ns = ap (λ (z : TicketState g.row.T.Denot). z.notes) c.ticket.view_is in
    let same : c.inputs.result.now ≡ inputs_of (jobs_on b) t.job = c.inputs.ensures ∙ ap (λ z. inputs_of z c.ticket.inside.job) (v.layout_is.graph ∙ ap graph_of plan) ∙ ap (inputs_of (jobs_on b)) job in
    let right : AreNotes g.T.Defined.is_defined b.plan (inputs_of (jobs_on b) t.job) c.ticket.inside.notes.items = subst (AreNotes g.T.Defined.is_defined b.plan (inputs_of (jobs_on b) t.job)) (sym ns) c.requires.notes in
    reads g.T.Defined.is_defined b.plan c.inputs.result.now c.ticket.inside.notes.items t.job same right c.deref.result.now i
    (ap (λ z. z.cells.value.items) (sym plan) ∙ v.cells_are ∙ sym c.deref.ensures.value) (ap length c.deref.ensures.value ∙ v.count ∙ ap (λ z. length (graph_of z)) plan) (subst (λ z. AreInputs (graph_of z)) plan v.layout_is.sound) c.requires.within h

pub returns-clause-right : goal.returns-clause-right
returns-clause-right g c i h =
    let t = c.args.ticket.now in let b = c.args.self.now in let v = c.self.invariant in
    let plan = ap (λ (z : BoardState g.row.T.Denot g.row.T-Key.Denot). z.plan) c.self.view_is in let job = ap (λ (z : TicketState g.row.T.Denot). z.job) c.ticket.view_is in
    let ns = ap (λ (z : TicketState g.row.T.Denot). z.notes) c.ticket.view_is in
    let same : c.inputs.result.now ≡ inputs_of (jobs_on b) t.job = c.inputs.ensures ∙ ap (λ z. inputs_of z c.ticket.inside.job) (v.layout_is.graph ∙ ap graph_of plan) ∙ ap (inputs_of (jobs_on b)) job in
    let right : AreNotes g.T.Defined.is_defined b.plan (inputs_of (jobs_on b) t.job) c.ticket.inside.notes.items = subst (AreNotes g.T.Defined.is_defined b.plan (inputs_of (jobs_on b) t.job)) (sym ns) c.requires.notes in
    rights g.T.Defined.is_defined b.plan c.inputs.result.now c.ticket.inside.notes.items t.job same right i h
