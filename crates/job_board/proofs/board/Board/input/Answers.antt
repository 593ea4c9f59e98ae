use Rattle.std.proofs.Common.{◌≡◌, ◌<◌, ℕ, List, length, slice_index, get_or, sym, subst, ap, ◌∙◌, arith}
use Rattle.job_graph.specs.Graph.{inputs_of, AreInputs}
use Rattle.job_graph.specs.declared.notes.CellNote.{CellNote}
use Rattle.job_board.specs.Board.{BoardState, TicketState, jobs_on}
use Rattle.job_board.specs.Rule.{graph_of}
use Rattle.job_board.proofs.Known.{note_at, notes_many, item_below, right_cell, value_known}
use Rattle.job_board.proofs.board.Board.input.Goals as goal

-- the inputs that the layout gives are those of the board
same_inputs : (ins : List ℕ) (x g h : List (List ℕ)) (i j : ℕ) → ins ≡ inputs_of x i → x ≡ g → g ≡ h → i ≡ j → ins ≡ inputs_of h j
same_inputs ins x g h i j e f s t = e ∙ ap (λ z. inputs_of z i) (f ∙ s) ∙ ap (inputs_of h) t

-- an input is one of the board's jobs
inside : (ins : List ℕ) (x g h : List (List ℕ)) (i j place n : ℕ) → ins ≡ inputs_of x i → x ≡ g → g ≡ h → i ≡ j → AreInputs g → j < length h → place < length (inputs_of h j) → n ≡ length g → slice_index ins place < n
inside ins x g h i j place n e f s t a l m count =
    let gl = ap length s in let within : j < length g = omega arith in
    let at : inputs_of h j ≡ inputs_of g j = ap (λ z. inputs_of z j) (sym s) in let al = ap length at in
    let low = item_below (inputs_of g j) j place (a.lower j within) (omega arith) in
    let same : slice_index ins place ≡ slice_index (inputs_of g j) place = ap (λ z. slice_index z place) (e ∙ ap (λ z. inputs_of z i) f ∙ ap (inputs_of g) t) in omega arith

pub index-requires : goal.index-requires
index-requires g c =
    let t = c.args.ticket.now in let b = c.args.self.now in let many = notes_many g.T.Defined.is_defined b.plan (inputs_of (jobs_on b) t.job) t.notes c.requires.ticket.notes in
    let ns = ap (λ (z : TicketState g.row.T.Denot). length z.notes) c.ticket.view_is in let o = c.ticket.inside.notes.ok.0 in let l = c.requires.place in omega arith

pub index-requires-2 : goal.index-requires-2
index-requires-2 g c =
    let t = c.args.ticket.now in let b = c.args.self.now in let v = c.self.invariant in let pk = c.self.inside.table.shared.key in
    let plan = ap (λ (z : BoardState g.row.T.Denot g.row.T-Key.Denot). z.plan) c.self.view_is in let job = ap (λ (z : TicketState g.row.T.Denot). z.job) c.ticket.view_is in
    let low = inside c.inputs.result.now c.self.inside.layout.graph (graph_of pk) (jobs_on b) c.ticket.inside.job t.job c.args.place (length c.self.inside.cells.items) c.inputs.ensures v.layout_is.graph (ap graph_of plan) job v.layout_is.sound c.requires.ticket.within c.requires.place v.count in
    let o = c.self.inside.cells.ok.0 in omega arith

pub read-requires : goal.read-requires
read-requires g c =
    let t = c.args.ticket.now in let b = c.args.self.now in let v = c.self.invariant in let pk = c.self.inside.table.shared.key in
    let plan = ap (λ (z : BoardState g.row.T.Denot g.row.T-Key.Denot). z.plan) c.self.view_is in let job = ap (λ (z : TicketState g.row.T.Denot). z.job) c.ticket.view_is in
    let ins : c.inputs.result.now ≡ inputs_of (jobs_on b) t.job = same_inputs c.inputs.result.now c.self.inside.layout.graph (graph_of pk) (jobs_on b) c.ticket.inside.job t.job c.inputs.ensures v.layout_is.graph (ap graph_of plan) job in
    let ns = ap (λ (z : TicketState g.row.T.Denot). z.notes) c.ticket.view_is in
    let r = note_at g.T.Defined.is_defined b.plan (inputs_of (jobs_on b) t.job) t.notes c.args.place c.index.result.now c.requires.ticket.notes c.requires.place in
    let low = inside c.inputs.result.now c.self.inside.layout.graph (graph_of pk) (jobs_on b) c.ticket.inside.job t.job c.args.place (length c.self.inside.cells.items) c.inputs.ensures v.layout_is.graph (ap graph_of plan) job v.layout_is.sound c.requires.ticket.within c.requires.place v.count in
    right_cell g.T.Defined.is_defined b.plan c.self.inside.cells.items (slice_index (inputs_of (jobs_on b) t.job) c.args.place) (slice_index c.inputs.result.now c.args.place) (get_or t.notes c.args.place c.index.result.now) c.index.result.now c.index-2.result.now
    (ap (λ z. z.cells.value.items) (sym plan) ∙ v.cells_are) low (ap (λ z. slice_index z c.args.place) (sym ins)) (c.index.ensures ∙ ap (λ z. get_or z c.args.place c.index.result.now) ns) r.1 c.index-2.ensures

pub returns-clause-right : goal.returns-clause-right
returns-clause-right g c =
    let t = c.args.ticket.now in let b = c.args.self.now in let ns = ap (λ (z : TicketState g.row.T.Denot). z.notes) c.ticket.view_is in
    let r = note_at g.T.Defined.is_defined b.plan (inputs_of (jobs_on b) t.job) t.notes c.args.place c.index.result.now c.requires.ticket.notes c.requires.place in
    let same : get_or t.notes c.args.place c.index.result.now ≡ c.index.result.now = sym (c.index.ensures ∙ ap (λ z. get_or z c.args.place c.index.result.now) ns) in
    subst (g.T.Defined.is_defined b.plan.key (slice_index (inputs_of (jobs_on b) t.job) c.args.place)) (ap (λ (z : CellNote g.row.T.Denot). z.value) same ∙ sym c.read.ensures) r.1.1

pub returns-clause-noted : goal.returns-clause-noted
returns-clause-noted g c =
    let t = c.args.ticket.now in let b = c.args.self.now in let ns = ap (λ (z : TicketState g.row.T.Denot). z.notes) c.ticket.view_is in
    let r = note_at g.T.Defined.is_defined b.plan (inputs_of (jobs_on b) t.job) t.notes c.args.place c.index.result.now c.requires.ticket.notes c.requires.place in
    value_known t.notes c.args.place c.index.result.now c.read.result.now r.0 (c.index.ensures ∙ ap (λ z. get_or z c.args.place c.index.result.now) ns) c.read.ensures
