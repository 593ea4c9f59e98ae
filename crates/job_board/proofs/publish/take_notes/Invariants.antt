use Rattle.std.proofs.Common.{◌≡◌, ◌+◌, ◌≤◌, ℕ, List, [], ◌∷◌, ◌++◌, take, drop, replicate, length, Option, None, vec_capacity}
use Rattle.job_graph.specs.declared.notes.CellNote.{CellNote}
use Rattle.job_graph.specs.Graph.{inputs_of}
use Rattle.job_board.specs.Rule.{graph_of, dependents_of}
use Rattle.job_board.specs.Slots.{own_slot, numbered, AreRight}
use Rattle.job_board.specs.Notes.{IsRight, AreNotes}
use Rattle.job_board.specs.Pieces.{waiting_slots}
use Rattle.job_board.proofs.publish.take_notes.Given as goal

abbrev pub invariant-loop-i : goal.invariant-loop-i
invariant-loop-i g l = let p = l.table.shared.key in let is : List ℕ = inputs_of (graph_of p) l.job in
    (l.seat.table_id ≡ l.fn.seat.table_id) × (l.seat.id ≡ l.fn.seat.id) × (vec_capacity l.fn.notes ≤ vec_capacity l.notes) × (length l.notes.items ≡ l.i)
    × AreNotes g.T.Defined.is_defined p (take l.i is) l.notes.items
    × ((ys : List (Option (CellNote g.row.T.Denot))) × AreRight (IsRight g.T.Defined.is_defined p) (drop l.i is) ys
    × (l.seat.me ≡ (l.fn.seat.me.0, numbered (l.first + l.i) ys ++ ((waiting_slots None (graph_of p) l.job (inputs_of (dependents_of p) l.job) ++ (own_slot (graph_of p) l.job, None) ∷ []) ++ numbered l.first (replicate l.i None)))))
