use Rattle.std.proofs.Common.{◌≡◌, ◌++◌, drop, None}
use Rattle.job_graph.specs.Graph.{inputs_of}
use Rattle.job_board.specs.Rule.{graph_of, dependents_of}
use Rattle.job_board.specs.Slots.{held_by}
use Rattle.job_board.specs.Plays.{telling}
use Rattle.job_board.specs.Pieces.{waiting_slots}
use Rattle.job_board.proofs.publish.hand_out.Given as goal

abbrev pub invariant-loop-i : goal.invariant-loop-i
invariant-loop-i g l = (l.seat.table_id ≡ l.fn.seat.table_id) × (l.seat.id ≡ l.fn.seat.id)
    × (l.seat.me ≡ (telling l.fn.seat.me.0 l.job l.i, waiting_slots None (graph_of l.table.shared.key) l.job (drop l.i (inputs_of (dependents_of l.table.shared.key) l.job)) ++ held_by None (graph_of l.table.shared.key) l.job None))
