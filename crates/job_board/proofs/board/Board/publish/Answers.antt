use Rattle.job_board.specs.Rule.{graph_of}
use Rattle.job_board.proofs.Waiting.{dependents_fit}
use Rattle.job_board.proofs.board.Board.publish.Goals as goal

pub hand_out-requires-clause-fits : goal.hand_out-requires-clause-fits
hand_out-requires-clause-fits g c κs within = dependents_fit (graph_of c.self.inside.table.shared.key) c.self.invariant.layout_is.sound
