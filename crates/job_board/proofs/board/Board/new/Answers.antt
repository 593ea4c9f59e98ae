use Rattle.std.proofs.Common.{sym, subst}
use Rattle.job_graph.specs.Graph.{AreInputs}
use Rattle.job_board.proofs.Waiting.{dependents_fit}
use Rattle.job_board.proofs.board.Board.new.Goals as goal

pub open_table-requires-clause-fits : goal.open_table-requires-clause-fits
open_table-requires-clause-fits g c κs within = dependents_fit c.of-2.result.value (subst AreInputs (sym c.of-2.ensures) c.in_ok-layout.ensures.sound)
