use Rattle.job_graph.proofs.Inputs.{lower_law}
use Rattle.job_graph.proofs.Over.{once_law, place_law, ascend_law, over_law}
use Rattle.job_graph.proofs.graph.graph_laws.Goals as goal

pub returns : goal.returns
returns c = record { lower = lower_law; once = once_law; places = place_law; ascend = ascend_law; over = over_law }
