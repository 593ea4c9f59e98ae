use Rattle.std.proofs.Common.{ℕ, List, get_or, sym, ap, ◌∙◌}
use Rattle.job_graph.specs.Graph.{has}
use Rattle.job_graph.proofs.Inputs.{item_has}
use Rattle.job_tests.proofs.phase.SumsPhase.work.Goals as goal

pub get-requires : goal.get-requires
get-requires g c =
    let is : List ℕ = c.inputs-input-items.result.now in let i = get_or is c.loop-input.input-index 0 in
    c.requires.inputs i (ap (has i) (sym c.inputs-input-items.ensures) ∙ item_has is c.loop-input.input-index 0 c.loop-input-test.true)
