use Rattle.std.proofs.Common.{◌≡◌, ℕ, cond, take, None}
use Rattle.composed_laws.specs.Answered.{children_of}
use Rattle.job_graph.specs.Graph.{has}
use Rattle.match_types.specs.Children as pins
use Rattle.net_model.specs.Rows.{plain_netlist}
use Rattle.pair_jobs.specs.Children.{answer_in}
use Rattle.pair_jobs.proofs.children.child_pins.Given as goal

abbrev pub invariant-loop-pair : goal.invariant-loop-pair
invariant-loop-pair g l = ((k : ℕ) → pins.children_of l.children k ≡ cond (has k (take l.pair-index l.pairs)) (children_of (plain_netlist l.left) (λ q. answer_in q (g.R.Reads.value l.reads q)) k) None) × (pins.is_told l.children ≡ l.told)
