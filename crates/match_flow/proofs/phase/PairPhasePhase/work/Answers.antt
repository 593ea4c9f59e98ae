use Rattle.std.proofs.Common.{◌≡◌, ◌+◌, ◌<◌, ◌==◌, ◌&&◌, ℕ, List, IsSomeAnd, length, sym, ◌∙◌, ap, subst, arith}
use Rattle.job_graph.specs.Graph.{Waits, inputs_of}
use Rattle.match_types.specs.Answered.{IsPairAnswer, asked_of}
use Rattle.match_types.specs.Children.{is_told}
use Rattle.net_model.specs.Rows.{plain_circuit, plain_netlist}
use Rattle.pair_jobs.proofs.Called.{count_of, if_ok}
use Rattle.pair_jobs.specs.Children.{AreChildrenOf}
use Rattle.match_flow.proofs.Paired.{answers, circuit_read, fits_left, fits_right, key_of, right_within}
use Rattle.match_flow.proofs.phase.PairPhasePhase.work.Goals as goal
use Rattle.match_flow.specs.Phase.{PairJobs}
use Rattle.plain_netlist.specs.Netlist.{IsCircuit}

pub index-right-requires : goal.index-right-requires
index-right-requires g c =
    let a = c.self.inside in
    let left = a.left.now in
    let right = a.right.now in
    let job = c.args.job in
    let count = count_of left in
    let jobs = c.self.invariant.graph.jobs in
    let low : job < length a.graph = subst (λ (z : PairJobs). job < length z.graph) (sym c.self.view_is) c.requires.job in
    let within : job < length left.circuits.items = omega (arith, count, jobs, low) in
    let one = c.index-left.result.now in
    let is : IsCircuit (plain_netlist left) job (plain_circuit one) = circuit_read left job one within c.index-left.ensures in
    let there = right_within left right job (plain_circuit one) c.self.invariant.sides is in
    let long = right.circuits.ok.0 in
    omega (arith, there, long)

pub match_circuits-requires-clause-left : goal.match_circuits-requires-clause-left
match_circuits-requires-clause-left g c =
    let a = c.self.inside in
    let left = a.left.now in
    let right = a.right.now in
    let job = c.args.job in
    let count = count_of left in
    let jobs = c.self.invariant.graph.jobs in
    let low : job < length a.graph = subst (λ (z : PairJobs). job < length z.graph) (sym c.self.view_is) c.requires.job in
    let within : job < length left.circuits.items = omega (arith, count, jobs, low) in
    let one = c.index-left.result.now in
    let is : IsCircuit (plain_netlist left) job (plain_circuit one) = circuit_read left job one within c.index-left.ensures in
    let other = c.index-right.result.now in
    let also : IsCircuit (plain_netlist right) job (plain_circuit other) = circuit_read right job other (right_within left right job (plain_circuit one) c.self.invariant.sides is) c.index-right.ensures in
    let value = g.R.Reads.value c.args.reads.now in
    let read : (q : ℕ) → Waits a.graph job q → IsSomeAnd (value q) (IsPairAnswer (key_of left right a.limit a.same_pins) q) = λ q w.
    subst (λ (z : PairJobs). IsSomeAnd (value q) (IsPairAnswer (key_of z.left z.right z.limit z.same_pins) q)) (sym c.self.view_is) (c.requires.right q (subst (λ (z : PairJobs). Waits z.graph job q) c.self.view_is w)) in
    let handed : AreChildrenOf (plain_netlist left) value (inputs_of a.graph job) c.in_ok-children.children =
    subst (λ (l : List ℕ). AreChildrenOf (plain_netlist left) value l c.in_ok-children.children) c.inputs.ensures c.in_ok-children.ensures.children in
    let count_is : length (plain_netlist left).circuits ≡ length left.circuits.items = count_of left in
    let told : is_told c.in_ok-children.children ≡ (asked_of (plain_netlist left) a.limit a.same_pins).told job =
    c.in_ok-children.ensures.told ∙ c.is_told-told.ensures ∙ ap (λ (n : ℕ). a.same_pins && (job + 1 == n)) (sym count_is) in
    fits_left left right a.limit a.same_pins a.graph job one other value c.in_ok-children.children c.self.invariant.sides c.self.invariant.order c.self.invariant.graph is also read handed told

pub match_circuits-requires-clause-right : goal.match_circuits-requires-clause-right
match_circuits-requires-clause-right g c =
    let a = c.self.inside in
    let left = a.left.now in
    let right = a.right.now in
    let job = c.args.job in
    let count = count_of left in
    let jobs = c.self.invariant.graph.jobs in
    let low : job < length a.graph = subst (λ (z : PairJobs). job < length z.graph) (sym c.self.view_is) c.requires.job in
    let within : job < length left.circuits.items = omega (arith, count, jobs, low) in
    let one = c.index-left.result.now in
    let is : IsCircuit (plain_netlist left) job (plain_circuit one) = circuit_read left job one within c.index-left.ensures in
    let other = c.index-right.result.now in
    let also : IsCircuit (plain_netlist right) job (plain_circuit other) = circuit_read right job other (right_within left right job (plain_circuit one) c.self.invariant.sides is) c.index-right.ensures in
    let value = g.R.Reads.value c.args.reads.now in
    let read : (q : ℕ) → Waits a.graph job q → IsSomeAnd (value q) (IsPairAnswer (key_of left right a.limit a.same_pins) q) = λ q w.
    subst (λ (z : PairJobs). IsSomeAnd (value q) (IsPairAnswer (key_of z.left z.right z.limit z.same_pins) q)) (sym c.self.view_is) (c.requires.right q (subst (λ (z : PairJobs). Waits z.graph job q) c.self.view_is w)) in
    let handed : AreChildrenOf (plain_netlist left) value (inputs_of a.graph job) c.in_ok-children.children =
    subst (λ (l : List ℕ). AreChildrenOf (plain_netlist left) value l c.in_ok-children.children) c.inputs.ensures c.in_ok-children.ensures.children in
    let count_is : length (plain_netlist left).circuits ≡ length left.circuits.items = count_of left in
    let told : is_told c.in_ok-children.children ≡ (asked_of (plain_netlist left) a.limit a.same_pins).told job =
    c.in_ok-children.ensures.told ∙ c.is_told-told.ensures ∙ ap (λ (n : ℕ). a.same_pins && (job + 1 == n)) (sym count_is) in
    fits_right left right a.limit a.same_pins a.graph job one other value c.in_ok-children.children c.self.invariant.sides c.self.invariant.order c.self.invariant.graph is also read handed told

pub returns : goal.returns
returns g c =
    let a = c.self.inside in
    let left = a.left.now in
    let right = a.right.now in
    let job = c.args.job in
    let count = count_of left in
    let jobs = c.self.invariant.graph.jobs in
    let low : job < length a.graph = subst (λ (z : PairJobs). job < length z.graph) (sym c.self.view_is) c.requires.job in
    let within : job < length left.circuits.items = omega (arith, count, jobs, low) in
    let one = c.index-left.result.now in
    let is : IsCircuit (plain_netlist left) job (plain_circuit one) = circuit_read left job one within c.index-left.ensures in
    let other = c.index-right.result.now in
    let also : IsCircuit (plain_netlist right) job (plain_circuit other) = circuit_read right job other (right_within left right job (plain_circuit one) c.self.invariant.sides is) c.index-right.ensures in
    let value = g.R.Reads.value c.args.reads.now in
    let read : (q : ℕ) → Waits a.graph job q → IsSomeAnd (value q) (IsPairAnswer (key_of left right a.limit a.same_pins) q) = λ q w.
    subst (λ (z : PairJobs). IsSomeAnd (value q) (IsPairAnswer (key_of z.left z.right z.limit z.same_pins) q)) (sym c.self.view_is) (c.requires.right q (subst (λ (z : PairJobs). Waits z.graph job q) c.self.view_is w)) in
    let handed : AreChildrenOf (plain_netlist left) value (inputs_of a.graph job) c.in_ok-children.children =
    subst (λ (l : List ℕ). AreChildrenOf (plain_netlist left) value l c.in_ok-children.children) c.inputs.ensures c.in_ok-children.ensures.children in
    let count_is : length (plain_netlist left).circuits ≡ length left.circuits.items = count_of left in
    let told : is_told c.in_ok-children.children ≡ (asked_of (plain_netlist left) a.limit a.same_pins).told job =
    c.in_ok-children.ensures.told ∙ c.is_told-told.ensures ∙ ap (λ (n : ℕ). a.same_pins && (job + 1 == n)) (sym count_is) in
    if_ok _ _ c.match_circuits.result (λ v h.
    subst (λ (z : PairJobs). IsPairAnswer (key_of z.left z.right z.limit z.same_pins) job v) c.self.view_is
    (answers left right a.limit a.same_pins a.graph job one other value c.in_ok-children.children c.self.invariant.sides c.self.invariant.order c.self.invariant.graph is also read handed told v h)) c.match_circuits.ensures.answer
