use Rattle.std.proofs.Common.{◌∙◌, ℕ, List, length, subst, sym}
use Rattle.cell_graph.proofs.Ordered.{levels}
use Rattle.deep_tables.proofs.Placing.{order_numbers}
use Rattle.deep_tables.specs.Positions.{AreApartBelow, ArePositions}
use Rattle.rule_text.specs.Seen.{rules_seen}
use Rattle.circuit_phase.proofs.Righting.{sources}
use Rattle.circuit_phase.proofs.phase.CircuitPhase.new.Goals as goal

pub positions-requires-clause-numbers : goal.positions-requires-clause-numbers
positions-requires-clause-numbers c =
    let d = c.args.design.now in
    subst (λ n. AreApartBelow n c.order.result.now) (sym c.cells.ensures) (subst (λ (l : List ℕ). AreApartBelow (length d.cells) l) (sym c.order.ensures) (order_numbers d c.sound.ensures.order))

pub invariant_of-result : goal.invariant_of-result
invariant_of-result c =
    let d = c.args.design.now in
    let found = c.in_ok-circuits.ensures in
    record {
      graph = c.in_ok-graph.ensures;
      job_count = c.in_ok-jobs.ensures.count ∙ c.cells.ensures;
      jobs = subst (λ (l : List ℕ). ArePositions l (length l) c.in_ok-jobs.jobs.items) c.order.ensures c.in_ok-jobs.ensures.places;
      nets = c.requires.nets;
      gates = c.requires.gates;
      pins = c.requires.pins;
      sources = sources d (rules_seen c.args.rules.now) c.args.nets.now c.args.gates.now c.args.pins.now c.in_ok-circuits.circuits.cells.items c.sound.ensures (levels d c.sound.ensures) c.requires.own c.requires.nets c.requires.gates c.requires.pins found.cells;
      number_count = found.count;
      numbers = found.numbers;
      names = found.names;
    }
