use Rattle.std.proofs.Common.{◌≡◌, ◌∙◌, ◌++◌, List, Option, Some, ap, length-append, map, subst, sym, arith}
use Rattle.cell_graph.specs.Linked.{plain}
use Rattle.deep_tables.proofs.Finding.{some_at}
use Rattle.deep_tables.proofs.Reading.{some_and}
use Rattle.deep_tables.specs.Entries.{entry, upward_cell}
use Rattle.deep_tables.specs.Gates.{AreCellGates, AreMosCellGates, list_of}
use Rattle.deep_tables.specs.declared.gates.CellGates.{CellGates}
use Rattle.deep_tables.specs.declared.gates.Gate.{Gate}
use Rattle.rule_layers.specs.Meaning.{more_rule, mos_rules}
use Rattle.rule_text.specs.Seen.{rules_seen}
use Rattle.gate_phase.proofs.Listing.{all_cell}
use Rattle.gate_phase.specs.Work.{WorkOf}
use Rattle.gate_phase.proofs.more.MorePhasePhase.work.Goals as goal

pub of-requires : goal.of-requires
of-requires g c =
    let a = c.self.inside in let cell = c.cell_of-cell.result in
    some_at (AreMosCellGates (plain a.work.design) (rules_seen a.work.rules) cell) (entry a.gates.now cell) (c.self.invariant.gates cell c.cell_of-cell.ensures.reached)

pub gates_of-requires-clause-from : goal.gates_of-requires-clause-from
gates_of-requires-clause-from g c =
    let r = rules_seen c.self.inside.work.rules in
    let both = length-append (mos_rules r) (map (more_rule r) r.more) in let first = c.transistors-from.ensures in let last = c.devices-to.ensures in omega (arith, both, first, last)

pub returns : goal.returns
returns g c =
    let a = c.self.inside in let d = a.work.design in let r = rules_seen a.work.rules in let cell = c.cell_of-cell.result in
    let front = some_and (AreMosCellGates (plain d) r cell) (entry a.gates.now cell) (c.self.invariant.gates cell c.cell_of-cell.ensures.reached) in
    let listed : Some c.of.result.now ≡ Some front.0.gates.items = sym c.of.ensures ∙ ap (λ (o : Option CellGates). list_of o) front.1 in
    let same : c.of.result.now ≡ front.0.gates.items = cc in
    let all : CellGates = record { gates = c.push_all.new.gates } in
    let is : c.push_all.new.gates.items ≡ front.0.gates.items ++ c.in_ok-more.more.items = c.in_ok-push_all.ensures ∙ ap (λ (l : List Gate). l ++ c.in_ok-more.more.items) (c.in_ok-gates.ensures ∙ same) in
    let made = all_cell (plain d) r cell c.transistors-from.result c.devices-to.result front.0 all c.in_ok-more.more.items c.transistors-from.ensures c.devices-to.ensures front.2 c.in_ok-more.ensures is in
    subst (λ (z : WorkOf). AreCellGates (plain z.design) (rules_seen z.rules) (upward_cell z.design c.args.job) all) c.self.view_is
    (subst (λ n. AreCellGates (plain d) r n all) c.cell_of-cell.ensures.cell made)
