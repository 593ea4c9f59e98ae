use Rattle.std.proofs.Common.{length-append, map, subst, arith}
use Rattle.cell_graph.specs.Linked.{plain}
use Rattle.deep_tables.specs.Entries.{upward_cell}
use Rattle.deep_tables.specs.Gates.{AreMosCellGates}
use Rattle.deep_tables.specs.declared.gates.CellGates.{CellGates}
use Rattle.rule_layers.specs.Meaning.{more_rule, mos_rules}
use Rattle.rule_text.specs.Seen.{rules_seen}
use Rattle.gate_phase.specs.Work.{WorkOf}
use Rattle.gate_phase.proofs.Listing.{mos_cell}
use Rattle.gate_phase.proofs.phase.GatePhasePhase.work.Goals as goal

pub gates_by-requires-clause-to : goal.gates_by-requires-clause-to
gates_by-requires-clause-to g c =
    let r = rules_seen c.self.inside.work.rules in
    let both = length-append (mos_rules r) (map (more_rule r) r.more) in let many = c.transistors-to.ensures in omega (arith, both, many)

pub returns : goal.returns
returns g c =
    let w = c.self.inside.work in
    let v : CellGates = record { gates = c.in_ok-gates.gates } in
    let made = mos_cell (plain w.design) (rules_seen w.rules) c.cell_of-cell.result c.transistors-to.result v c.transistors-to.ensures c.in_ok-gates.ensures in
    subst (λ (z : WorkOf). AreMosCellGates (plain z.design) (rules_seen z.rules) (upward_cell z.design c.args.job) v) c.self.view_is
    (subst (λ n. AreMosCellGates (plain w.design) (rules_seen w.rules) n v) c.cell_of-cell.ensures.cell made)
