-- What a phase of further devices is made from.
use Rattle.cell_graph.specs.Linked.{plain}
use Rattle.deep_tables.specs.Gates.{AreMosGates}
use Rattle.rule_text.specs.Seen.{rules_seen}
use Rattle.gate_phase.specs.declared.more.MorePhase.TheInside.{Inside}

-- the table has the gates of transistors, and no further devices
pub record IsMorePhase (a : Inside) : Type 0 where
  pub gates : AreMosGates (plain a.work.design) (rules_seen a.work.rules) a.gates.now
