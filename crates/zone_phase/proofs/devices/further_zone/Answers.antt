use Rattle.std.proofs.Common.{ℕ, List, IfOk, subst, sym}
use Rattle.flat_layout.specs.Layers.{Formula}
use Rattle.cell_graph.specs.Linked.{Linked}
use Rattle.rule_text.specs.declared.rules.MoreRule.{MoreRule}
use Rattle.deep_tables.specs.Frames.{IsFramedOpen}
use Rattle.zone_phase.specs.Names.{AreNameOpens, further_names, names_inputs}
use Rattle.zone_phase.proofs.devices.further_zone.Goals as goal

pub returns-in-Resistor : goal.returns-in-Resistor
returns-in-Resistor c =
    subst (λ (m : MoreRule). IfOk c.names_zone.result (λ r. (n : ℕ) (d : Linked) (cell : ℕ) (trees : List Formula) → AreNameOpens n d cell trees c.args.sets.now → IsFramedOpen n d (names_inputs trees (further_names m)) cell r))
    (sym c.in-Resistor.is) c.names_zone.ensures

pub returns-in-Diode : goal.returns-in-Diode
returns-in-Diode c =
    subst (λ (m : MoreRule). IfOk c.names_zone-in-Diode.result (λ r. (n : ℕ) (d : Linked) (cell : ℕ) (trees : List Formula) → AreNameOpens n d cell trees c.args.sets.now → IsFramedOpen n d (names_inputs trees (further_names m)) cell r))
    (sym c.in-Diode.is) c.names_zone-in-Diode.ensures
