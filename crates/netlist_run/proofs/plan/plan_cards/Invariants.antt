use Rattle.std.proofs.Common.{◌≡◌, length}
use Rattle.netlist_run.specs.Circuits.{circuits_of, with_cards}
use Rattle.netlist_run.specs.Defined.{defined, defining, params_seen}
use Rattle.netlist_run.specs.CircuitsSeen.{circuits_seen}
use Rattle.netlist_run.proofs.plan.plan_cards.Given as goal

abbrev pub invariant-cards : goal.invariant-cards
invariant-cards l = (defining (params_seen l.params) l.cards ≡ defined l.choices.scale l.bytes) × (with_cards (circuits_seen l.circuits) l.cards ≡ circuits_of l.bytes)

abbrev pub decreases-cards : goal.decreases-cards
decreases-cards l = length l.cards
