-- What is read of cells whose nets are shown.
use Rattle.std.specs.Prelude.{◌≡◌, length}
use Rattle.cell_graph.specs.Linked.{IsSound}
use Rattle.net_phase.specs.Below.{AreHeldOwn, BelowSeen}
use Rattle.net_phase.specs.Elements.{AreAllElements, element_lists}
use Rattle.net_phase.specs.Own.{rect_lists}
use Rattle.net_phase.specs.Reading.{nets_of}
use Rattle.rule_layers.specs.Meaning.{wiring_of}
use Rattle.rule_text.specs.Reaches.{MOST_REACH}
use Rattle.rule_text.specs.Seen.{rules_seen}
use Rattle.view_drawing.specs.declared.placed.Placed.TheInside.{Inside}

abbrev pub placed_seen : Inside → BelowSeen
placed_seen a = record {
  design = a.design.now;
  rules = a.rules.now;
  own = rect_lists a.own.now;
  nets = nets_of a.nets.now;
}

pub record IsPlacedView (a : Inside) : Type 0 where
  pub sound : IsSound a.design.now
  pub conductors : a.conductors ≡ length (wiring_of (rules_seen a.rules.now)).conductors
  pub elements : AreAllElements a.design.now (element_lists a.elements.now)
  pub own : AreHeldOwn MOST_REACH a.design.now (rect_lists a.own.now)
