-- What the phases of nets, gates and pins read, made once for all of them.
use Rattle.std.specs.Prelude.{◌<◌, ◌^◌, List, Option, length}
use Rattle.geo_base.specs.declared.shapes.Rect.{Rect}
use Rattle.cell_graph.specs.Linked.{Linked}
use Rattle.rule_text.specs.Seen.{rules_seen}
use Rattle.rule_text.specs.Sound.{IsSound}
use Rattle.rule_text.specs.declared.rules.RuleSet.{RuleSet}
use Rattle.rule_layers.specs.Meaning.{globals_of, wiring_of}
use Rattle.deep_tables.specs.declared.nets.CellNets.{CellNets}
use Rattle.net_phase.specs.Below.{BelowSeen}
use Rattle.net_phase.specs.Elements.{AreAllElements, element_lists}
use Rattle.net_phase.specs.Indexes.{AreIndexes}
use Rattle.net_phase.specs.Own.{AreOwnLists, rect_lists}
use Rattle.net_phase.specs.Wires.{AreWires}
use Rattle.net_phase.specs.declared.wired.Wired.TheInside.{Inside}

-- the layout, the rules, and the rectangles that cells hold themselves
pub record WiredOf : Type 0 where
  pub design : Linked
  pub rules : RuleSet
  pub own : List (List (List Rect))

abbrev pub wired_of : Inside → WiredOf
wired_of a =
    record { design = a.design.now; rules = a.rules.now; own = rect_lists a.own.items }

-- with the nets that are known
abbrev pub with_nets : WiredOf → List (Option CellNets) → BelowSeen
with_nets w nets = record { design = w.design; rules = w.rules; own = w.own; nets = nets }

pub record IsWired (a : Inside) : Type 0 where
  pub rules : IsSound (rules_seen a.rules.now)
  pub few : length (globals_of (rules_seen a.rules.now)) < 2 ^ 32
  pub wires : AreWires (wiring_of (rules_seen a.rules.now)) a.wires
  pub elements : AreAllElements a.design.now (element_lists a.elements.items)
  pub own : AreOwnLists a.design.now (rules_seen a.rules.now) (rect_lists a.own.items)
  pub indexes : AreIndexes a.design.now (rules_seen a.rules.now) (rect_lists a.own.items)
      (element_lists a.elements.items) a.indexes
