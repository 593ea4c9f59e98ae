-- What a job reads of cells.
use Rattle.std.specs.Prelude.{◌≡◌, ℕ, List, Option, Some, None, get_or, length, slice_get}
use Rattle.geo_base.specs.Rects.{IsRect}
use Rattle.geo_base.specs.declared.shapes.Rect.{Rect}
use Rattle.geo_base.specs.declared.shapes.Square.{Square}
use Rattle.flat_layout.specs.Nets.{Tables}
use Rattle.flat_layout.specs.Plane.{IsIn}
use Rattle.flat_layout.specs.Regions.{Wiring}
use Rattle.cell_graph.specs.Linked.{HullHas, IsSound, Linked}
use Rattle.rule_text.specs.declared.rules.RuleSet.{RuleSet}
use Rattle.rule_text.specs.Seen.{rules_seen}
use Rattle.rule_layers.specs.Meaning.{wiring_of}
use Rattle.deep_tables.specs.Nets.{nets_in}
use Rattle.deep_tables.specs.declared.nets.CellNets.{CellNets}
use Rattle.net_phase.specs.Elements.{AreAllElements, element_lists}
use Rattle.net_phase.specs.Indexes.{AreIndexes, bound_of}
use Rattle.net_phase.specs.Own.{own_at, rect_lists}
use Rattle.net_phase.specs.Reading.{nets_of}
use Rattle.net_phase.specs.declared.below.Below.TheInside.{Inside}

-- the layout, the rules, the rectangles that cells hold themselves, and the nets that are known
pub record BelowSeen : Type 0 where
  pub design : Linked
  pub rules : RuleSet
  pub own : List (List (List Rect))
  pub nets : List (Option CellNets)

abbrev pub below_seen : Inside → BelowSeen
below_seen a = record {
  design = a.design.now;
  rules = a.rules.now;
  own = rect_lists a.own.now;
  nets = nets_of a.nets.now;
}

abbrev pub wiring_seen : BelowSeen → Wiring
wiring_seen v = wiring_of (rules_seen v.rules)

-- past the last cell, and where nothing is known, there are no nets
abbrev pub tables_seen : BelowSeen → Tables
tables_seen v = record {
  own = own_at v.own;
  nets = λ cell. nets_in (get_or v.nets cell None);
}

-- own rectangles have squares, and what bounds the cell's nets holds them
pub record AreHeldOwn (n : ℕ) (d : Linked) (all : List (List (List Rect))) : Type 0 where
  pub some : (cell c r : ℕ) (o : Rect) → slice_get (own_at all cell c) r ≡ Some o → IsRect o
  pub held : (cell c r : ℕ) (o : Rect) (q : Square) → slice_get (own_at all cell c) r ≡ Some o
      → IsIn q o → HullHas (bound_of n d cell) q

pub record IsBelowView (a : Inside) : Type 0 where
  pub sound : IsSound a.design.now
  pub conductors : a.conductors ≡ length (wiring_of (rules_seen a.rules.now)).conductors
  pub elements : AreAllElements a.design.now (element_lists a.elements.now)
  pub own : AreHeldOwn a.indexes.now.reach a.design.now (rect_lists a.own.now)
  pub indexes : AreIndexes a.design.now (rules_seen a.rules.now) (rect_lists a.own.now)
      (element_lists a.elements.now) a.indexes.now
