-- What the table says of kept squares, and what the definitions say.
use Rattle.std.specs.Prelude.{◌≡◌, ◌↔◌, ℕ, ◌+◌, ◌≤◌, List, Option, Some, slice_get}
use Rattle.geo_base.specs.declared.shapes.Square.{Square}
use Rattle.flat_layout.specs.Layers.{Formula, reach}
use Rattle.flat_layout.specs.Layout.{IsReached}
use Rattle.cell_graph.specs.Linked.{Linked, IsSound, plain}
use Rattle.rule_text.specs.Rules.{Rules}
use Rattle.rule_layers.specs.Formulas.{formulas, zone_margin}
use Rattle.deep_tables.specs.declared.zones.CellZones.{CellZones}
use Rattle.deep_tables.specs.Frames.{HasHulls}
use Rattle.deep_tables.specs.Zones.{AreZones, IsAsked}
use Rattle.layer_phase.specs.Parts.{IsFromCalmHull, HaveZones}
use Rattle.layer_phase.specs.Keeps.{HaveEntries, IsKeptBy}

-- a table of what cells leave has the entries of all placed cells, decides where all is shut there,
-- and tells what they keep
pub record TellsKept (n : ℕ) (d : Linked) (z : List (Option CellZones)) (x : Formula)
    (cell name : ℕ) : Type 0 where
  pub entries : HaveEntries d z cell name
  pub zones : HaveZones n d x cell
  pub kept : (q : Square) → IsKeptBy (reach x) d z cell name q ↔ IsFromCalmHull d x cell q

abbrev pub KeptLaw : Type 0
KeptLaw = (d : Linked) (r : Rules) (z : List (Option CellZones)) (x : Formula) (cell name : ℕ)
    → IsSound d → HasHulls d → AreZones (plain d) r z
    → IsReached (plain d) cell → slice_get (formulas r.names) name ≡ Some x
    → IsAsked r name x → reach x + reach x ≤ zone_margin r.names
    → TellsKept (zone_margin r.names) d z x cell name
