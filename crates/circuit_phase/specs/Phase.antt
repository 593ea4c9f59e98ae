-- What a phase of circuits is made from.
use Rattle.std.specs.Prelude.{◌≡◌, ℕ, List, Option, length}
use Rattle.geo_base.specs.declared.shapes.Rect.{Rect}
use Rattle.cell_graph.specs.Linked.{Linked, height_at, plain}
use Rattle.deep_tables.specs.Circuits.{AreCircuitSources}
use Rattle.deep_tables.specs.Entries.{entry}
use Rattle.deep_tables.specs.Gates.{AreGates, gates_of}
use Rattle.deep_tables.specs.Nets.{AreNets, nets_in}
use Rattle.deep_tables.specs.Pins.{ArePins, pins_of}
use Rattle.deep_tables.specs.Positions.{ArePositions}
use Rattle.deep_tables.specs.declared.gates.CellGates.{CellGates}
use Rattle.deep_tables.specs.declared.nets.CellNets.{CellNets}
use Rattle.deep_tables.specs.declared.pins.CellPins.{CellPins}
use Rattle.flat_layout.specs.Circuits.{cell_circuit_names}
use Rattle.flat_layout.specs.Layout.{Design, IsReached}
use Rattle.flat_layout.specs.Nets as flat
use Rattle.flat_layout.specs.Regions.{Wiring, formula}
use Rattle.flat_layout.specs.Values.{IsLocalLayer}
use Rattle.net_phase.specs.Graph.{AreBelowJobs}
use Rattle.rule_layers.specs.Meaning.{device_rules, wiring_of}
use Rattle.rule_text.specs.Rules.{Rules}
use Rattle.rule_text.specs.Seen.{rules_seen}
use Rattle.rule_text.specs.declared.rules.RuleSet.{RuleSet}
use Rattle.circuit_phase.specs.Placed.{tables_with}
use Rattle.circuit_phase.specs.declared.phase.CircuitPhase.TheInside.{Inside}

-- the squares that reached cells hold themselves of each conductor are known
abbrev pub HasOwn : Design → Wiring → Type 0
HasOwn d w = (own : ℕ → ℕ → List Rect)
    × ((cell c : ℕ) → IsReached d cell → IsLocalLayer d (formula w c) cell (own cell c))

-- what the table of nets says
abbrev pub nets_at : List (Option CellNets) → ℕ → flat.CellNets
nets_at table cell = nets_in (entry table cell)

-- over some rectangles of the cells themselves all that a circuit is made from is right
abbrev pub HasSources : Linked → Rules → List (Option CellNets) → List (Option CellGates)
    → List (Option CellPins) → List ℕ → Type 0
HasSources d r nets gates pins circuits = (own : ℕ → ℕ → List Rect)
    × AreCircuitSources (plain d) (wiring_of r) (tables_with own (nets_at nets)) (device_rules r)
    (gates_of gates) (pins_of pins) (height_at d) circuits

-- the layout, the rules, the database unit and the jobs
pub record CircuitJobs : Type 0 where
  pub design : Linked
  pub rules : RuleSet
  pub unit : ℕ
  pub graph : List (List ℕ)

abbrev pub jobs_seen : Inside → CircuitJobs
jobs_seen a = record {
  design = a.design.now;
  rules = a.rules.now;
  unit = a.unit_pm;
  graph = a.graph;
}

pub record IsCircuitPhase (a : Inside) : Type 0 where
  pub graph : AreBelowJobs a.design.now a.graph
  pub job_count : length a.jobs.items ≡ length a.design.now.cells
  pub jobs : ArePositions a.design.now.order (length a.design.now.order) a.jobs.items
  pub nets : AreNets (plain a.design.now) (rules_seen a.rules.now) a.nets.now
  pub gates : AreGates (plain a.design.now) (rules_seen a.rules.now) a.gates.now
  pub pins : ArePins (plain a.design.now) (rules_seen a.rules.now) a.pins.now
  pub sources : HasSources a.design.now (rules_seen a.rules.now) a.nets.now a.gates.now a.pins.now
      a.circuits.cells.items
  pub number_count : length a.circuits.numbers.items ≡ length a.design.now.cells
  pub numbers : ArePositions a.circuits.cells.items (length a.circuits.cells.items)
      a.circuits.numbers.items
  pub names : a.circuits.names.items ≡ cell_circuit_names (plain a.design.now)
      a.circuits.cells.items
