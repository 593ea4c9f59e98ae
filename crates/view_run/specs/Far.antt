-- Why nothing is made of a layout, rules and a schematic; and what it is that reaches 2^30 or more
-- from the origin, where that is why.
use Rattle.std.specs.Prelude.{◌≡◌, ℕ, List, None}
use Rattle.cell_graph.specs.Linked.{plain}
use Rattle.deep_tables.specs.Nets.{AreRightNets}
use Rattle.deep_tables.specs.Pins.{pins_of}
use Rattle.deep_tables.specs.declared.gates.BadGate.{BadGate}
use Rattle.flat_layout.specs.Layout.{IsReached}
use Rattle.flat_layout.specs.Nets.{Tables}
use Rattle.gds_layout.specs.declared.layout.Layout.{Layout}
use Rattle.lvs_run.specs.Answers.{Answer, NoMemory}
use Rattle.lvs_run.specs.Outcomes.{merge_refusal}
use Rattle.part_origins.specs.Made.{AllOrigins}
use Rattle.part_origins.specs.Origins.{HaveOrigins}
use Rattle.plain_netlist.specs.Netlist.{Netlist}
use Rattle.report_file.specs.Combined.{compared_of, wide_name}
use Rattle.report_file.specs.Taken.{IsTaken}
use Rattle.report_file.specs.declared.turns.Turns.{Turns}
use Rattle.rule_layers.specs.Meaning.{wiring_of}
use Rattle.rule_text.specs.Rules.{Rules}
use Rattle.view_drawing.specs.Calls.{called_in}
use Rattle.view_drawing.specs.Devices.{Area, areas_of}
use Rattle.view_drawing.specs.declared.source.Source.{Source}
use Rattle.view_shapes.specs.ReadLaws.{Called}
use Rattle.view_netlist.specs.declared.drawing.Drawing.{Drawing}
use Rattle.view_picture.specs.Far.{HasFarCell, HasFarJoined}
use Rattle.view_picture.specs.declared.drawings.Sketch.{Sketch}
use Rattle.view_run.specs.Ends.{AsRun, End, TooFar}
use Rattle.view_run.specs.Sketched.{IsSketchOf}
use Rattle.view_run.specs.Views.{AreCellsOf, IsNetlistFound, IsTooWide, names_of, shown_left}

-- something of a circuit of the layout, as it is written, by right nets, of which those are called
-- that are drawn pins of cells with circuits
pub record HasFarCircuit (l : Layout) (r : Rules) : Type 0 where
  pub source : Source
  pub cells : List ℕ
  pub are : AreCellsOf l r source cells
  pub nets : Tables
  pub right : AreRightNets (plain l.design) (wiring_of r) nets
  pub called : Called
  pub pins : (cell b : ℕ) → IsReached (plain l.design) cell
      → called cell b ≡ called_in source.circuits.now (pins_of source.pins.now) cell b
  pub far : HasFarCell source nets called

-- something that is moved, by where the parts of aligned circuits are from
pub record HasFarBy (written shown : Netlist) (drawings : List Drawing) (areas : List Area)
    : Type 0 where
  pub origins : AllOrigins
  pub have : HaveOrigins written shown origins
  pub far : HasFarJoined origins.insides origins.circuits drawings areas

-- something of a circuit of the layout as it is compared, joined from what is drawn of the written
-- ones
pub record HasFarAligned (l : Layout) (r : Rules) (schematic : Netlist) : Type 0 where
  pub source : Source
  pub cells : List ℕ
  pub are : AreCellsOf l r source cells
  pub netlist : Netlist
  pub top : ℕ
  pub bad : List BadGate
  pub found : IsNetlistFound l r source.layers.now source.nets.now source.gates.now
      source.pins.now netlist top bad
  pub turns : Turns
  pub narrow : merge_refusal (wide_name r netlist) (wide_name r schematic) ≡ None
  pub taken : IsTaken r (compared_of r netlist) top (compared_of r schematic) turns
  pub sketch : Sketch
  pub sketched : IsSketchOf l r source cells (names_of netlist) (compared_of r netlist) sketch
  pub by : HasFarBy (compared_of r netlist) (shown_left (compared_of r netlist) turns.compared)
      sketch.drawings.items (areas_of sketch.regions.regions.items)

pub data IsTooFar (l : Layout) (r : Rules) (schematic : Netlist) : Type 0 where
  Written : HasFarCircuit l r → IsTooFar l r schematic
  Aligned : HasFarAligned l r schematic → IsTooFar l r schematic

-- why nothing is made of a layout, rules and a schematic
pub data NotMade (l : Layout) (r : Rules) (schematic : Netlist) (e : End) : Type 0 where
  Wide : (a : Answer) → IsTooWide l r schematic a → e ≡ AsRun a → NotMade l r schematic e
  Far : IsTooFar l r schematic → e ≡ TooFar → NotMade l r schematic e
  Memory : e ≡ AsRun NoMemory → NotMade l r schematic e
