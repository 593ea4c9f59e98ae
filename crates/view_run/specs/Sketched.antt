-- What is drawn of a layout's circuits before they are aligned, and the picture that is joined of it.
use Rattle.std.specs.Prelude.{◌≡◌, ℕ, List, length}
use Rattle.cell_graph.specs.Linked.{Linked, plain}
use Rattle.deep_tables.specs.Nets.{AreRightNets}
use Rattle.deep_tables.specs.Pins.{pins_of}
use Rattle.flat_layout.specs.Layout.{IsReached}
use Rattle.flat_layout.specs.Nets.{Tables}
use Rattle.gds_layout.specs.declared.layout.Layout.{Layout}
use Rattle.part_origins.specs.Made.{AllOrigins}
use Rattle.part_origins.specs.Origins.{HaveOrigins}
use Rattle.plain_netlist.specs.Netlist.{Netlist}
use Rattle.rule_layers.specs.Meaning.{wiring_of}
use Rattle.rule_text.specs.Rules.{Rules}
use Rattle.rule_text.specs.Seen.{rules_seen}
use Rattle.rule_text.specs.declared.rules.LayerRule.{LayerRule}
use Rattle.rule_text.specs.declared.rules.RuleSet.{RuleSet}
use Rattle.view_drawing.specs.Calls.{called_in}
use Rattle.view_drawing.specs.Devices.{AreSmallRegions, areas_of}
use Rattle.view_drawing.specs.declared.source.Source.{Source}
use Rattle.view_file.specs.declared.layout.Picture.{Picture}
use Rattle.view_labels.specs.Labels.{AreInside}
use Rattle.view_shapes.specs.ReadLaws.{Called}
use Rattle.view_netlist.specs.declared.drawing.Drawing.{Drawing}
use Rattle.view_netlist.specs.Drawing.{AreAllSmall}
use Rattle.view_picture.specs.Picture.{AreDrawn, IsJoinedPicture}
use Rattle.view_picture.specs.declared.drawings.Sketch.{Sketch}
use Rattle.view_run.specs.Views.{AreCellsOf}
use Rattle.view_picture.specs.declared.pictures.Sketched.{Sketched}
use Rattle.view_run.specs.declared.found.Cells.{Cells}

-- what is drawn of these circuits of the layout, by right nets, of which those are called that are
-- drawn pins of cells with circuits
pub record IsSketchOf (l : Layout) (r : Rules) (s : Source) (cells : List ℕ)
    (names : List (List ℕ)) (written : Netlist) (v : Sketch) : Type 0 where
  pub nets : Tables
  pub right : AreRightNets (plain l.design) (wiring_of r) nets
  pub called : Called
  pub pins : (cell b : ℕ) → IsReached (plain l.design) cell
      → called cell b ≡ called_in s.circuits.now (pins_of s.pins.now) cell b
  pub drawn : AreDrawn s nets called cells names written.circuits v

-- what is drawn of these circuits over the cells that the code has, with these names
pub record AreSketched (l : Layout) (rules : RuleSet) (c : Cells) (names : List (List ℕ))
    (written : Netlist) (v : Sketched) : Type 0 where
  pub cells_are : v.cells.items ≡ c.cells.items
  pub names_are : v.names.items ≡ names
  pub inside : AreInside (length l.design.cells) v.cells.items
  pub small : AreAllSmall v.sketch.drawings.items
  pub small_regions : AreSmallRegions (areas_of v.sketch.regions.regions.items)
  pub source : Source
  pub are : AreCellsOf l (rules_seen rules) source c.cells.items
  pub rules_are : source.rules.now ≡ rules
  pub layers : source.layers.now ≡ c.tables.gated.layers
  pub nets : source.nets.now ≡ c.tables.gated.nets
  pub gates : source.gates.now ≡ c.tables.gated.gates
  pub pins : source.pins.now ≡ c.tables.pins
  pub sketch : IsSketchOf l (rules_seen rules) source c.cells.items names written v.sketch

-- the picture of aligned circuits, by where their parts are from in the netlist that was aligned,
-- of which this is drawn
pub record IsJoinedBy (d : Linked) (rules : List LayerRule) (cells : List ℕ)
    (names : List (List ℕ)) (drawn : List Drawing) (written shown : Netlist) (p : Picture)
    : Type 0 where
  pub origins : AllOrigins
  pub have : HaveOrigins written shown origins
  pub joined : IsJoinedPicture d rules cells names drawn origins shown.circuits p
