-- What the commands `extract` and `run` write of a layout's netlist.
use Rattle.std.specs.Prelude.{◌≡◌, ℕ, List, Option}
use Rattle.cell_graph.specs.Linked.{IsSound, plain}
use Rattle.deep_flow.specs.Bad.{told_gates}
use Rattle.deep_flow.specs.Extracted.{IsNetlistOfCells}
use Rattle.deep_tables.specs.Gates.{AreGates}
use Rattle.deep_tables.specs.Layers.{AreLayers}
use Rattle.deep_tables.specs.Nets.{AreNets}
use Rattle.deep_tables.specs.Pins.{ArePins}
use Rattle.deep_tables.specs.declared.gates.BadGate.{BadGate}
use Rattle.deep_tables.specs.declared.gates.CellGates.{CellGates}
use Rattle.deep_tables.specs.declared.layers.CellLayers.{CellLayers}
use Rattle.deep_tables.specs.declared.nets.CellNets.{CellNets}
use Rattle.deep_tables.specs.declared.pins.CellPins.{CellPins}
use Rattle.gds_layout.specs.declared.layout.Layout.{Layout}
use Rattle.plain_netlist.specs.Netlist.{Netlist}
use Rattle.net_model.specs.Rows.{plain_netlist}
use Rattle.netlist_file.specs.declared.file.Cells.{Cells}
use Rattle.netlist_file.specs.declared.file.Extraction.{Extraction}
use Rattle.netlist_file.specs.declared.file.Files.{Files}
use Rattle.netlist_file.specs.declared.file.NetlistFile.{NetlistFile}
use Rattle.netlist_file.specs.declared.file.Files.TheVariants.{Whole, Wide}
use Rattle.plain_netlist.specs.Normal.{IsNormalNetlist}
use Rattle.plain_netlist.specs.Sound.{IsSoundNetlist}
use Rattle.rule_text.specs.Rules.{Rules}
use Rattle.shapes_file.specs.File.{IsShapesFile, IsWide}
use Rattle.netlist_file.specs.Spelled.{IsSpelled}
use Rattle.spice_text.specs.Written.{IsWritten}

-- the netlist of the layout's cells, in which circuit top is the top's, their bad gates in the
-- design's order, and the text that spells the netlist
pub record IsNetlistFile (l : Layout) (r : Rules) (nl : Netlist) (top : ℕ) (bad : List BadGate)
    (text : List ℕ) : Type 0 where
  pub layers : List (Option CellLayers)
  pub nets : List (Option CellNets)
  pub gates : List (Option CellGates)
  pub pins : List (Option CellPins)
  pub design : IsSound l.design
  pub are_layers : AreLayers (plain l.design) r layers
  pub are_nets : AreNets (plain l.design) r nets
  pub are_gates : AreGates (plain l.design) r gates
  pub are_pins : ArePins (plain l.design) r pins
  pub of_cells : IsNetlistOfCells l.header.unit_pm l.design r layers nets gates pins nl top
  pub sound : IsSoundNetlist nl
  pub spelled : IsSpelled nl
  pub told : bad ≡ told_gates r gates l.design.order
  pub written : IsWritten nl text

-- a layout's netlist file, as it stands in memory
pub record HasNetlist (l : Layout) (r : Rules) (f : NetlistFile) : Type 0 where
  pub file : IsNetlistFile l r (plain_netlist f.netlist) f.top f.bad.items f.text.items
  pub sound : IsSoundNetlist (plain_netlist f.netlist)
  pub normal : IsNormalNetlist (plain_netlist f.netlist)

-- its shapes file too
pub record HasFiles (l : Layout) (r : Rules) (e : Extraction) : Type 0 where
  pub shapes : IsShapesFile l r e.shapes.text.items e.shapes.cells e.shapes.rectangles
  pub netlist : HasNetlist l r e.file

-- both, or the cell for which there is no shapes file
abbrev pub AreFiles : Layout → Rules → Files → Type 0
AreFiles l r (Whole e) = HasFiles l r e
AreFiles l r (Wide cell) = IsWide l r cell

-- what is extracted: any text of its netlist makes the netlist file
pub record IsExtracted (l : Layout) (r : Rules) (c : Cells) : Type 0 where
  pub layers : AreLayers (plain l.design) r c.layers
  pub file : (text : List ℕ) → IsWritten (plain_netlist c.netlist) text
      → IsNetlistFile l r (plain_netlist c.netlist) c.top c.bad.items text
  pub sound : IsSoundNetlist (plain_netlist c.netlist)
  pub normal : IsNormalNetlist (plain_netlist c.netlist)
