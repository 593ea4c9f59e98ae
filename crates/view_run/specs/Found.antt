-- What is found of a layout and what is compared, as the code has them.
use Rattle.std.specs.Prelude.{◌≡◌, Some, None}
use Rattle.cell_graph.specs.Linked.{height_at, plain}
use Rattle.deep_flow.specs.Bad.{told_gates}
use Rattle.deep_flow.specs.Extracted.{IsNetlistOfCells}
use Rattle.deep_tables.specs.Circuits.{AreAllTables}
use Rattle.deep_tables.specs.Gates.{gates_of}
use Rattle.flat_layout.specs.Circuits.{AreCircuitCells}
use Rattle.gds_layout.specs.declared.layout.Layout.{Layout}
use Rattle.lvs_run.specs.Answers.{Answer, NoMemory}
use Rattle.lvs_run.specs.Outcomes.{merge_refusal}
use Rattle.net_model.specs.Rows.{plain_netlist}
use Rattle.plain_netlist.specs.Netlist.{Netlist}
use Rattle.plain_netlist.specs.Normal.{IsNormalNetlist}
use Rattle.plain_netlist.specs.Sound.{IsSoundNetlist}
use Rattle.report_file.specs.Combined.{compared_of, wide_name}
use Rattle.rule_text.specs.Rules.{Rules}
use Rattle.view_run.specs.Ends.{AsRun, End}
use Rattle.view_run.specs.declared.found.Cells.{Cells}
use Rattle.view_run.specs.declared.found.Found.{Found}
use Rattle.view_run.specs.declared.merging.Both.{Both}

-- the tables of a layout's cells, and the cells with circuits
pub record HasCells (l : Layout) (r : Rules) (c : Cells) : Type 0 where
  pub tables : AreAllTables l.header.unit_pm (plain l.design) r c.tables.gated.layers
      c.tables.gated.nets c.tables.gated.gates c.tables.pins c.circuits
  pub cells : AreCircuitCells (plain l.design) (height_at l.design)
      (gates_of c.tables.gated.gates) c.cells.items

-- its netlist and its bad gates too
pub record HasFound (l : Layout) (r : Rules) (f : Found) : Type 0 where
  pub cells : HasCells l r f.cells
  pub of_cells : IsNetlistOfCells l.header.unit_pm l.design r f.cells.tables.gated.layers
      f.cells.tables.gated.nets f.cells.tables.gated.gates f.cells.tables.pins
      (plain_netlist f.netlist) f.top
  pub sound : IsSoundNetlist (plain_netlist f.netlist)
  pub normal : IsNormalNetlist (plain_netlist f.netlist)
  pub told : f.bad.items ≡ told_gates r f.cells.tables.gated.gates l.design.order

-- what the rules have compared of two netlists
pub record AreCompared (r : Rules) (layout schematic : Netlist) (b : Both) : Type 0 where
  pub layout_is : plain_netlist b.layout ≡ compared_of r layout
  pub schematic_is : plain_netlist b.schematic ≡ compared_of r schematic
  pub narrow : merge_refusal (wide_name r layout) (wide_name r schematic) ≡ None

-- why two netlists aren't compared: one of them is too wide, or there was no memory
pub data NotCompared (r : Rules) (layout schematic : Netlist) (e : End) : Type 0 where
  Wide : (a : Answer) → merge_refusal (wide_name r layout) (wide_name r schematic) ≡ Some a
      → e ≡ AsRun a → NotCompared r layout schematic e
  Memory : e ≡ AsRun NoMemory → NotCompared r layout schematic e
