-- The circuits of one side that are kept.
use Rattle.net_align.specs.Compared.{AreTables, IsAlignable}
use Rattle.net_align.specs.Side.{AreMarkedCircuits}
use Rattle.net_align.specs.declared.below.Selection.{Selection}
use Rattle.net_model.specs.Rows.{plain_netlist}
use Rattle.plain_netlist.specs.Lists.{AreApart}

-- the netlist can be aligned, the tables are its own, and the circuits are reached ones, each once
pub record IsSelection (s : Selection) : Type 0 where
  pub netlist : IsAlignable (plain_netlist s.netlist.now)
  pub tables : AreTables (plain_netlist s.netlist.now) s.below.now
  pub marked : AreMarkedCircuits (plain_netlist s.netlist.now) s.below.now.reached.items
      s.circuits.now
  pub apart : AreApart s.circuits.now
