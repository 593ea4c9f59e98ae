-- A layout and rules have one netlist file.
use Rattle.std.specs.Prelude.{◌≡◌, ℕ, List}
use Rattle.deep_tables.specs.declared.gates.BadGate.{BadGate}
use Rattle.gds_layout.specs.Once.{IsAlike}
use Rattle.gds_layout.specs.declared.layout.Layout.{Layout}
use Rattle.netlist_file.specs.File.{IsNetlistFile}
use Rattle.plain_netlist.specs.Netlist.{Netlist}
use Rattle.rule_text.specs.Rules.{Rules}

-- netlist, top, bad gates and text are the same
pub record IsSameNetlist (one other : Netlist) (n its_n : ℕ) (told its_told : List BadGate)
    (spelled its_spelled : List ℕ) : Type 0 where
  pub netlist : one ≡ other
  pub top : n ≡ its_n
  pub bad : told ≡ its_told
  pub text : spelled ≡ its_spelled

-- of alike layouts
abbrev pub OneNetlistLaw : Type 0
OneNetlistLaw = (l m : Layout) (r : Rules) (one other : Netlist) (top its_top : ℕ)
    (bad its_bad : List BadGate) (text its_text : List ℕ) → IsAlike l m
    → IsNetlistFile l r one top bad text → IsNetlistFile m r other its_top its_bad its_text
    → IsSameNetlist one other top its_top bad its_bad text its_text

-- and so are the cells that the top reaches, by height and then file order
abbrev pub OneOrderLaw : Type 0
OneOrderLaw = (l m : Layout) (r : Rules) (one other : Netlist) (top its_top : ℕ)
    (bad its_bad : List BadGate) (text its_text : List ℕ) → IsAlike l m
    → IsNetlistFile l r one top bad text → IsNetlistFile m r other its_top its_bad its_text
    → l.design.order ≡ m.design.order
