-- The database that KLayout's netlist browser reads.
use Rattle.std.specs.Prelude.{◌≡◌, ℕ, List, ◌++◌, Option}
use Rattle.match_laws.specs.Answer.{Answer}
use Rattle.plain_netlist.specs.Netlist.{Circuit}
use Rattle.rule_text.specs.Rules.{Rules}
use Rattle.view_cross.specs.declared.rows.Row.{Row}
use Rattle.view_netlist.specs.Section.{IsSchematicText}
use Rattle.view_file.specs.Cross.{cross_text}
use Rattle.view_file.specs.Layout.{IsLayoutText}
use Rattle.view_file.specs.declared.layout.Picture.{Picture}

-- the layout, the schematic, and which of their circuits and nodes are partners
pub record IsDatabase (top : List ℕ) (unit : ℕ) (rules : Rules) (p : Picture)
    (logs : List (List (List ℕ))) (lefts rights : List Circuit) (proposals : List (List Row))
    (answers : Option (List Answer)) (text : List ℕ) : Type 0 where
  pub layout : List ℕ
  pub schematic : List ℕ
  pub left : IsLayoutText top unit rules p lefts layout
  pub right : IsSchematicText rights schematic
  pub is : text ≡ layout ++ (schematic
      ++ cross_text p.names.circuits.items logs lefts rights proposals answers)
