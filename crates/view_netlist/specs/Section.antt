-- The section of the schematic: `H(..)`.
use Rattle.std.specs.Prelude.{◌≡◌, ℕ, List, [], ◌++◌, map, codes}
use Rattle.call_order.specs.Order.{IsCallOrder}
use Rattle.net_model.specs.Faults.{called_by}
use Rattle.plain_netlist.specs.Netlist.{Circuit}
use Rattle.view_netlist.specs.Circuits.{AreCircuitTexts}
use Rattle.view_netlist.specs.Classes.{class_texts, used_classes}
use Rattle.view_netlist.specs.Kinds.{Class}
use Rattle.view_netlist.specs.declared.drawing.Names.{Names}

-- the circuits' own names
pub record AreOwnNames (cs : List Circuit) (names : Names) : Type 0 where
  pub layers : names.layers.items ≡ []
  pub circuits : names.circuits.items ≡ map (λ c. c.name) cs

-- these classes, then the circuits of these numbers, without places
abbrev pub IsSectionText : Names → List Class → List Circuit → List ℕ → List ℕ → Type 0
IsSectionText names classes cs order text =
    (circuits : List ℕ) × AreCircuitTexts names [] cs order circuits
    × (text ≡ codes "\nH(" ++ (class_texts classes ++ (circuits ++ codes "\n)")))

-- the used classes, then the circuits under their own names, each behind those that it calls
pub record IsSchematicText (cs : List Circuit) (text : List ℕ) : Type 0 where
  pub names : Names
  pub own : AreOwnNames cs names
  pub order : List ℕ
  pub callees_first : IsCallOrder (map called_by cs) order
  pub is : IsSectionText names (used_classes cs) cs order text
