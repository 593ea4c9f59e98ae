-- Where what differs is taken apart, a mismatch is reported of nothing that matches flat.
use Rattle.std.specs.Prelude.{◌≡◌, ℕ, Bool, false, true, List, [], Some}
use Rattle.cell_graph.specs.Linked.{Linked, plain}
use Rattle.deep_tables.specs.declared.gates.BadGate.{BadGate}
use Rattle.flat_layout.specs.GateTables.{GateSquare}
use Rattle.flat_layout.specs.Regions.{Node}
use Rattle.headline_laws.specs.FlatNetlist.{flat_netlist}
use Rattle.match_report.specs.declared.report.Compared.{Compared}
use Rattle.merge_laws.specs.Merge.{merged}
use Rattle.net_align.specs.Compared.{AreCalleesFirst, IsAlignable}
use Rattle.pair_jobs.specs.declared.verdict.Verdict.TheVariants as verdict
use Rattle.plain_netlist.specs.FlatLaws.{Passes}
use Rattle.plain_netlist.specs.Flats.{Corresponds, expanded}
use Rattle.plain_netlist.specs.Netlist.{Netlist, Slot}
use Rattle.report_file.specs.Combined.{compared_of}
use Rattle.report_file.specs.File.{IsReportFile}
use Rattle.report_file.specs.Matched.{KeepsNames, Matching}
use Rattle.report_file.specs.Turns.{IsTooLarge}
use Rattle.rule_layers.specs.Meaning.{device_rules, wiring_of}
use Rattle.rule_text.specs.Rules.{Rules}

-- no test of pairs is a correspondence of the flat layout's netlist with the schematic, flattened
-- from the partner of the layout's top; by rules that combine devices, of the two where each class
-- of alike ones is one; where the rules say `same_pins`, none that keeps the names of pins
pub record CorrespondNowhere (d : Linked) (r : Rules) (unit : ℕ) (layout : Netlist) (top : ℕ)
    (schematic : Netlist) (f : Compared) (m : Matching d r unit layout top schematic f) :
    Type 0 where
  pub flat : r.combine ≡ false → (device : GateSquare → Slot → Bool) (net : Node → Slot → Bool)
      → KeepsNames m (Passes net) → Corresponds (flat_netlist (plain d) (wiring_of r) (device_rules r) unit)
      (expanded schematic m.partner) (Passes device) (Passes net) → ⊥
  pub combined : r.combine ≡ true → (device : GateSquare → Slot → Bool) (net : Node → Slot → Bool)
      → KeepsNames m (Passes net)
      → Corresponds (merged (flat_netlist (plain d) (wiring_of r) (device_rules r) unit))
      (merged (expanded schematic m.partner)) (Passes device) (Passes net) → ⊥

-- where the rules say `flatten_unmatched`, no gate is bad, the top has a partner and nothing became
-- too large, a mismatch is reported where there is no such correspondence
abbrev pub ExactReportLaw : Type 0
ExactReportLaw = (d : Linked) (r : Rules) (unit : ℕ) (layout : Netlist) (top : ℕ)
    (bad : List BadGate) (schematic : Netlist) (text : List ℕ) (pairs : ℕ)
    → IsAlignable layout → AreCalleesFirst layout
    → (x : IsReportFile d r (compared_of r layout) top bad (compared_of r schematic) text pairs
    verdict.Mismatch)
    → r.flattens_unmatched ≡ true → bad ≡ [] → (f : Compared) → x.compared ≡ Some f
    → ((lines : List ℕ) → IsTooLarge r f lines → ⊥)
    → (m : Matching d r unit layout top schematic f)
    → CorrespondNowhere d r unit layout top schematic f m
