-- A reported match: the good gates and the regions of the flat layout correspond one to one to the
-- devices and the nets of the flattened schematic; by rules that combine devices, where each class
-- of alike ones is one.
use Rattle.std.specs.Prelude.{◌≡◌, ℕ, Bool, false, true, List, [], Option, Some}
use Rattle.align_laws.specs.Aligned.{IsDeviceAligned, IsNetAligned}
use Rattle.align_laws.specs.Cut.{Alignment}
use Rattle.align_laws.specs.Partners.{IsAlignedPair}
use Rattle.cell_graph.specs.Linked.{Linked, plain}
use Rattle.composed_laws.specs.Composed.{AreDevicesPaired, AreNetsPaired}
use Rattle.deep_tables.specs.declared.gates.BadGate.{BadGate}
use Rattle.flat_layout.specs.Circuits.{IsCircuitCell}
use Rattle.flat_layout.specs.Expanded.{AreTablesRight, CircuitTables}
use Rattle.flat_layout.specs.GateTables.{GateSquare}
use Rattle.flat_layout.specs.Nets.{Tables}
use Rattle.flat_layout.specs.Regions.{Node}
use Rattle.headline_laws.specs.Again.{AreDevicesPairedAgain}
use Rattle.headline_laws.specs.FlatNetlist.{flat_netlist, IsFlatGateOf, IsFlatRegionOf}
use Rattle.match_laws.specs.Circuits.{Pairing}
use Rattle.match_report.specs.Report.{answers_of}
use Rattle.match_report.specs.declared.report.Compared.{Compared}
use Rattle.merge_laws.specs.Grouped.{IsMadeOf}
use Rattle.merge_laws.specs.Merge.{merged}
use Rattle.net_align.specs.Compared.{AreCalleesFirst, IsAlignable}
use Rattle.net_model.specs.Rows.{plain_netlist}
use Rattle.pair_jobs.specs.Answers.{pairings_of}
use Rattle.pair_jobs.specs.declared.verdict.Verdict.{Verdict}
use Rattle.pair_jobs.specs.declared.verdict.Verdict.TheVariants as verdict
use Rattle.plain_netlist.specs.Flats.{Corresponds, expanded, Reversed, Through}
use Rattle.plain_netlist.specs.Netlist.{Netlist, Slot}
use Rattle.report_file.specs.Combined.{compared_of}
use Rattle.report_file.specs.Compared.{left_answered}
use Rattle.report_file.specs.File.{IsReportFile}
use Rattle.report_file.specs.PinNames.{AreNamesKept}
use Rattle.rule_layers.specs.Meaning.{device_rules, wiring_of}
use Rattle.rule_text.specs.Rules.{Rules}
use Rattle.merge_laws.specs.Whole.{IsWhole}

-- What joins the flat layout with the flattened schematic: the right tables of the layout's cells,
-- whose circuits are the layout's netlist with the top's as number top; the lines by which circuits
-- are partners or have none; the top's partner in the schematic; and the aligned pair of the two
-- netlists as they are compared, whose pairs were compared.
pub record Matching (d : Linked) (r : Rules) (unit : ℕ) (layout : Netlist) (top : ℕ)
    (schematic : Netlist) (f : Compared) : Type 0 where
  pub tables : Tables
  pub circuits : CircuitTables
  pub level : ℕ → ℕ
  pub are_right : AreTablesRight (plain d) (wiring_of r) tables circuits layout (device_rules r)
      unit level
  pub top_is : IsCircuitCell circuits.cells top (plain d).top
  pub same : List (List ℕ × List ℕ)
  pub partner : ℕ
  pub left_by : Alignment
  pub right_by : Alignment
  pub aligned : IsAlignedPair (compared_of r layout) (compared_of r schematic) top partner same
      (plain_netlist f.left) (plain_netlist f.right) left_by right_by

-- devices below circuit k of two aligned netlists that the pairings pair; where alike ones are
-- made one once more, by way of those that they become
abbrev pub AreDevicesAnswered : Bool → Netlist → Netlist → (ℕ → Pairing) → ℕ → Slot → Slot → Type 0
AreDevicesAnswered false left right pairings k = AreDevicesPaired left pairings k
AreDevicesAnswered true left right pairings k = AreDevicesPairedAgain left right pairings k

module _ {d : Linked} {r : Rules} {unit : ℕ} {layout : Netlist} {top : ℕ} {schematic : Netlist}
    {f : Compared} (m : Matching d r unit layout top schematic f) where
  -- a device below the top of the layout's netlist as it is compared, and the one that the reported
  -- pairings take it to where both stand in the aligned netlists
  abbrev pub pairs : Slot → Slot → Type 0
  pairs = Through (IsDeviceAligned (compared_of r layout) (plain_netlist f.left) m.left_by
      m.aligned.left_aligned top)
      (Through (AreDevicesAnswered f.merged_again (plain_netlist f.left) (plain_netlist f.right)
      (pairings_of (answers_of f)) (m.left_by.number top))
      (Reversed (IsDeviceAligned (compared_of r schematic) (plain_netlist f.right) m.right_by
      m.aligned.right_aligned m.partner)))

  -- a gate of the flat layout, known by each of its squares, and the device of its cell's circuit
  abbrev pub gates : GateSquare → Slot → Type 0
  gates = Reversed (IsFlatGateOf (plain d) (wiring_of r) m.circuits layout top (device_rules r))

  -- such a gate, and the device that the pairings take it to, by way of that device
  abbrev pub devices : GateSquare → Slot → Type 0
  devices = Through gates pairs

  -- where devices are combined, by way of those that the groups of alike ones become
  abbrev pub combined_devices : GateSquare → Slot → Type 0
  combined_devices = Through gates
      (Through (Reversed (IsMadeOf layout top)) (Through pairs (IsMadeOf schematic m.partner)))

  -- a region of the flat layout, known by each of its nodes, and the net that they take it to
  abbrev pub nets : Node → Slot → Type 0
  nets = Through
      (Reversed (IsFlatRegionOf (plain d) (wiring_of r) m.tables m.circuits layout top))
      (Through (IsNetAligned (compared_of r layout) (plain_netlist f.left) m.left_by
      m.aligned.left_aligned top)
      (Through (AreNetsPaired (left_answered f) (pairings_of (answers_of f)) (m.left_by.number top))
      (Reversed (IsNetAligned (compared_of r schematic) (plain_netlist f.right) m.right_by
      m.aligned.right_aligned m.partner))))

  -- where the rules say `same_pins`: a region that is a pin goes with a net of its name
  abbrev pub KeepsNames : (Node → Slot → Type 0) → Type 0
  KeepsNames net = r.tells_pins ≡ true
      → AreNamesKept (compared_of r layout) top (compared_of r schematic) m.partner
      (IsFlatRegionOf (plain d) (wiring_of r) m.tables m.circuits layout top) net

-- No gate is bad, and the reported pairs compose to a one-to-one correspondence of the flat layout
-- with the schematic, flattened from the top's partner: good gates with devices of their class and
-- sizes, terminals with terminals, source and drain in either order, regions with nets, pins with
-- pins, of one name where the rules say `same_pins`. By rules that combine devices each class of
-- alike ones is one on both sides, with the sum of their widths, and no device is lost so.
pub record MatchesFlat (d : Linked) (r : Rules) (unit : ℕ) (layout : Netlist) (top : ℕ)
    (bad : List BadGate) (schematic : Netlist) (compared : Option Compared) : Type 0 where
  pub good : bad ≡ []
  pub found : Compared
  pub is : compared ≡ Some found
  pub matching : Matching d r unit layout top schematic found
  pub corresponds : r.combine ≡ false
      → Corresponds (flat_netlist (plain d) (wiring_of r) (device_rules r) unit)
      (expanded schematic matching.partner) (devices matching) (nets matching)
  pub combined : r.combine ≡ true
      → Corresponds (merged (flat_netlist (plain d) (wiring_of r) (device_rules r) unit))
      (merged (expanded schematic matching.partner)) (combined_devices matching) (nets matching)
  pub names : KeepsNames matching (nets matching)
  pub whole : r.combine ≡ true
      → IsWhole (flat_netlist (plain d) (wiring_of r) (device_rules r) unit)
      × IsWhole (expanded schematic matching.partner)

-- a match is reported of nothing else
abbrev pub MatchedReportLaw : Type 0
MatchedReportLaw = (d : Linked) (r : Rules) (unit : ℕ) (t : Tables) (g : CircuitTables)
    (level : ℕ → ℕ) (layout : Netlist) (top : ℕ) (bad : List BadGate) (schematic : Netlist)
    (text : List ℕ) (pairs : ℕ)
    → AreTablesRight (plain d) (wiring_of r) t g layout (device_rules r) unit level
    → IsCircuitCell g.cells top (plain d).top → IsAlignable layout → AreCalleesFirst layout
    → IsAlignable schematic
    → (x : IsReportFile d r (compared_of r layout) top bad (compared_of r schematic) text pairs
    verdict.Match)
    → MatchesFlat d r unit layout top bad schematic x.compared

-- what joins the flat layout with the flattened schematic is there for each comparison
abbrev pub MatchingLaw : Type 0
MatchingLaw = (d : Linked) (r : Rules) (unit : ℕ) (t : Tables) (g : CircuitTables)
    (level : ℕ → ℕ) (layout : Netlist) (top : ℕ) (bad : List BadGate) (schematic : Netlist)
    (text : List ℕ) (pairs : ℕ) (v : Verdict)
    → AreTablesRight (plain d) (wiring_of r) t g layout (device_rules r) unit level
    → IsCircuitCell g.cells top (plain d).top
    → (x : IsReportFile d r (compared_of r layout) top bad (compared_of r schematic) text pairs v)
    → (f : Compared) → x.compared ≡ Some f
    → (m : Matching d r unit layout top schematic f) × (m.same ≡ x.same)
