-- Which circuit of the schematic a report names beside the layout's top.
use Rattle.std.specs.Prelude.{◌≡◌, ℕ, List, Some, slice_get}
use Rattle.align_laws.specs.Partners.{IsPartner}
use Rattle.cell_graph.specs.Linked.{Linked}
use Rattle.deep_tables.specs.declared.gates.BadGate.{BadGate}
use Rattle.match_report.specs.Pairs.{name_of}
use Rattle.match_report.specs.Report.{partner_word}
use Rattle.match_report.specs.Words.{name_word}
use Rattle.match_report.specs.declared.report.Compared.{Compared}
use Rattle.pair_jobs.specs.declared.verdict.Verdict.{Verdict}
use Rattle.plain_netlist.specs.Netlist.{Circuit, Netlist, IsCircuit}
use Rattle.plain_netlist.specs.Sound.{IsSoundNetlist}
use Rattle.report_file.specs.File.{IsReportFile}
use Rattle.rule_text.specs.Rules.{Rules}

-- the top's partner
abbrev pub TopPartnerLaw : Type 0
TopPartnerLaw = (d : Linked) (r : Rules) (layout : Netlist) (top : ℕ) (bad : List BadGate)
    (schematic : Netlist) (text : List ℕ) (pairs : ℕ) (v : Verdict) → IsSoundNetlist layout
    → (x : IsReportFile d r layout top bad schematic text pairs v) → (f : Compared)
    → x.compared ≡ Some f → (b : ℕ) × (c : Circuit) × IsPartner layout schematic top x.same top b
    × IsCircuit schematic b c
    × (partner_word (name_of (slice_get layout.circuits top)) x.compared ≡ name_word c.name)
