-- To take apart what differs never changes a match.
use Rattle.std.specs.Prelude.{◌≡◌, ℕ, false, true, List}
use Rattle.cell_graph.specs.Linked.{Linked}
use Rattle.deep_tables.specs.declared.gates.BadGate.{BadGate}
use Rattle.pair_jobs.specs.declared.verdict.Verdict.TheVariants as verdict
use Rattle.plain_netlist.specs.Netlist.{Netlist}
use Rattle.report_file.specs.File.{IsReportFile}
use Rattle.rule_text.specs.Rules.{Rules}

-- the same rules with the line `flatten_unmatched`
abbrev pub flattening : Rules → Rules
flattening r = record r { flattens_unmatched = true }

-- the report of a match without that line is the one with it
abbrev pub SameMatchLaw : Type 0
SameMatchLaw = (d : Linked) (r : Rules) (layout : Netlist) (top : ℕ) (bad : List BadGate)
    (schematic : Netlist) (text : List ℕ) (pairs : ℕ) → r.flattens_unmatched ≡ false
    → IsReportFile d r layout top bad schematic text pairs verdict.Match
    → IsReportFile d (flattening r) layout top bad schematic text pairs verdict.Match
