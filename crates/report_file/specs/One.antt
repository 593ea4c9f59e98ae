-- Netlists, rules and bad gates have one report.
use Rattle.std.specs.Prelude.{◌≡◌, ℕ, List}
use Rattle.cell_graph.specs.Linked.{Linked}
use Rattle.deep_tables.specs.declared.gates.BadGate.{BadGate}
use Rattle.net_align.specs.Compared.{AreCalleesFirst, IsAlignable}
use Rattle.pair_jobs.specs.declared.verdict.Verdict.{Verdict}
use Rattle.plain_netlist.specs.Netlist.{Netlist}
use Rattle.report_file.specs.File.{IsReportFile}
use Rattle.rule_text.specs.Rules.{Rules}
use Rattle.rule_text.specs.Sound.{IsSound}

-- the texts, the numbers of pairs, and what they come to are the same
pub record IsSameReport (one other : List ℕ) (pairs others : ℕ) (a b : Verdict) : Type 0 where
  pub text : one ≡ other
  pub pair_count : pairs ≡ others
  pub verdict : a ≡ b

abbrev pub OneReportLaw : Type 0
OneReportLaw = (d : Linked) (r : Rules) (layout : Netlist) (top : ℕ) (bad : List BadGate)
    (schematic : Netlist) (text other : List ℕ) (pairs others : ℕ) (a b : Verdict)
    → IsSound r → IsAlignable layout → AreCalleesFirst layout → IsAlignable schematic
    → IsReportFile d r layout top bad schematic text pairs a
    → IsReportFile d r layout top bad schematic other others b
    → IsSameReport text other pairs others a b
