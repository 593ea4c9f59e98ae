-- What the command `run` writes of a comparison, and what it comes to.
use Rattle.std.specs.Prelude.{◌≡◌, ℕ, List, Option, Some, None, length, slice_get}
use Rattle.std.specs.Option.{option_map}
use Rattle.cell_graph.specs.Linked.{Linked}
use Rattle.deep_tables.specs.declared.gates.BadGate.{BadGate}
use Rattle.match_laws.specs.Answer.{Answer}
use Rattle.match_report.specs.Pairs.{name_of}
use Rattle.match_report.specs.Report.{answers_of, report}
use Rattle.match_report.specs.declared.report.Compared.{Compared}
use Rattle.pair_jobs.specs.Verdict.{IsRunVerdict}
use Rattle.pair_jobs.specs.declared.verdict.Verdict.{Verdict}
use Rattle.plain_netlist.specs.Netlist.{Netlist}
use Rattle.report_file.specs.Compared.{IsComparison}
use Rattle.report_file.specs.Turns.{AreInTurns}
use Rattle.rule_text.specs.Rules.{Rules}

-- the answers of all pairs, if there are pairs
abbrev pub all_answers : Option Compared → Option (List Answer)
all_answers compared = option_map answers_of compared

-- how many pairs there are
abbrev pub pair_count : Option Compared → ℕ
pair_count None = 0
pair_count (Some c) = length (answers_of c)

-- the text is the report of comparing a layout's netlist with a schematic by the rules, in turns,
-- under the name of the top's circuit, with these bad gates; so many pairs stand in it; and what
-- the bad gates and the answers of the last turn come to
pub record IsReportFile (d : Linked) (r : Rules) (layout : Netlist) (top : ℕ) (bad : List BadGate)
    (schematic : Netlist) (text : List ℕ) (pairs : ℕ) (verdict : Verdict) : Type 0 where
  pub same : List (List ℕ × List ℕ)
  pub compared : Option Compared
  pub lines : List ℕ
  pub turns : AreInTurns r layout top schematic same compared lines
  pub comparison : IsComparison r layout top schematic same compared
  pub written : text ≡ report d (name_of (slice_get layout.circuits top)) bad lines compared
  pub pair_total : pairs ≡ pair_count compared
  pub outcome : IsRunVerdict (length bad) (all_answers compared) verdict
