-- What there is to compare of a layout's netlist and a schematic.
use Rattle.std.specs.Prelude.{ℕ, List, Option, Some, None}
use Rattle.composed_laws.specs.Answered.{Asked}
use Rattle.match_flow.specs.Again.{as_answered, IsAnswered}
use Rattle.match_report.specs.Report.{answers_of}
use Rattle.match_report.specs.declared.report.Compared.{Compared}
use Rattle.match_types.specs.Answered.{asked_of}
use Rattle.net_align.specs.Compared.{AreAligned, HasNoPartner}
use Rattle.net_model.specs.Rows.{plain_netlist}
use Rattle.plain_netlist.specs.Netlist.{Netlist}
use Rattle.report_file.specs.Combined.{merges_again}
use Rattle.rule_text.specs.Rules.{Rules}

-- what there is to compare by the rules of a layout's netlist, below its top, and a schematic,
-- whose circuits are partners by these lines `same`: nothing exactly where the top has no partner, else
-- the aligned pair of the two, and the answer of each pair of their circuits after at most
-- `max_guesses` refuted guesses, where with `same_pins` names tell the tops' pins apart; where the
-- rules flatten circuits and combine devices, and some pair differs so, of the circuits in which
-- each group of alike transistors is one once more
abbrev pub IsComparison : Rules → Netlist → ℕ → Netlist → List (List ℕ × List ℕ) → Option Compared
    → Type 0
IsComparison r layout top schematic same None = HasNoPartner layout schematic top same
IsComparison r layout top schematic same (Some c) =
    AreAligned layout schematic top same (plain_netlist c.left) (plain_netlist c.right)
    × IsAnswered (merges_again r) r.max_guesses r.tells_pins (plain_netlist c.left)
    (plain_netlist c.right) c.merged_again (answers_of c)

-- what the rules ask of its pairs
abbrev pub asked_by : Rules → Compared → Asked
asked_by r f = asked_of (plain_netlist f.left) r.max_guesses r.tells_pins

-- its two sides as their pairs are answered
abbrev pub left_answered : Compared → Netlist
left_answered f = as_answered f.merged_again (plain_netlist f.left)

abbrev pub right_answered : Compared → Netlist
right_answered f = as_answered f.merged_again (plain_netlist f.right)
