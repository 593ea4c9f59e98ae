-- When a report comes to a match, a mismatch or neither.
use Rattle.std.specs.Prelude.{◌≡◌, ◌⊎◌, ◌↔◌, ◌<◌, ℕ, false, List, Some, length}
use Rattle.std.specs.List.{Any}
use Rattle.cell_graph.specs.Linked.{Linked}
use Rattle.composed_laws.specs.Answered.{pair_in}
use Rattle.deep_tables.specs.declared.gates.BadGate.{BadGate}
use Rattle.match_laws.specs.Answer.{Answer, IsDifference, Match}
use Rattle.match_laws.specs.Circuits.{IsCorrespondence, Pair, Pairing}
use Rattle.match_report.specs.Report.{answers_of}
use Rattle.match_report.specs.declared.report.Compared.{Compared}
use Rattle.net_align.specs.Compared.{AreCalleesFirst, IsAlignable}
use Rattle.net_model.specs.Rows.{plain_netlist}
use Rattle.pair_jobs.specs.Answers.{AreAllAnswers, answer_at}
use Rattle.pair_jobs.specs.Verdict.{IsUndecided}
use Rattle.pair_jobs.specs.declared.verdict.Verdict.{Verdict}
use Rattle.pair_jobs.specs.declared.verdict.Verdict.TheVariants as verdict
use Rattle.plain_netlist.specs.Netlist.{Circuit, Netlist, IsCircuit}
use Rattle.refine_match.specs.Matching.{HaveUnevenDevices}
use Rattle.report_file.specs.Combined.{merges_again}
use Rattle.report_file.specs.Compared.{asked_by, left_answered, right_answered}
use Rattle.report_file.specs.File.{IsReportFile}
use Rattle.rule_text.specs.Rules.{Rules}

-- a bad gate makes a mismatch
abbrev pub BadGateLaw : Type 0
BadGateLaw = (d : Linked) (r : Rules) (layout : Netlist) (top : ℕ) (bad : List BadGate)
    (schematic : Netlist) (text : List ℕ) (pairs : ℕ) (v : Verdict)
    → IsReportFile d r layout top bad schematic text pairs v → 0 < length bad → v ≡ verdict.Mismatch

-- circuits c and d are pair k of the comparison, as it is answered, with the pins that the pairs
-- below hand up; of the tops' pair names tell the pins apart where the rules say so
pub record IsComparedPair (r : Rules) (f : Compared) (k : ℕ) (c d : Circuit) (p : Pair)
    : Type 0 where
  pub left : IsCircuit (left_answered f) k c
  pub right : IsCircuit (right_answered f) k d
  pub pair_is : p ≡ pair_in ((asked_by r f).told k) (left_answered f) (answer_at (answers_of f)) c d

-- so does a pair of circuits with unequal numbers of devices of some class, length and width,
-- whatever the pairs below it come to
abbrev pub UnevenPairLaw : Type 0
UnevenPairLaw = (d : Linked) (r : Rules) (layout : Netlist) (top : ℕ) (bad : List BadGate)
    (schematic : Netlist) (text : List ℕ) (pairs : ℕ) (v : Verdict)
    → (x : IsReportFile d r layout top bad schematic text pairs v) → (f : Compared) (k : ℕ)
    (a b : Circuit) (p : Pair) → x.compared ≡ Some f → IsComparedPair r f k a b p
    → HaveUnevenDevices p → v ≡ verdict.Mismatch

-- a pair that matches carries a correspondence, which keeps the pins of the pairs below
abbrev pub CarriedPairLaw : Type 0
CarriedPairLaw = (d : Linked) (r : Rules) (layout : Netlist) (top : ℕ) (bad : List BadGate)
    (schematic : Netlist) (text : List ℕ) (pairs : ℕ) (v : Verdict)
    → IsAlignable layout → AreCalleesFirst layout
    → (x : IsReportFile d r layout top bad schematic text pairs v) → (f : Compared) (k : ℕ)
    (a b : Circuit) (p : Pair) (map : Pairing) → x.compared ≡ Some f → IsComparedPair r f k a b p
    → answer_at (answers_of f) k ≡ Match map → IsCorrespondence p map

-- a pair that has a correspondence which keeps the pins of the pairs below never differs
abbrev pub KeptPairLaw : Type 0
KeptPairLaw = (d : Linked) (r : Rules) (layout : Netlist) (top : ℕ) (bad : List BadGate)
    (schematic : Netlist) (text : List ℕ) (pairs : ℕ) (v : Verdict)
    → IsAlignable layout → AreCalleesFirst layout
    → (x : IsReportFile d r layout top bad schematic text pairs v) → (f : Compared) (k : ℕ)
    (a b : Circuit) (p : Pair) (map : Pairing) → x.compared ≡ Some f → IsComparedPair r f k a b p
    → IsCorrespondence p map → IsDifference (answer_at (answers_of f) k) → ⊥

-- neither a match nor a mismatch exactly where no gate is bad, the top has a partner, no pair
-- differs, and one is undecided
abbrev pub UndecidedLaw : Type 0
UndecidedLaw = (d : Linked) (r : Rules) (layout : Netlist) (top : ℕ) (bad : List BadGate)
    (schematic : Netlist) (text : List ℕ) (pairs : ℕ) (v : Verdict)
    → IsAlignable layout → AreCalleesFirst layout
    → (x : IsReportFile d r layout top bad schematic text pairs v)
    → (v ≡ verdict.Undecided) ↔ ((length bad ≡ 0) × ((f : Compared) × (x.compared ≡ Some f)
    × (Any IsDifference (answers_of f) → ⊥) × Any IsUndecided (answers_of f)))

-- where no pair of the circuits as they are differs, or the rules don't say to make devices one
-- once more, the answers are those of the circuits as they are
abbrev pub IsAsBefore : Rules → Compared → Type 0
IsAsBefore r f = (first : List Answer)
    → AreAllAnswers (plain_netlist f.left) (plain_netlist f.right) (asked_by r f) first
    → (merges_again r ≡ false) ⊎ (Any IsDifference first → ⊥)
    → (f.merged_again ≡ false) × (answers_of f ≡ first)

abbrev pub AsBeforeLaw : Type 0
AsBeforeLaw = (d : Linked) (r : Rules) (layout : Netlist) (top : ℕ) (bad : List BadGate)
    (schematic : Netlist) (text : List ℕ) (pairs : ℕ) (v : Verdict)
    → IsAlignable layout → AreCalleesFirst layout
    → (x : IsReportFile d r layout top bad schematic text pairs v) → (f : Compared)
    → x.compared ≡ Some f → IsAsBefore r f
