-- What the answer of a comparison says of the flat layout, the schematic, and the pairs in the
-- written report, where the files are told.
use Rattle.std.specs.Prelude.{◌≡◌, ◌⊎◌, ◌↔◌, ℕ, true, List, Option, Some, IsSomeAnd}
use Rattle.std.specs.List.{All, Any}
use Rattle.lvs_outside.specs.Store.{Store, Told, Holds}
use Rattle.lvs_outside.specs.Files.{File}
use Rattle.cell_graph.specs.Linked.{plain}
use Rattle.deep_tables.specs.declared.gates.BadGate.{BadGate}
use Rattle.gds_layout.specs.declared.layout.Layout.{Layout}
use Rattle.match_laws.specs.Answer.{Answer as PairAnswer, IsDifference, Match}
use Rattle.match_laws.specs.Circuits.{IsCorrespondence, Pair, Pairing}
use Rattle.match_report.specs.Report.{answers_of}
use Rattle.match_report.specs.declared.report.Compared.{Compared}
use Rattle.net_align.specs.Compared.{HasNoPartner}
use Rattle.netlist_file.specs.Flat.{HasNoBadGate, ShowsFlat}
use Rattle.pair_jobs.specs.Answers.{answer_at, IsMatch}
use Rattle.pair_jobs.specs.Verdict.{IsUndecided}
use Rattle.pair_jobs.specs.declared.verdict.Verdict.{Verdict}
use Rattle.plain_netlist.specs.Netlist.{Circuit, Netlist}
use Rattle.refine_match.specs.Matching.{HaveUnevenClass, HaveUnevenDevices}
use Rattle.report_file.specs.Combined.{compared_of}
use Rattle.report_file.specs.File.{IsReportFile, all_answers}
use Rattle.report_file.specs.Exact.{CorrespondNowhere}
use Rattle.report_file.specs.Matched.{Matching, MatchesFlat}
use Rattle.report_file.specs.Turns.{IsTooLarge}
use Rattle.report_file.specs.Verdicts.{IsAsBefore, IsComparedPair}
use Rattle.rule_layers.specs.Meaning.{device_rules, wiring_of}
use Rattle.rule_text.specs.Rules.{Rules}
use Rattle.spice_rows.specs.Sizes.{read_limit}
use Rattle.spice_text.specs.Means.{Means as SpiceMeans}
use Rattle.lvs_run.specs.Chips.{schematic_at}
use Rattle.lvs_run.specs.Words.{Outputs, Paths, ToShapes, ToNetlist, ToReport, ToChip, inputs_of}
use Rattle.lvs_run.specs.Answers.{Answer, Counts, Good, Bad, Undecided, IsVerdict}
use Rattle.lvs_run.specs.Answers.{comparison_answer}
use Rattle.lvs_run.specs.Outcomes.{IsReported}
use Rattle.lvs_run.specs.Flat.{HasBadGate, HoldsAs, ListsAs, OfInputs, OfStated}

-- The one text means one netlist, that of the flat layout; the other is the report on comparing
-- this netlist with the schematic, both as they are compared by the rules, beside the flat layout's
-- bad gates; and this is the answer of that comparison.
pub record IsReportOf (l : Layout) (r : Rules) (schematic : Netlist) (a : Answer)
    (netlist_text report_text : List ℕ) : Type 0 where
  pub netlist : Netlist
  pub top : ℕ
  pub bad : List BadGate
  pub shows : ShowsFlat l r netlist_text netlist top bad
  pub pairs : ℕ
  pub verdict : Verdict
  pub file : IsReportFile l.design r (compared_of r netlist) top bad (compared_of r schematic)
      report_text pairs verdict
  pub answer : a ≡ comparison_answer verdict

-- the layout's top has a partner, and this is a fact of the answers of all pairs
abbrev pub OfAnswers : Option Compared → (List PairAnswer → Type 0) → Type 0
OfAnswers compared P = IsSomeAnd (all_answers compared) P

-- a fact of each pair of circuits, with the pins that the pairs below it hand up, and of its answer
abbrev pub OfEachPair : Rules → Option Compared → (Pair → PairAnswer → Type 0) → Type 0
OfEachPair r compared P = (f : Compared) (k : ℕ) (c d : Circuit) (p : Pair) → compared ≡ Some f
    → IsComparedPair r f k c d p → P p (answer_at (answers_of f) k)

-- Good comes exactly where no gate is bad and each pair matches, Bad where a gate is bad, the top
-- has no partner or a pair differs, Undecided where none of this is so and the guesses of some pair
-- ran out. A pair whose circuits have unequal numbers of devices of some class, or of some class
-- and sizes, makes Bad, whatever the pairs below it are. Whatever the answer is, a pair reported as
-- matched carries a correspondence which keeps the pins of the pairs below, and a pair that has
-- such a correspondence is never reported as different. Where the top has a partner, there is what
-- joins the flat layout with the schematic, flattened from that partner, by the lines of the last
-- comparison. Where the rules say `flatten_unmatched`, no gate is bad, the top has a partner and
-- nothing became too large, Bad says that the flat layout corresponds to the flattened schematic in
-- no way, or with `same_pins` in none that keeps the names of pins; where the rules combine
-- devices, with each class of alike ones as one on both sides. Where no pair differs as its
-- circuits are, or the rules don't say to make devices one once more, none are.
pub record HasVerdicts (a : Answer) (l : Layout) (r : Rules) (schematic : Netlist)
    (netlist_text report_text : List ℕ) : Type 0 where
  pub report : IsReportOf l r schematic a netlist_text report_text
  pub good : (a ≡ Good) ↔ (HasNoBadGate (plain l.design) (wiring_of r) (device_rules r)
      × OfAnswers report.file.compared (λ all. All IsMatch all))
  pub bad : (a ≡ Bad) ↔ (HasBadGate l r
      ⊎ (HasNoPartner (compared_of r report.netlist) (compared_of r schematic) report.top
      report.file.same
      ⊎ OfAnswers report.file.compared (λ all. Any IsDifference all)))
  pub undecided : (a ≡ Undecided) ↔ (HasNoBadGate (plain l.design) (wiring_of r) (device_rules r)
      × OfAnswers report.file.compared (λ all. (Any IsDifference all → ⊥) × Any IsUndecided all))
  pub uneven : OfEachPair r report.file.compared (λ p answer. HaveUnevenDevices p → a ≡ Bad)
  pub uneven_class : OfEachPair r report.file.compared (λ p answer. HaveUnevenClass p → a ≡ Bad)
  pub carried : OfEachPair r report.file.compared
      (λ p answer. (map : Pairing) → answer ≡ Match map → IsCorrespondence p map)
  pub kept : OfEachPair r report.file.compared
      (λ p answer. (map : Pairing) → IsCorrespondence p map → IsDifference answer → ⊥)
  pub as_before : (f : Compared) → report.file.compared ≡ Some f → IsAsBefore r f
  pub joined : (f : Compared) → report.file.compared ≡ Some f
      → (m : Matching l.design r l.header.unit_pm report.netlist report.top schematic f)
      × (m.same ≡ report.file.same)
  pub exact : a ≡ Bad → r.flattens_unmatched ≡ true
      → HasNoBadGate (plain l.design) (wiring_of r) (device_rules r) → (f : Compared)
      → report.file.compared ≡ Some f → ((lines : List ℕ) → IsTooLarge r f lines → ⊥)
      → (m : Matching l.design r l.header.unit_pm report.netlist report.top schematic f)
      → CorrespondNowhere l.design r l.header.unit_pm report.netlist report.top schematic f m

-- No gate of the flat layout is bad, and the pairs of this report compose to a one-to-one
-- correspondence of its good gates and regions with the devices and nets of the schematic,
-- flattened from the partner of the layout's top; where the rules combine devices, with each class
-- of alike ones as one on both sides.
pub record IsMatchOf (l : Layout) (r : Rules) (schematic : Netlist)
    (netlist_text report_text : List ℕ) : Type 0 where
  pub report : IsReportOf l r schematic Good netlist_text report_text
  pub is : MatchesFlat l.design r l.header.unit_pm report.netlist report.top report.bad schematic
      report.file.compared

-- so it is of what a comparison writes of a layout
abbrev pub VerdictsLaw : Type 0
VerdictsLaw = (l : Layout) (r : Rules) (schematic : Netlist) (cells : ℕ) (spelled report : List ℕ)
    (counts : Counts) (a : Answer) → IsReported l r schematic cells spelled report counts a
    → HasVerdicts a l r schematic spelled report

-- and after Good
abbrev pub MatchLaw : Type 0
MatchLaw = (l : Layout) (r : Rules) (schematic : Netlist) (cells : ℕ) (spelled report : List ℕ)
    (counts : Counts) (a : Answer) → IsReported l r schematic cells spelled report counts a
    → a ≡ Good → IsMatchOf l r schematic spelled report

-- where it is told, the schematic's bytes mean a netlist with this fact
abbrev pub WhereMeant : Told → (Netlist → Type 0) → Type 0
WhereMeant (Holds bytes) P = (nl : Netlist) × SpiceMeans read_limit bytes nl × P nl
WhereMeant _ P = Unit {0}

-- where the command compares, a fact of the paths of schematic, netlist and report; of `make`,
-- which doesn't write the last two, one of the schematic's path alone
abbrev pub ForReport : Outputs → (List ℕ → List ℕ → List ℕ → Type 0) → (List ℕ → Type 0) → Type 0
ForReport (ToShapes shapes) P C = Unit {0}
ForReport (ToNetlist shapes netlist) P C = Unit {0}
ForReport (ToReport schematic shapes netlist report) P C = P schematic netlist report
ForReport (ToChip n seed prefix) P C = C (schematic_at prefix)

-- there are two texts with this fact
abbrev pub OfTexts : (List ℕ → List ℕ → Type 0) → Type 0
OfTexts P = (text told : List ℕ) × P text told

-- a fact of layout, rules and schematic and of the texts of netlist and report
abbrev pub TextsFact : Type 1
TextsFact = Layout → Rules → Netlist → List ℕ → List ℕ → Type 0

-- it is one of the inputs that the files mean, where they are told
abbrev pub OfCompared : (List ℕ → Told) → Paths → TextsFact → (schematic netlist_text
    report_text : List ℕ) → Type 0
OfCompared file p P schematic netlist_text report_text = WhereMeant (file schematic)
    (λ nl. OfInputs file p (λ l r. P l r nl netlist_text report_text))

-- the list has both texts, and this is a fact of them; of `make` there are such texts
abbrev pub ListsReport : (List ℕ → Told) → Paths → List File → TextsFact → Type 0
ListsReport file p files P = ForReport p.outputs (λ schematic netlist report. ListsAs files netlist
    (λ text. ListsAs files report (λ told. OfCompared file p P schematic text told)))
    (λ schematic. OfTexts (λ text told. OfCompared file p P schematic text told))

-- the written files hold both, and this is a fact of them; of `make` there are such texts
abbrev pub HoldsReport : (List ℕ → Told) → Store → Paths → TextsFact → Type 0
HoldsReport file new p P = ForReport p.outputs (λ schematic netlist report.
    HoldsAs (new.file netlist) (λ text. HoldsAs (new.file report)
    (λ told. OfCompared file p P schematic text told)))
    (λ schematic. OfTexts (λ text told. OfCompared file p P schematic text told))

abbrev pub WritesReport : Option Paths → Store → Store → TextsFact → Type 0
WritesReport said old new P = OfStated said
    (λ p. HoldsReport (inputs_of p.outputs old.file) new p P)

-- after each answer of a comparison that writes its files
abbrev pub WritesVerdicts : Option Paths → Store → Store → Answer → Type 0
WritesVerdicts said old new a = IsVerdict a → WritesReport said old new (HasVerdicts a)

-- after Good
abbrev pub WritesMatch : Option Paths → Store → Store → Answer → Type 0
WritesMatch said old new a = a ≡ Good → WritesReport said old new IsMatchOf
