-- A mismatch without a flat correspondence.
use Rattle.std.proofs.Common.{◌≡◌, inl, inr, ℕ, ◌+◌, ◌==◌, ◌&&◌, ◌||◌, Bool, true, false, List, [], ◌∷◌, length, Option, Some, refl, sym, ap, subst, ◌∙◌, arith, true≢false}
use Rattle.std.specs.List.{Any, list_any}
use Rattle.align_laws.specs.Cut.{Alignment}
use Rattle.align_laws.specs.Partners.{AlignedSidesLaw, IsAlignedPair, LeftOrderLaw}
use Rattle.cell_graph.specs.Linked.{plain}
use Rattle.composed_laws.specs.Answered.{OneAnswerOfLaw, TogetherAnswersLaw}
use Rattle.deep_tables.specs.declared.gates.BadGate.{BadGate}
use Rattle.flat_layout.specs.Regions.{Node}
use Rattle.headline_laws.specs.FlatNetlist.{flat_netlist, FlatCorrespondsLaw, IsFlatGateOf, IsFlatRegionOf}
use Rattle.device_merge.specs.Merged.{has_alike}
use Rattle.match_laws.specs.Answer.{Answer, IsDifference}
use Rattle.match_report.specs.Report.{answers_of}
use Rattle.match_report.specs.declared.report.Compared.{Compared}
use Rattle.merge_laws.proofs.Flats.{merged_same}
use Rattle.merge_laws.specs.Grouped.{merged_netlist}
use Rattle.merge_laws.specs.Merge.{merged}
use Rattle.net_model.specs.Rows.{plain_netlist}
use Rattle.pair_jobs.specs.Answers.{KeptPairLaw, is_difference}
use Rattle.pair_jobs.specs.Verdict.{IsRunVerdict}
use Rattle.pair_jobs.specs.declared.verdict.Verdict.TheVariants as verdict
use Rattle.pair_turns.specs.Alone.{Names, with_gone}
use Rattle.plain_netlist.proofs.Alike.{through}
use Rattle.plain_netlist.specs.FlatLaws.{Passes}
use Rattle.plain_netlist.specs.Flats.{expanded, Through}
use Rattle.plain_netlist.specs.Netlist.{Netlist, Slot}
use Rattle.report_file.proofs.AsAnswered.{answer_count}
use Rattle.report_file.proofs.Combined.{as_it_is, as_merged, combined_order, compared_alignable, compared_order, never_again}
use Rattle.report_file.proofs.Compared.{found, ordered}
use Rattle.report_file.proofs.Nowhere.{again_nowhere, once_nowhere, tops_apart}
use Rattle.report_file.proofs.OneAnswer.{made_again}
use Rattle.report_file.specs.Combined.{CombinedAlignableLaw, compared_of, merges_again}
use Rattle.report_file.specs.Compared.{asked_by}
use Rattle.report_file.specs.Exact.{ExactReportLaw}
use Rattle.report_file.specs.File.{all_answers}
use Rattle.report_file.specs.PinNames.{AreNamesKept}
use Rattle.report_file.specs.Turns.{AreTurns, EndsAfter, EndsWith, IsTooLarge, NoneGoes}
use Rattle.rule_layers.specs.Meaning.{device_rules, wiring_of}
use Rattle.rule_text.specs.Rules.{Rules}

-- how the turns end
ends_of : (r : Rules) (layout : Netlist) (top : ℕ) (schematic : Netlist) (most : ℕ) (past : List Compared) (alone : Names) (same : List (List ℕ × List ℕ)) (o : Option Compared) (lines : List ℕ)
    → AreTurns r layout top schematic most alone past same o lines → (last : List ℕ) × EndsAfter r o last
ends_of r layout top schematic most [] alone same o lines h = (lines, h.1)
ends_of r layout top schematic most (f ∷ more) alone same o lines h =
    ends_of r layout top schematic most more (with_gone alone (plain_netlist f.left) (plain_netlist f.right) h.0) same o h.2 h.6

-- no pair goes, where they may and nothing is too large
none_goes : (r : Rules) (f : Compared) (lines : List ℕ) → EndsWith r f lines → r.flattens_unmatched ≡ true → (IsTooLarge r f lines → ⊥) → NoneGoes f
none_goes r f lines (inl (inl off, e)) on small = absurd (true≢false (sym on ∙ off))
none_goes r f lines (inl (inr n, e)) on small = n
none_goes r f lines (inr h) on small = absurd (small h)

first_true : (a b : Bool) → (a && b) ≡ true → a ≡ true
first_true true b e = refl
first_true false b e = e

-- some pair differs
mismatched : (bad : List BadGate) (answers : List Answer) → bad ≡ [] → IsRunVerdict (length bad) (Some answers) verdict.Mismatch → Any IsDifference answers
mismatched bad answers e (inl h) = absurd (let z = ap (λ (bs : List BadGate). length bs) e in omega (arith, z, h))
mismatched bad answers e (inr (inl h)) = absurd (let z : true ≡ false = h in true≢false z)
mismatched bad answers e (inr (inr h)) = h

-- names of pins that are kept of regions are of the nets that show them
names_through : (r : Rules) (layout schematic near far : Netlist) (top partner : ℕ) (regions : Slot → Node → Type 0) (net : Node → Slot → Type 0) → compared_of r layout ≡ near → compared_of r schematic ≡ far
    → AreNamesKept (compared_of r layout) top (compared_of r schematic) partner regions net → AreNamesKept near top far partner (λ (a x : Slot). a ≡ x) (Through regions net)
names_through r layout schematic near far top partner regions net e f names =
    subst (λ (y : Netlist). AreNamesKept near top y partner (λ (a x : Slot). a ≡ x) (Through regions net)) f
    (subst (λ (y : Netlist). AreNamesKept y top (compared_of r schematic) partner (λ (a x : Slot). a ≡ x) (Through regions net)) e
    (λ a b x name other same (z, region, passes) g h. names a b z name other (subst (λ (s : Slot). regions s z) (sym same) region) passes g h))

-- the aligned pair, where what was aligned is known
pair_of : (r : Rules) (layout schematic near far : Netlist) (top partner : ℕ) (same : List (List ℕ × List ℕ)) (left right : Netlist) (v w : Alignment) → compared_of r layout ≡ near → compared_of r schematic ≡ far
    → IsAlignedPair (compared_of r layout) (compared_of r schematic) top partner same left right v w → IsAlignedPair near far top partner same left right v w
pair_of r layout schematic near far top partner same left right v w e f p =
    subst (λ (x : Netlist). IsAlignedPair near x top partner same left right v w) f (subst (λ (x : Netlist). IsAlignedPair x (compared_of r schematic) top partner same left right v w) e p)

pub record Laws : Type 0 where
  pub alignable : CombinedAlignableLaw
  pub flat : FlatCorrespondsLaw
  pub sides : AlignedSidesLaw
  pub order : LeftOrderLaw
  pub together : TogetherAnswersLaw
  pub one : OneAnswerOfLaw
  pub kept : KeptPairLaw

pub exact_report : Laws → ExactReportLaw
exact_report laws d r unit layout top bad schematic text pairs fine first x on none f is small m =
    let left = plain_netlist f.left in
    let right = plain_netlist f.right in
    let near = compared_of r layout in
    let far = compared_of r schematic in
    let near_first = compared_order r layout first in
    let c = found r near top far x.same x.compared f is x.comparison in
    let o = ordered laws.sides laws.order near far top x.same left right (compared_alignable r layout laws.alignable fine) near_first c.0 in
    let outcome = subst (λ (q : Option Compared). IsRunVerdict (length bad) (all_answers q) verdict.Mismatch) is x.outcome in
    let any = mismatched bad (answers_of f) none outcome in
    let ends = ends_of r near top far _ x.turns.past x.turns.alone x.same x.compared x.lines x.turns.turns in
    let ended : EndsWith r f ends.0 = subst (λ (q : Option Compared). EndsAfter r q ends.0) is ends.1 in
    let quiet = none_goes r f ends.0 ended on (small ends.0) in
    let count = answer_count (merges_again r) r.max_guesses r.tells_pins left right f.merged_again (answers_of f) c.1 in
    let apart = tops_apart near far top m.partner m.same left right m.left_by m.right_by m.aligned near_first o.sides (answers_of f) count quiet.goes quiet.going quiet.none any in
    let told : (k : ℕ) → (asked_by r f).told k ≡ true → r.tells_pins ≡ true = λ k. first_true r.tells_pins (k + 1 == length left.circuits) in
    let regions = IsFlatRegionOf (plain d) (wiring_of r) m.tables m.circuits layout top in
    let gates = IsFlatGateOf (plain d) (wiring_of r) m.circuits layout top (device_rules r) in
    let flat = flat_netlist (plain d) (wiring_of r) (device_rules r) unit in
    let gates_expanded = laws.flat (plain d) (wiring_of r) m.tables m.circuits layout (device_rules r) unit m.level m.are_right top m.top_is in
    record {
      flat = λ e device net names match.
          let once = c.1.again_is ∙ ap (λ (b : Bool). b && list_any is_difference c.1.first && (has_alike left || has_alike right)) (never_again r e) in
          let p = pair_of r layout schematic layout schematic top m.partner m.same left right m.left_by m.right_by (as_it_is r layout e) (as_it_is r schematic e) m.aligned in
          once_nowhere layout schematic top m.partner m.same left right m.left_by m.right_by p first r.tells_pins (asked_by r f) told laws.kept o (answers_of f) apart (Through gates (Passes device)) (Through regions (Passes net))
          (λ set. names_through r layout schematic layout schematic top m.partner regions (Passes net) (as_it_is r layout e) (as_it_is r schematic e) (names set))
          f.merged_again once c.1.at_last
          (through (expanded layout top) flat (expanded schematic m.partner) gates regions (Passes device) (Passes net) gates_expanded match);
      combined = λ e device net names match.
          let are = made_again laws.together laws.one r left right o f.merged_again (answers_of f) c.1 e on any in
          let p = pair_of r layout schematic (merged_netlist layout) (merged_netlist schematic) top m.partner m.same left right m.left_by m.right_by (as_merged r layout e) (as_merged r schematic e) m.aligned in
          again_nowhere layout schematic top m.partner m.same left right m.left_by m.right_by p (combined_order layout first) r.tells_pins (asked_by r f) told laws.kept o (answers_of f) apart (Through gates (Passes device)) (Through regions (Passes net))
          (λ set. names_through r layout schematic (merged_netlist layout) (merged_netlist schematic) top m.partner regions (Passes net) (as_merged r layout e) (as_merged r schematic e) (names set))
          are
          (through (merged (expanded layout top)) (merged flat) (merged (expanded schematic m.partner)) gates regions (Passes device) (Passes net) (merged_same (expanded layout top) flat gates regions gates_expanded) match);
    }
