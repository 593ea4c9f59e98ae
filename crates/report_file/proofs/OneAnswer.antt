-- The answers of all pairs are one list, also where devices may be made one once more.
use Rattle.std.proofs.Common.{◌≡◌, inl, inr, ℕ, ◌<◌, ◌&&◌, ◌||◌, ◌==◌, Bool, true, false, List, length, get_or, refl, sym, ap, subst, ◌∙◌, arith, true≢false}
use Rattle.std.specs.Prelude.{not}
use Rattle.std.specs.List.{Any, list_any}
use Rattle.std.proofs.lemmas.Bool.{cases_Bool}
use Rattle.std.proofs.lemmas.List.{ext_get_or, get_or_default}
use Rattle.std.proofs.lemmas.List.Folds.{Any-from_list_any, list_any-from_Any}
use Rattle.std.proofs.lemmas.Option.{slice_get-get_or}
use Rattle.align_laws.specs.Partners.{AlignedSidesLaw, LeftOrderLaw}
use Rattle.composed_laws.specs.Answered.{Asked, OneAnswerOfLaw, TogetherAnswersLaw}
use Rattle.device_merge.specs.Merged.{has_alike}
use Rattle.match_flow.proofs.Again.{answered_merged}
use Rattle.match_flow.specs.Again.{IsAnswered, as_answered}
use Rattle.match_laws.specs.Answer.{Answer, DiffersByTree, DiffersInRound, IsDifference, Match, Skipped, Undecided}
use Rattle.match_types.specs.Answered.{asked_of}
use Rattle.merge_laws.specs.Grouped.{merged_netlist}
use Rattle.pair_jobs.specs.Answers.{AreAllAnswers, answer_at, is_difference}
use Rattle.net_model.specs.Rows.{plain_netlist}
use Rattle.match_report.specs.Report.{answers_of}
use Rattle.plain_netlist.specs.Netlist.{IsCircuit, Netlist}
use Rattle.report_file.proofs.AsAnswered.{answered_order}
use Rattle.report_file.proofs.LastPair.{differs}
use Rattle.report_file.proofs.Compared.{HaveOrder, found, no_circuit, ordered}
use Rattle.report_file.specs.Combined.{flattens, merges_again}
use Rattle.report_file.specs.Verdicts.{AsBeforeLaw}
use Rattle.rule_text.specs.Rules.{Rules}

-- all answers of two sides are one list
pub one_list : TogetherAnswersLaw → OneAnswerOfLaw → (left right : Netlist) (asked : Asked) (answers others : List Answer) → HaveOrder left right
    → AreAllAnswers left right asked answers → AreAllAnswers left right asked others → answers ≡ others
one_list together one left right asked answers others order h g = ext_get_or (Skipped 0) answers others (h.count ∙ sym g.count) each
  where
    each : (k : ℕ) → k < length answers → get_or answers k (Skipped 0) ≡ get_or others k (Skipped 0)
    each k lt =
        let count = h.count in
        let more = g.count in
        let is : IsCircuit left k (get_or left.circuits k no_circuit) = slice_get-get_or left.circuits k no_circuit (omega (arith, count, lt)) in
        let a = (together left right asked (answer_at answers) order.sides order.good).0 h.each k (get_or left.circuits k no_circuit) is in
        let b = (together left right asked (answer_at others) order.sides order.good).0 g.each k (get_or left.circuits k no_circuit) is in
        get_or_default answers k (Skipped 0) (Skipped k) lt
        ∙ (one left right asked k (answer_at answers k) (answer_at others k) order.sides a b
        ∙ get_or_default others k (Skipped k) (Skipped 0) (omega (arith, count, more, lt)))

module _ (together : TogetherAnswersLaw) (one : OneAnswerOfLaw) (merges : Bool) (limit : ℕ) (same_pins : Bool) (left right : Netlist) (order : HaveOrder left right) (again : Bool) (answers : List Answer) (h : IsAnswered merges limit same_pins left right again answers) where
  abbrev asked : Asked
  asked = asked_of left limit same_pins

  -- the first answers are these
  pub first_is : (first : List Answer) → AreAllAnswers left right asked first → h.first ≡ first
  first_is first are = one_list together one left right asked h.first first order h.at_first are

  pub last_is : (others : List Answer) → AreAllAnswers (as_answered again left) (as_answered again right) asked others → answers ≡ others
  last_is others are = one_list together one (as_answered again left) (as_answered again right) asked answers others (answered_order again left right order) h.at_last are

  pub one_answered : (other : Bool) (others : List Answer) → IsAnswered merges limit same_pins left right other others → (again ≡ other) × (answers ≡ others)
  one_answered other others g =
      let same : again ≡ other = h.again_is ∙ (ap (λ (vs : List Answer). merges && list_any is_difference vs && (has_alike left || has_alike right)) (first_is g.first g.at_first) ∙ sym g.again_is) in
      (same, last_is others (subst (λ (b : Bool). AreAllAnswers (as_answered b left) (as_answered b right) asked others) (sym same) g.at_last))

-- the test of answers that differ
tested : (a : Answer) → is_difference a ≡ true → IsDifference a
tested (Match f) e = absurd (true≢false (sym e))
tested (DiffersInRound r a m n) e = tt
tested (DiffersByTree gs) e = tt
tested (Undecided gs) e = absurd (true≢false (sym e))
tested (Skipped q) e = absurd (true≢false (sym e))

none_differs : (answers : List Answer) → (Any IsDifference answers → ⊥) → list_any is_difference answers ≡ false
none_differs answers never = elim (cases_Bool (list_any is_difference answers)) [
  | inl some ↦ let a = Any-from_list_any is_difference answers some in absurd (never (a.0, a.1, a.2, a.3, tested a.1 a.4))
  | inr none ↦ none
]

some_differs : (answers : List Answer) → Any IsDifference answers → list_any is_difference answers ≡ true
some_differs answers a = list_any-from_Any is_difference answers (a.0, a.1, a.2, a.3, differs a.1 a.4)

-- where devices are combined, what differs is taken apart and some pair differs, the answers are those of the circuits merged once more
pub made_again : TogetherAnswersLaw → OneAnswerOfLaw → (r : Rules) (left right : Netlist) → HaveOrder left right → (again : Bool) (answers : List Answer) → IsAnswered (merges_again r) r.max_guesses r.tells_pins left right again answers
    → r.combine ≡ true → r.flattens_unmatched ≡ true → Any IsDifference answers → AreAllAnswers (merged_netlist left) (merged_netlist right) (asked_of left r.max_guesses r.tells_pins) answers
made_again together one r left right order true answers h combines on any = h.at_last
made_again together one r left right order false answers h combines on any =
    let e = first_is together one (merges_again r) r.max_guesses r.tells_pins left right order false answers h answers h.at_last in
    let found : list_any is_difference h.first ≡ true = ap (λ (vs : List Answer). list_any is_difference vs) e ∙ some_differs answers any in
    let merges : merges_again r ≡ true =
    ap (λ (b : Bool). b && flattens r) combines ∙ ap (λ (b : Bool). b || not (length r.flat_layouts == 0 && length r.flat_schematics == 0)) on in
    answered_merged (merges_again r) r.max_guesses r.tells_pins left right false answers merges h found

pub as_before : AlignedSidesLaw → LeftOrderLaw → TogetherAnswersLaw → OneAnswerOfLaw → AsBeforeLaw
as_before sides order together one d r layout top bad schematic text pairs v fine first x f e given are none =
    let left = plain_netlist f.left in
    let right = plain_netlist f.right in
    let c = found r layout top schematic x.same x.compared f e x.comparison in
    let ordered_sides = ordered sides order layout schematic top x.same left right fine first c.0 in
    let h = c.1 in
    let first_given = first_is together one (merges_again r) r.max_guesses r.tells_pins left right ordered_sides f.merged_again (answers_of f) h given are in
    let alike = has_alike left || has_alike right in
    let quiet : (merges_again r && list_any is_difference h.first) ≡ false = elim none [
      | inl off ↦ ap (λ (b : Bool). b && list_any is_difference h.first) off
      | inr never ↦ ap (λ (b : Bool). merges_again r && b) (ap (λ (vs : List Answer). list_any is_difference vs) first_given ∙ none_differs given never) ∙ and_false (merges_again r)
    ] in
    let once = h.again_is ∙ ap (λ (b : Bool). b && alike) quiet in (
      once,
      last_is together one (merges_again r) r.max_guesses r.tells_pins left right ordered_sides f.merged_again (answers_of f) h given
          (subst (λ (b : Bool). AreAllAnswers (as_answered b left) (as_answered b right) (asked_of left r.max_guesses r.tells_pins) given) (sym once) are),
    )
  where
    and_false : (b : Bool) → (b && false) ≡ false
    and_false true = refl
    and_false false = refl
