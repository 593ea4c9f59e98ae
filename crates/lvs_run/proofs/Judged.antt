-- What the answer of a comparison is, by its bad gates and its pairs.
use Rattle.std.proofs.Common.{◌≡◌, inl, inr, ◌↔◌, ℕ, true, false, true≢false, List, [], length, Option, Some, None, IsNone, refl, sym, ap, subst, ◌∙◌}
use Rattle.std.proofs.lemmas.List.{nil_from_length}
use Rattle.std.specs.List.{Any}
use Rattle.cell_graph.specs.Linked.{Linked}
use Rattle.deep_tables.specs.declared.gates.BadGate.{BadGate}
use Rattle.gds_layout.specs.declared.layout.Layout.{Layout}
use Rattle.match_laws.specs.Answer.{Answer as PairAnswer, IsDifference}
use Rattle.match_report.specs.Report.{answers_of}
use Rattle.match_report.specs.declared.report.Compared.{Compared}
use Rattle.net_align.specs.Compared.{AreCalleesFirst, HasNoPartner, IsAlignable}
use Rattle.netlist_file.specs.Flat.{ShowsFlat, ShowsFlatLaw}
use Rattle.pair_jobs.specs.Verdict.{IsRunVerdict, IsUndecided, OneRunVerdictLaw}
use Rattle.pair_jobs.specs.declared.verdict.Verdict.{Verdict as Comparison}
use Rattle.pair_jobs.specs.declared.verdict.Verdict.TheVariants as comparison
use Rattle.plain_netlist.specs.Netlist.{Netlist}
use Rattle.report_file.proofs.Combined.{compared_alignable, compared_order}
use Rattle.report_file.specs.Combined.{CombinedAlignableLaw, compared_of}
use Rattle.report_file.specs.Compared.{IsComparison}
use Rattle.report_file.specs.File.{IsReportFile, all_answers}
use Rattle.report_file.specs.Exact.{CorrespondNowhere, ExactReportLaw}
use Rattle.report_file.specs.Matched.{MatchedReportLaw, Matching, MatchingLaw}
use Rattle.report_file.specs.Turns.{IsTooLarge}
use Rattle.refine_match.proofs.ClassCounts.{uneven_class}
use Rattle.report_file.specs.Verdicts.{AsBeforeLaw, CarriedPairLaw, KeptPairLaw, UndecidedLaw, UnevenPairLaw}
use Rattle.rule_text.specs.Rules.{Rules}
use Rattle.lvs_run.specs.Answers.{Answer, Counts, Good, Bad, Undecided, comparison_answer}
use Rattle.lvs_run.specs.Outcomes.{IsReported}
use Rattle.lvs_run.specs.Verdicts.{HasVerdicts, MatchLaw, OfAnswers, VerdictsLaw}
use Rattle.lvs_run.proofs.Gates.{no_length, none_bad, one_bad, some_length}

-- ---- verdicts and answers

abbrev verdict_in : Answer → Comparison
verdict_in Good = comparison.Match
verdict_in Bad = comparison.Mismatch
verdict_in a = comparison.Undecided

and_back : (v : Comparison) → verdict_in (comparison_answer v) ≡ v
and_back comparison.Match = refl
and_back comparison.Mismatch = refl
and_back comparison.Undecided = refl

same_verdict : (v w : Comparison) → comparison_answer v ≡ comparison_answer w → v ≡ w
same_verdict v w e = sym (and_back v) ∙ (ap verdict_in e ∙ and_back w)

-- the answer is that of a verdict exactly where bad gates and pairs come to it
exactly : (bad : ℕ) (answers : Option (List PairAnswer)) (v w : Comparison) (a : Answer) → OneRunVerdictLaw → a ≡ comparison_answer v → IsRunVerdict bad answers v → (a ≡ comparison_answer w) ↔ IsRunVerdict bad answers w
exactly bad answers v w a one e h = (
  (λ g. subst (λ (u : Comparison). IsRunVerdict bad answers u) (same_verdict v w (sym e ∙ g)) h),
  (λ k. e ∙ ap (λ (u : Comparison). comparison_answer u) (one bad answers v w h k)),
)

-- ---- the top's partner

module _ (r : Rules) (layout : Netlist) (top : ℕ) (schematic : Netlist) (same : List (List ℕ × List ℕ)) where
  no_partner : (o : Option Compared) → IsComparison r layout top schematic same o → IsNone (all_answers o) → HasNoPartner layout schematic top same
  no_partner None h none = h
  no_partner (Some f) h none = let no : true ≡ false = none in absurd (true≢false no)

  no_answers : (o : Option Compared) → IsComparison r layout top schematic same o → HasNoPartner layout schematic top same → IsNone (all_answers o)
  no_answers None h none = refl
  no_answers (Some f) h none = absurd (none h.0.right_top h.0.are.partner)

-- ---- undecided pairs

abbrev AreStuck : List PairAnswer → Type 0
AreStuck all = (Any IsDifference all → ⊥) × Any IsUndecided all

stuck_in : (o : Option Compared) (f : Compared) → o ≡ Some f → AreStuck (answers_of f) → OfAnswers o (λ all. (Any IsDifference all → ⊥) × Any IsUndecided all)
stuck_in o f e h = subst (λ (c : Option Compared). OfAnswers c (λ all. (Any IsDifference all → ⊥) × Any IsUndecided all)) (sym e) h

stuck_of : (o : Option Compared) → OfAnswers o (λ all. (Any IsDifference all → ⊥) × Any IsUndecided all) → (f : Compared) × (o ≡ Some f) × AreStuck (answers_of f)
stuck_of None h = absurd h
stuck_of (Some f) h = (f, refl, h)

-- ---- a mismatch

exact_of : ExactReportLaw → (d : Linked) (r : Rules) (unit : ℕ) (layout : Netlist) (top : ℕ) (bad : List BadGate) (schematic : Netlist) (text : List ℕ) (pairs : ℕ) → IsAlignable layout → AreCalleesFirst layout → (v : Comparison) → v ≡ comparison.Mismatch
    → (x : IsReportFile d r (compared_of r layout) top bad (compared_of r schematic) text pairs v) → r.flattens_unmatched ≡ true → bad ≡ [] → (f : Compared) → x.compared ≡ Some f → ((lines : List ℕ) → IsTooLarge r f lines → ⊥)
    → (m : Matching d r unit layout top schematic f) → CorrespondNowhere d r unit layout top schematic f m
exact_of law d r unit layout top bad schematic text pairs fine first comparison.Mismatch e x on none f is small m = law d r unit layout top bad schematic text pairs fine first x on none f is small m
exact_of law d r unit layout top bad schematic text pairs fine first comparison.Match e x on none f is small m = absurd (let z : ⊥ = cc in z)
exact_of law d r unit layout top bad schematic text pairs fine first comparison.Undecided e x on none f is small m = absurd (let z : ⊥ = cc in z)

-- ---- what was compared

module _ (alignable : CombinedAlignableLaw) (one : OneRunVerdictLaw) (uneven : UnevenPairLaw) (carried : CarriedPairLaw) (kept : KeptPairLaw) (undecided : UndecidedLaw) (exact : ExactReportLaw) (before : AsBeforeLaw) (joined : MatchingLaw) (l : Layout) (r : Rules) (nl : Netlist) (cells : ℕ) (spelled told : List ℕ) (counts : Counts) (a : Answer)
    (h : IsReported l r nl cells spelled told counts a) (flat : ShowsFlat l r spelled h.netlist h.top h.bad) where
  -- the netlists that are compared
  abbrev near : Netlist
  near = compared_of r h.netlist

  abbrev far : Netlist
  far = compared_of r nl

  near_alignable : IsAlignable near
  near_alignable = compared_alignable r h.netlist alignable h.comparable.layout

  near_order : AreCalleesFirst near
  near_order = compared_order r h.netlist h.comparable.order

  come_to : (w : Comparison) → (a ≡ comparison_answer w) ↔ IsRunVerdict (length h.bad) (all_answers h.report_file.compared) w
  come_to w = exactly (length h.bad) (all_answers h.report_file.compared) h.verdict w a one h.answer h.report_file.outcome

  is_undecided : (a ≡ Undecided) ↔ ((length h.bad ≡ 0) × OfAnswers h.report_file.compared (λ all. (Any IsDifference all → ⊥) × Any IsUndecided all))
  is_undecided =
      let law = undecided l.design r near h.top h.bad far told h.pairs h.verdict near_alignable near_order h.report_file in (
        (λ e.
            let found = law.0 (same_verdict h.verdict comparison.Undecided (sym h.answer ∙ e)) in
            (found.0, stuck_in h.report_file.compared found.1.0 found.1.1 (found.1.2, found.1.3))),
        (λ (none, stuck).
            let found = stuck_of h.report_file.compared stuck in
            h.answer ∙ ap (λ (u : Comparison). comparison_answer u) (law.1 (none, (found.0, found.1, found.2.0, found.2.1)))),
      )

  has_verdicts : HasVerdicts a l r nl spelled told
  has_verdicts = record {
    report = record { netlist = h.netlist; top = h.top; bad = h.bad; shows = flat; pairs = h.pairs; verdict = h.verdict; file = h.report_file; answer = h.answer };
    good = (
      (λ e. let x = (come_to comparison.Match).0 e in (none_bad l r spelled h.netlist h.top h.bad flat x.0, x.1)),
      (λ (none, all). (come_to comparison.Match).1 (no_length l r spelled h.netlist h.top h.bad flat none, all)),
    );
    bad = (
      (λ e.
          elim ((come_to comparison.Mismatch).0 e) [
            | inl some ↦ inl (one_bad l r spelled h.netlist h.top h.bad flat some)
            | inr (inl none) ↦ inr (inl (no_partner r near h.top far h.report_file.same h.report_file.compared h.report_file.comparison none))
            | inr (inr any) ↦ inr (inr any)
          ]),
      (λ cause.
          (come_to comparison.Mismatch).1 (
          elim cause [
            | inl gate ↦ inl (some_length l r spelled h.netlist h.top h.bad flat gate)
            | inr (inl none) ↦ inr (inl (no_answers r near h.top far h.report_file.same h.report_file.compared h.report_file.comparison none))
            | inr (inr any) ↦ inr (inr any)
          ]
          )),
    );
    undecided = (
      (λ e. let x = is_undecided.0 e in (none_bad l r spelled h.netlist h.top h.bad flat x.0, x.1)),
      (λ (none, stuck). is_undecided.1 (no_length l r spelled h.netlist h.top h.bad flat none, stuck)),
    );
    uneven = λ f k c d p is pair differ. h.answer
        ∙ ap (λ (u : Comparison). comparison_answer u) (uneven l.design r near h.top h.bad far told h.pairs h.verdict h.report_file f k c d p is pair differ);
    uneven_class = λ f k c d p is pair differ. h.answer
        ∙ ap (λ (u : Comparison). comparison_answer u) (uneven l.design r near h.top h.bad far told h.pairs h.verdict h.report_file f k c d p is pair (uneven_class p differ));
    carried = λ f k c d p is pair map answer.
        carried l.design r near h.top h.bad far told h.pairs h.verdict near_alignable near_order h.report_file f k c d p map is pair answer;
    kept = λ f k c d p is pair map corresponds differs.
        kept l.design r near h.top h.bad far told h.pairs h.verdict near_alignable near_order h.report_file f k c d p map is pair corresponds differs;
    as_before = λ f is. before l.design r near h.top h.bad far told h.pairs h.verdict near_alignable near_order h.report_file f is;
    joined = λ f is.
        let cells = h.netlist_file.of_cells in
        joined l.design r l.header.unit_pm _ _ _ h.netlist h.top h.bad nl told h.pairs h.verdict cells.right cells.top_is h.report_file f is;
    exact = λ e on none f is small m.
        exact_of exact l.design r l.header.unit_pm h.netlist h.top h.bad nl told h.pairs h.comparable.layout h.comparable.order h.verdict (same_verdict h.verdict comparison.Mismatch (sym h.answer ∙ e)) h.report_file on
        (nil_from_length h.bad (no_length l r spelled h.netlist h.top h.bad flat none)) f is small m;
  }

-- what a netlist's file shows
shows_in : {l : Layout} {r : Rules} {nl : Netlist} {cells : ℕ} {spelled told : List ℕ} {counts : Counts} {a : Answer} → ShowsFlatLaw → (h : IsReported l r nl cells spelled told counts a) → ShowsFlat l r spelled h.netlist h.top h.bad
shows_in {l} {r} {nl} {cells} {spelled} shows h = shows l r h.netlist h.top h.bad spelled h.comparable.rules h.netlist_file

pub verdicts_law : CombinedAlignableLaw → ShowsFlatLaw → OneRunVerdictLaw → UnevenPairLaw → CarriedPairLaw → KeptPairLaw → UndecidedLaw → ExactReportLaw → AsBeforeLaw → MatchingLaw → VerdictsLaw
verdicts_law alignable shows one uneven carried kept undecided exact before joined l r nl cells spelled told counts a h =
    has_verdicts alignable one uneven carried kept undecided exact before joined l r nl cells spelled told counts a h (shows_in shows h)

pub match_law : ShowsFlatLaw → MatchedReportLaw → MatchLaw
match_law shows matched l r nl cells spelled told counts a h good =
    let same = same_verdict h.verdict comparison.Match (sym h.answer ∙ good) in
    let file = subst (λ (v : Comparison). IsReportFile l.design r (compared_of r h.netlist) h.top h.bad (compared_of r nl) told h.pairs v) same h.report_file in
    let cells = h.netlist_file.of_cells in
    record {
      report = record { netlist = h.netlist; top = h.top; bad = h.bad; shows = shows_in shows h; pairs = h.pairs; verdict = comparison.Match; file = file; answer = refl };
      is = matched l.design r l.header.unit_pm _ _ _ h.netlist h.top h.bad nl told h.pairs cells.right cells.top_is h.comparable.layout h.comparable.order h.comparable.schematic file;
    }
