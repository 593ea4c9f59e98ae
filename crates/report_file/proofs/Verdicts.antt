-- What makes a report's verdict.
use Rattle.std.proofs.Common.{◌≡◌, inl, inr, ◌↔◌, ℕ, ◌<◌, Option, Some, None, length, refl, sym, subst, arith}
use Rattle.std.proofs.lemmas.List.{get_or_default}
use Rattle.std.proofs.lemmas.Option.{slice_get_within}
use Rattle.std.specs.List.{Any}
use Rattle.align_laws.specs.Partners.{AlignedSidesLaw, LeftOrderLaw}
use Rattle.match_flow.specs.Devices.{UnevenDevicesLaw}
use Rattle.match_laws.specs.Answer.{IsDifference, Skipped}
use Rattle.match_laws.specs.Circuits.{IsCorrespondence, Pair}
use Rattle.match_report.specs.Report.{answers_of}
use Rattle.match_report.specs.declared.report.Compared.{Compared}
use Rattle.net_model.specs.Rows.{plain_netlist}
use Rattle.pair_jobs.specs.Answers as pairs
use Rattle.pair_jobs.specs.Answers.{answer_at}
use Rattle.pair_jobs.specs.Verdict.{IsRunVerdict, IsUndecided, IsVerdict, OneRunVerdictLaw, UndecidedPairLaw}
use Rattle.pair_jobs.specs.declared.verdict.Verdict.{Verdict}
use Rattle.pair_jobs.specs.declared.verdict.Verdict.TheVariants as verdict
use Rattle.refine_match.specs.Matching.{HaveUnevenDevices}
use Rattle.report_file.proofs.AsAnswered.{answered_order}
use Rattle.report_file.proofs.Compared.{found, ordered}
use Rattle.report_file.specs.Compared.{asked_by, left_answered, right_answered}
use Rattle.report_file.specs.File.{all_answers}
use Rattle.report_file.specs.Verdicts.{BadGateLaw, CarriedPairLaw, KeptPairLaw, UndecidedLaw, UnevenPairLaw}

pub bad_gate : OneRunVerdictLaw → BadGateLaw
bad_gate one d r layout top bad schematic text pairs v x some = one (length bad) (all_answers x.compared) v verdict.Mismatch x.outcome (inl some)

-- the answers that a verdict is of
outcome_of : (bad : ℕ) (o : Option Compared) (f : Compared) (v : Verdict) → o ≡ Some f → IsRunVerdict bad (all_answers o) v → IsRunVerdict bad (Some (answers_of f)) v
outcome_of bad o f v e h = subst (λ (c : Option Compared). IsRunVerdict bad (all_answers c) v) e h

pub uneven_pair : OneRunVerdictLaw → UnevenDevicesLaw → UnevenPairLaw
uneven_pair one uneven d r layout top bad schematic text pairs v x f k a b p e is differ =
    let answers = answers_of f in
    let left = left_answered f in
    let c = found r layout top schematic x.same x.compared f e x.comparison in
    let within = slice_get_within left.circuits k a is.left in
    let count = c.1.at_last.count in
    let lt : k < length answers = omega (arith, within, count) in
    let here = uneven left (right_answered f) (asked_by r f) answers c.1.at_last k a b is.left is.right (subst HaveUnevenDevices is.pair_is differ) in
    let any : Any IsDifference answers = (k, answer_at answers k, lt, get_or_default answers k (answer_at answers k) (Skipped k) lt, here) in
    one (length bad) (Some answers) v verdict.Mismatch (outcome_of (length bad) x.compared f v e x.outcome) (inr (inr any))

pub carried_pair : AlignedSidesLaw → LeftOrderLaw → pairs.CarriedPairLaw → CarriedPairLaw
carried_pair sides order carried d r layout top bad schematic text pairs v fine first x f k a b p m e is matches =
    let left = plain_netlist f.left in
    let right = plain_netlist f.right in
    let c = found r layout top schematic x.same x.compared f e x.comparison in
    let o = answered_order f.merged_again left right (ordered sides order layout schematic top x.same left right fine first c.0) in
    subst (λ (q : Pair). IsCorrespondence q m) (sym is.pair_is) (carried (left_answered f) (right_answered f) (asked_by r f) (answers_of f) o.sides o.good c.1.at_last k a b m is.left is.right matches)

pub kept_pair : AlignedSidesLaw → LeftOrderLaw → pairs.KeptPairLaw → KeptPairLaw
kept_pair sides order kept d r layout top bad schematic text pairs v fine first x f k a b p m e is corresponds =
    let answers = answers_of f in
    let left = plain_netlist f.left in
    let right = plain_netlist f.right in
    let c = found r layout top schematic x.same x.compared f e x.comparison in
    let o = answered_order f.merged_again left right (ordered sides order layout schematic top x.same left right fine first c.0) in
    kept (left_answered f) (right_answered f) (asked_by r f) answers o.sides o.good c.1.at_last k a b m is.left is.right (subst (λ (q : Pair). IsCorrespondence q m) is.pair_is corresponds)

-- an undecided comparison has sides
undecided_some : (bad : ℕ) (o : Option Compared) → IsRunVerdict bad (all_answers o) verdict.Undecided → (bad ≡ 0) × ((f : Compared) × (o ≡ Some f) × IsVerdict (answers_of f) verdict.Undecided)
undecided_some bad None h = absurd h.1
undecided_some bad (Some f) h = (h.0, (f, refl, h.1))

pub undecided : AlignedSidesLaw → LeftOrderLaw → OneRunVerdictLaw → UndecidedPairLaw → UndecidedLaw
undecided sides order one law d r layout top bad schematic text pairs v fine first x = (
  (λ e.
      let h = undecided_some (length bad) x.compared (subst (λ (u : Verdict). IsRunVerdict (length bad) (all_answers x.compared) u) e x.outcome) in
      let f = h.1.0 in
      let s = (settled f h.1.1).0 h.1.2 in
      (h.0, (f, h.1.1, s.0, s.1))),
  (λ (none, (f, is, same, some)).
      one (length bad) (Some (answers_of f)) v verdict.Undecided (outcome_of (length bad) x.compared f v is x.outcome) (none, (settled f is).1 (same, some))),
)
  where
    settled : (f : Compared) → x.compared ≡ Some f → IsVerdict (answers_of f) verdict.Undecided ↔ ((Any IsDifference (answers_of f) → ⊥) × Any IsUndecided (answers_of f))
    settled f e =
        let left = plain_netlist f.left in
        let right = plain_netlist f.right in
        let c = found r layout top schematic x.same x.compared f e x.comparison in
        let o = answered_order f.merged_again left right (ordered sides order layout schematic top x.same left right fine first c.0) in
        law (left_answered f) (right_answered f) (asked_by r f) (answers_of f) o.sides o.good c.1.at_last
