use Rattle.std.proofs.Common.{ℕ, List, subst}
use Rattle.rule_text.specs.Reading.{Answers}
use Rattle.lvs_run.proofs.Stopping.{rules_refused, rules_faults}
use Rattle.lvs_run.proofs.readings.rules_of.Goals as goal

pub returns-clause-refused : goal.returns-clause-refused
returns-clause-refused g c =
    let got = c.in_ok-bytes.ensures.got in
    let fault = subst (λ (xs : List ℕ). Answers xs c.in-Err.fault) c.as_slice.ensures.value c.in-Err.ensures.fault in
    rw c.rules_stop.ensures (record { why = rules_refused _ _ _ c.in_ok-bytes.bytes.items c.in-Err.fault got fault; faults = rules_faults _ _ c.in-Err.fault got.faults })
