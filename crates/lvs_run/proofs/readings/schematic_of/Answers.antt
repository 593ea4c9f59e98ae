use Rattle.std.proofs.Common.{ℕ, List, subst}
use Rattle.spice_rows.specs.Sizes.{read_limit}
use Rattle.spice_text.specs.Means.{SaysFirst}
use Rattle.lvs_run.proofs.Stopping.{schematic_refused, schematic_faults}
use Rattle.lvs_run.proofs.readings.schematic_of.Goals as goal

pub returns-clause-refused : goal.returns-clause-refused
returns-clause-refused g c =
    let got = c.in_ok-bytes.ensures.got in
    let fault = subst (λ (xs : List ℕ). SaysFirst read_limit xs c.in-Err.fault) c.as_slice.ensures.value c.in-Err.ensures.fault in
    rw c.schematic_stop.ensures (record { why = schematic_refused _ _ _ c.in_ok-bytes.bytes.items c.in-Err.fault got fault; faults = schematic_faults _ _ c.in-Err.fault got.faults })
