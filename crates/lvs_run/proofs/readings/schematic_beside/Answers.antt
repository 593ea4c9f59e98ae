use Rattle.std.proofs.Common.{IfErr, subst}
use Rattle.spice_rows.specs.Sizes.{read_limit}
use Rattle.spice_text.specs.Means.{SaysFirst}
use Rattle.lvs_run.proofs.Stopping.{schematic_refused, schematic_faults}
use Rattle.lvs_run.proofs.readings.schematic_beside.Goals as goal

pub returns-in-Err-clause-refused : goal.returns-in-Err-clause-refused
returns-in-Err-clause-refused g c =
    let got = c.in_ok-bytes.ensures.got in
    let bytes = c.in_ok-bytes.bytes.items in
    let fault : SaysFirst read_limit bytes c.in-Err.fault = subst (λ r. IfErr r (SaysFirst read_limit bytes)) c.in-Err.is c.read_beside-read.ensures.fault in
    rw c.schematic_stop.ensures (record { why = schematic_refused _ _ _ bytes c.in-Err.fault got fault; faults = schematic_faults _ _ c.in-Err.fault got.faults })
