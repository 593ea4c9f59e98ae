use Rattle.std.proofs.Common.{string_bytes}
use Rattle.lvs_run.specs.Chips.{schematic_at}
use Rattle.lvs_run.proofs.MadeChips.{schematic_fault}
use Rattle.lvs_run.proofs.chips.schematic_in.Goals as goal

pub returns-in-Err-clause-refused : goal.returns-in-Err-clause-refused
returns-in-Err-clause-refused c = rw c.schematic_stop.ensures (schematic_fault (schematic_at (string_bytes c.args.prefix.now)) c.args.text.now c.in-Err.fault c.in_ok-check_length.ensures.short c.in-Err.ensures.fault)
