use Rattle.std.proofs.Common.{string_bytes}
use Rattle.lvs_run.specs.Chips.{rules_at}
use Rattle.lvs_run.proofs.MadeChips.{rules_fault}
use Rattle.lvs_run.proofs.chips.rules_in.Goals as goal

pub returns-in-Err-clause-refused : goal.returns-in-Err-clause-refused
returns-in-Err-clause-refused c = rw c.rules_stop.ensures (rules_fault (rules_at (string_bytes c.args.prefix.now)) c.args.text.now c.in-Err.fault c.in_ok-check_length.ensures.short c.in-Err.ensures.fault)
