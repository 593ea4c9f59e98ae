use Rattle.std.proofs.Common.{string_bytes}
use Rattle.rule_text.specs.Seen.{rules_seen}
use Rattle.lvs_run.specs.Chips.{layout_at}
use Rattle.lvs_run.proofs.MadeChips.{layout_fault}
use Rattle.lvs_run.proofs.chips.layout_in.Goals as goal

pub returns-in-Err-clause-refused : goal.returns-in-Err-clause-refused
returns-in-Err-clause-refused g c =
    rw c.layout_stop.ensures
    (layout_fault (layout_at (string_bytes c.args.prefix.now)) c.args.text.now c.args.top.now (rules_seen c.args.rules.now) c.in-Err.fault c.in_ok-check_length.ensures.short c.in-Err.ensures.fault)
