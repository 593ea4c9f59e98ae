use Rattle.rule_text.specs.Seen.{rules_seen}
use Rattle.lvs_run.proofs.Stopping.{layout_refused, layout_faults}
use Rattle.lvs_run.proofs.readings.layout_of.Goals as goal

pub returns-in-Err-clause-refused : goal.returns-in-Err-clause-refused
returns-in-Err-clause-refused g c =
    let got = c.in_ok-feed_input.ensures.got in
    rw c.layout_stop.ensures (record {
      why = layout_refused _ _ _ _ c.args.top.now (rules_seen c.args.rules.now) c.in-Err.fault got c.in-Err.ensures.fault;
      faults = layout_faults _ _ c.in-Err.fault got.faults;
    })
