use Rattle.std.proofs.Common.{subst, sym}
use Rattle.lvs_run.specs.Answers.{IsVerdict}
use Rattle.lvs_run.proofs.Delivering.{cause_delivered, delivered, faults_delivered, stop_out, stopped_outside, stopped_memory}
use Rattle.lvs_run.proofs.Flattened.{flat_delivered, netlist_delivered, none_written}
use Rattle.lvs_run.proofs.Ready.{room_left}
use Rattle.lvs_run.proofs.Reported.{match_delivered, verdicts_delivered}
use Rattle.lvs_run.proofs.run.run_lvs.Goals as goal

pub returns-in-Ok-clause-outcome : goal.returns-in-Ok-clause-outcome
returns-in-Ok-clause-outcome g c = delivered _ _ _ _ _ _ c.in-Ok.output _ c.in-Ok.ensures.quiet c.in-Ok.ensures.ready c.deliver.ensures

pub returns-in-Err-Outside-clause-outcome : goal.returns-in-Err-Outside-clause-outcome
returns-in-Err-Outside-clause-outcome g c = stopped_outside _ _ _ _ c.prepare.ensures.quiet

pub returns-in-Err-NoMemory-clause-outcome : goal.returns-in-Err-NoMemory-clause-outcome
returns-in-Err-NoMemory-clause-outcome g c = stopped_memory _ _ _ _ c.prepare.ensures.quiet

pub returns-in-Err-Refused-clause-outcome : goal.returns-in-Err-Refused-clause-outcome
returns-in-Err-Refused-clause-outcome g c = stop_out _ _ _ _ _ c.in-Err-Refused.field-0 c.in-Err-Refused.why _ c.in-Err-Refused.field-0-is c.in-Err-Refused.ensures.quiet c.in-Err-Refused.ensures.stops c.refuse.ensures

pub returns-in-Ok-clause-flat : goal.returns-in-Ok-clause-flat
returns-in-Ok-clause-flat g c = flat_delivered _ _ _ _ _ _ c.in-Ok.output _ c.in-Ok.ensures.ready c.deliver.ensures

pub returns-in-Err-Refused-clause-flat : goal.returns-in-Err-Refused-clause-flat
returns-in-Err-Refused-clause-flat g c = λ v. absurd (none_written _ _ c.in-Err-Refused.why _ c.refuse.ensures v)

pub returns-in-Ok-clause-faults : goal.returns-in-Ok-clause-faults
returns-in-Ok-clause-faults g c = faults_delivered _ _ _ _ _ c.in-Ok.output _ c.in-Ok.ensures.quiet c.in-Ok.ensures.ready.faults c.deliver.ensures

pub returns-in-Ok-clause-cause : goal.returns-in-Ok-clause-cause
returns-in-Ok-clause-cause g c = cause_delivered _ _ _ _ _ _ c.in-Ok.output _ c.in-Ok.ensures.ready.cause c.deliver.ensures

pub returns-in-Ok-clause-netlist : goal.returns-in-Ok-clause-netlist
returns-in-Ok-clause-netlist g c = netlist_delivered _ _ _ _ _ _ c.in-Ok.output _ c.in-Ok.ensures.ready c.deliver.ensures

pub returns-in-Err-Refused-clause-netlist : goal.returns-in-Err-Refused-clause-netlist
returns-in-Err-Refused-clause-netlist g c = λ v. absurd (none_written _ _ c.in-Err-Refused.why _ c.refuse.ensures v)

pub returns-in-Ok-clause-matched : goal.returns-in-Ok-clause-matched
returns-in-Ok-clause-matched g c = match_delivered _ _ _ _ _ _ c.in-Ok.output _ c.in-Ok.ensures.ready c.deliver.ensures

pub returns-in-Err-Refused-clause-matched : goal.returns-in-Err-Refused-clause-matched
returns-in-Err-Refused-clause-matched g c = λ good. absurd (none_written _ _ c.in-Err-Refused.why _ c.refuse.ensures (subst IsVerdict (sym good) tt))

pub returns-in-Ok-clause-verdicts : goal.returns-in-Ok-clause-verdicts
returns-in-Ok-clause-verdicts g c = verdicts_delivered _ _ _ _ _ _ c.in-Ok.output _ c.in-Ok.ensures.ready c.deliver.ensures

pub returns-in-Err-Refused-clause-verdicts : goal.returns-in-Err-Refused-clause-verdicts
returns-in-Err-Refused-clause-verdicts g c = λ v. absurd (none_written _ _ c.in-Err-Refused.why _ c.refuse.ensures v)

pub deliver-requires-clause-depot : goal.deliver-requires-clause-depot
deliver-requires-clause-depot g c = room_left _ _ _ c.in-Ok.output c.requires.depot c.in-Ok.ensures.quiet c.in-Ok.ensures.ready
