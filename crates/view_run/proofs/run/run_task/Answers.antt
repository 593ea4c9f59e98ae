use Rattle.view_run.specs.Stated.{asked_of}
use Rattle.view_run.proofs.Ending.{outside_stop, ready_apart, ready_room, refused_run, wrote_run}
use Rattle.view_run.proofs.run.run_task.Goals as goal

pub deliver-requires-clause-depot : goal.deliver-requires-clause-depot
deliver-requires-clause-depot g c = ready_room _ _ _ _ _ _ c.requires.depot c.in-Ok.ensures.quiet c.in-Ok.ensures.ready

pub deliver-requires-clause-apart : goal.deliver-requires-clause-apart
deliver-requires-clause-apart g c = ready_apart (asked_of c.args.task.now) _ _ _ _ _ c.requires.page c.in-Ok.ensures.ready

pub returns-in-Ok : goal.returns-in-Ok
returns-in-Ok g c = wrote_run _ _ _ _ _ _ _ _ _ _ c.in-Ok.ensures.quiet c.in-Ok.ensures.ready c.deliver.ensures

pub returns-in-Err-Refused : goal.returns-in-Err-Refused
returns-in-Err-Refused g c = refused_run _ _ _ _ _ c.in-Err-Refused.field-0 c.in-Err-Refused.why _ c.in-Err-Refused.field-0-is c.in-Err-Refused.ensures.quiet c.in-Err-Refused.ensures.stops c.refuse.ensures

pub returns-in-Err-Outside : goal.returns-in-Err-Outside
returns-in-Err-Outside g c = outside_stop _ _ _ _ c.in-Err-Outside.field-0 c.in-Err-Outside.field-0-is c.in-Err-Outside.ensures.quiet c.in-Err-Outside.ensures.stops
