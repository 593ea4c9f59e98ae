use Rattle.netlist_run.specs.Words.{asked_seen}
use Rattle.netlist_run.proofs.Leaving.{made_ends, stop_ends}
use Rattle.netlist_run.proofs.run.run_command.Goals as goal

pub returns-in-Err : goal.returns-in-Err
returns-in-Err g c =
    stop_ends (asked_seen c.args.command.now) (g.D.Depot.state c.args.depot.now) (g.D.Depot.state c.prepare.new.depot) (g.S.Sink.state c.args.out.now) (g.S.Sink.state c.stopped.new.out)
    c.in-Err.stop c.stopped.result c.prepare.ensures.reads c.in-Err.ensures.faults c.in-Err.ensures.refused c.stopped.ensures

pub returns-in-Ok : goal.returns-in-Ok
returns-in-Ok g c =
    made_ends (asked_seen c.args.command.now) c.args.path.now c.in-Ok.output.text.items c.in-Ok.output.lines.items (g.D.Depot.state c.args.depot.now) (g.D.Depot.state c.prepare.new.depot)
    (g.D.Depot.state c.deliver.new.depot) (g.S.Sink.state c.args.out.now) (g.S.Sink.state c.deliver.new.out) c.deliver.result c.requires.path c.requires.apart c.prepare.ensures.reads c.in-Ok.ensures.absent c.in-Ok.ensures.faults
    c.in-Ok.ensures.made c.deliver.ensures
