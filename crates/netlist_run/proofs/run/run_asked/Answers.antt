use Rattle.std.proofs.Common.{sym}
use Rattle.netlist_run.specs.Words.{asked_seen}
use Rattle.netlist_run.proofs.Leaving.{same_ends}
use Rattle.netlist_run.proofs.run.run_asked.Goals as goal

pub returns-then-is_same : goal.returns-then-is_same
returns-then-is_same g c =
    same_ends (asked_seen c.args.command.now) c.path_of-path.result.now (g.D.Depot.state c.args.depot.now) (g.S.Sink.state c.args.out.now) (g.S.Sink.state c.send.new.out) c.send.result
    c.path_of-path.ensures (sym c.if-is_same.ensures) c.send.ensures
