use Rattle.std.proofs.Common.{List, String, Global, map, rules, subst}
use Rattle.std.specs.Prelude.{string_bytes}
use Rattle.netlist_join.specs.Failing.{SaysFailed}
use Rattle.netlist_run.specs.Accepted.{Loads}
use Rattle.netlist_run.specs.Words.{asked_seen}
use Rattle.netlist_run.proofs.Leaving.{lacks_then, loaded}
use Rattle.netlist_run.proofs.run.prepare.Goals as goal

pub returns-in-Err-clause-refused : goal.returns-in-Err-clause-refused
returns-in-Err-clause-refused g c =
    Loads c.in-Err.failed
    (subst (λ (ss : List (String Global)). SaysFailed (map string_bytes ss) (g.D.Depot.state c.args.depot.now) (g.D.Depot.state c.load_files.new.depot) c.in-Err.failed) c.as_slice.ensures.value c.in-Err.ensures.failed)
    c.load_stop.ensures

pub returns-in-Ok-clause-refused : goal.returns-in-Ok-clause-refused
returns-in-Ok-clause-refused g c =
    lacks_then c.joined_output.result (g.D.Depot.state c.args.depot.now) (g.D.Depot.state c.load_files.new.depot) _ (asked_seen c.args.command.now) c.joined_output.ensures.refused c.in-Ok.ensures.absent (search (rules, loaded))
