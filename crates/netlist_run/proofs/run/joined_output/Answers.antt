use Rattle.std.proofs.Common.{◌≡◌, subst, Ok, ℕ}
use Rattle.netlist_join.specs.Joining.{joined}
use Rattle.netlist_join.specs.Seen.{SaysFault, seen}
use Rattle.netlist_run.specs.Words.{asked_seen}
use Rattle.netlist_run.proofs.Leaving.{joined_of}
use Rattle.netlist_run.proofs.Refusing.{not_joined}
use Rattle.netlist_run.proofs.run.joined_output.Goals as goal

pub returns-in-Ok-clause-output : goal.returns-in-Ok-clause-output
returns-in-Ok-clause-output c =
    joined_of c.made.result c.args.files.now c.in-Ok.joined (asked_seen c.args.command.now)
    (subst (λ (n : ℕ). joined c.args.files.now n c.args.command.now.has_title ≡ Ok (seen c.in-Ok.joined)) c.input_count-count.ensures c.in-Ok.ensures.made) c.made.ensures.output

pub returns-in-Err-clause-refused : goal.returns-in-Err-clause-refused
returns-in-Err-clause-refused c =
    not_joined c.args.files.now (asked_seen c.args.command.now) c.in-Err.fault c.join_stop.result c.joined_laws.ensures c.requires.asked c.requires.inputs
    (subst (λ (n : ℕ). SaysFault c.in-Err.fault (joined c.args.files.now n c.args.command.now.has_title)) c.input_count-count.ensures c.in-Err.ensures.fault) c.join_stop.ensures
