use Rattle.std.proofs.Common.{◌≡◌, subst, Ok, IfOk, length, List, ℕ}
use Rattle.netlist_join.specs.declared.join.Origin.{Origin}
use Rattle.netlist_turn.specs.Seen.{SaysFault, seen}
use Rattle.netlist_turn.specs.Turning.{turned}
use Rattle.netlist_run.specs.Sums.{told_text}
use Rattle.netlist_run.specs.Lines.{SaysTurn}
use Rattle.netlist_run.specs.Words.{asked_seen}
use Rattle.netlist_run.proofs.Leaving.{output_is}
use Rattle.netlist_run.proofs.Refusing.{not_turned}
use Rattle.netlist_run.proofs.run.turned_output.Goals as goal

pub returns-in-Ok-clause-output : goal.returns-in-Ok-clause-output
returns-in-Ok-clause-output c =
    output_is c.tried.result c.args.files.now c.args.joined.now (asked_seen c.args.command.now) c.args.settings.now (seen c.in-Ok.turned) c.requires
    (subst (λ (bytes : List ℕ). turned c.args.settings.now bytes ≡ Ok (seen c.in-Ok.turned)) c.as_slice.ensures.value c.in-Ok.ensures.made) c.tried.ensures.text
    c.tried.ensures.lines
    c.tried.ensures.accepted

pub returns-in-Err-clause-refused : goal.returns-in-Err-clause-refused
returns-in-Err-clause-refused c =
    not_turned c.args.files.now c.args.joined.now (asked_seen c.args.command.now) c.args.settings.now c.in-Err.fault c.turn_stop.result c.requires
    (subst (λ (bytes : List ℕ). SaysFault c.in-Err.fault (turned c.args.settings.now bytes)) c.as_slice.ensures.value c.in-Err.ensures.fault)
    (subst (λ (os : List Origin). SaysTurn c.args.files.now os c.in-Err.fault c.turn_stop.result) c.as_slice-origins.ensures.value c.turn_stop.ensures)
