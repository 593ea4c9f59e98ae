use Rattle.std.proofs.Common.{◌≡◌, subst, IfErr, OnOk, Ok}
use Rattle.spice_cards.specs.Seen.{tokens_seen}
use Rattle.netlist_turn.specs.Seen.{seen, SaysFault}
use Rattle.netlist_turn.specs.Turning.{first_taken}
use Rattle.netlist_turn.specs.declared.rows.Row.{Row}
use Rattle.netlist_turn.proofs.turn.take_word.Goals as goal

pub returns-clause-made : goal.returns-clause-made
returns-clause-made c =
    subst (λ (row : Row). OnOk c.take_first.result (first_taken c.args.settings.now row (seen c.args.made.now) c.args.line c.args.first.now (tokens_seen c.args.behind.now) ≡ Ok (seen c.take_first.new.made)))
    c.row_of-row.ensures c.take_first.ensures.made

pub returns-clause-fault : goal.returns-clause-fault
returns-clause-fault c =
    subst (λ (row : Row). IfErr c.take_first.result (λ e. SaysFault e (first_taken c.args.settings.now row (seen c.args.made.now) c.args.line c.args.first.now (tokens_seen c.args.behind.now))))
    c.row_of-row.ensures c.take_first.ensures.fault
