use Rattle.std.proofs.Common.{◌≡◌, subst, IfErr, OnOk, Result, Ok}
use Rattle.spice_cards.specs.Seen.{tokens_seen}
use Rattle.netlist_turn.specs.Made.{Made}
use Rattle.netlist_turn.specs.Seen.{seen, SaysFault}
use Rattle.netlist_turn.specs.declared.fault.TurnFault.{TurnFault}
use Rattle.netlist_turn.proofs.TakenLemmas.{taken_is}
use Rattle.netlist_turn.proofs.turn.take_plain.Goals as goal

pub returns-clause-made : goal.returns-clause-made
returns-clause-made c =
    subst (λ (r : Result Made TurnFault). OnOk c.take_by_fate.result (r ≡ Ok (seen c.take_by_fate.new.made)))
    (taken_is c.args.settings.now (seen c.args.made.now) c.args.line c.args.first.now (tokens_seen c.args.behind.now) c.row_of-row.result c.in_ok-left.left c.fate_of-fate.result c.after-made.result
    c.row_of-row.ensures c.in_ok-left.ensures c.fate_of-fate.ensures c.after-made.ensures) c.take_by_fate.ensures.made

pub returns-clause-fault : goal.returns-clause-fault
returns-clause-fault c =
    subst (λ (r : Result Made TurnFault). IfErr c.take_by_fate.result (λ e. SaysFault e r))
    (taken_is c.args.settings.now (seen c.args.made.now) c.args.line c.args.first.now (tokens_seen c.args.behind.now) c.row_of-row.result c.in_ok-left.left c.fate_of-fate.result c.after-made.result
    c.row_of-row.ensures c.in_ok-left.ensures c.fate_of-fate.ensures c.after-made.ensures) c.take_by_fate.ensures.fault
