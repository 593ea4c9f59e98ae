use Rattle.std.proofs.Common.{◌≡◌, false, rules, subst, List, ℕ, Option}
use Rattle.std.specs.Option.{option_copied}
use Rattle.netlist_join.specs.declared.join.Origin.{Origin}
use Rattle.netlist_run.specs.Defined.{SaysFault, defined}
use Rattle.netlist_run.specs.Accepted.{NoTop}
use Rattle.netlist_run.specs.Lines.{Says, SaysTurn, no_top_line}
use Rattle.netlist_run.specs.Words.{asked_seen}
use Rattle.netlist_run.proofs.Leaving.{plan_for}
use Rattle.netlist_run.proofs.Refusing.{not_defined}
use Rattle.netlist_run.proofs.run.made.Goals as goal

pub returns-in-Err-clause-refused : goal.returns-in-Err-clause-refused
returns-in-Err-clause-refused c =
    not_defined c.args.files.now c.args.joined.now (asked_seen c.args.command.now) c.in-Err.fault c.turn_stop.result
    (subst (λ (bytes : List ℕ). SaysFault c.in-Err.fault (defined c.args.command.now.choices.scale bytes)) c.as_slice-text.ensures.value c.in-Err.ensures.fault)
    (subst (λ (os : List Origin). SaysTurn c.args.files.now os c.in-Err.fault c.turn_stop.result) c.as_slice-origins.ensures.value c.turn_stop.ensures)

pub returns-then-not-plan-clause-refused : goal.returns-then-not-plan-clause-refused
returns-then-not-plan-clause-refused c =
    let e : c.in-Ok.plan.is_found ≡ false = search rules in
    NoTop c.in-Ok.plan.settings
    (plan_for c.as_slice-text.result.now c.args.joined.now.text.items (option_copied c.top_of-top.result) (asked_seen c.args.command.now).top c.args.command.now.choices c.in-Ok.plan.settings c.in-Ok.plan.is_found false
    c.in-Ok.ensures.made c.as_slice-text.ensures.value c.top_of-top.ensures e)
    (subst (λ (top : Option (List ℕ)). Says (no_top_line top) c.no_top_stop.result) c.top_of-top.ensures c.no_top_stop.ensures)
