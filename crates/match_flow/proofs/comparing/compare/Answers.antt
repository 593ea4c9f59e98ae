use Rattle.std.proofs.Common.{refl}
use Rattle.net_model.specs.Rows.{plain_netlist}
use Rattle.match_flow.proofs.Narrow.{both_narrow}
use Rattle.match_flow.proofs.Sided.{none_is}
use Rattle.match_flow.proofs.comparing.compare.Goals as goal

pub returns-in_default-clause-none : goal.returns-in_default-clause-none
returns-in_default-clause-none g c =
    let none = c.in_ok-aligned.ensures.none in
    ((λ e. none.0 (none_is c.in_ok-aligned.field-0 c.in_default.not-Some)), (λ h. refl))

pub answer-requires-clause-narrow : goal.answer-requires-clause-narrow
answer-requires-clause-narrow g c κs within = λ merges. both_narrow (plain_netlist c.args.layout.now) (plain_netlist c.args.schematic.now) c.args.top c.args.settings.now.same.now (plain_netlist c.in-Some.aligned.left) (plain_netlist c.in-Some.aligned.right) (rw c.in-Some.is at c.in_ok-aligned.ensures.pair) (c.requires.narrow merges)
