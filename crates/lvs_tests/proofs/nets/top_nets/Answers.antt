use Rattle.std.proofs.Common.{[], sym}
use Rattle.cell_graph.specs.Linked.{plain}
use Rattle.deep_tables.proofs.Finding.{some_at}
use Rattle.deep_tables.specs.Nets.{AreCellNets}
use Rattle.rule_text.specs.Seen.{rules_seen}
use Rattle.lvs_tests.proofs.nets.top_nets.Goals as goal

pub of-nets-requires : goal.of-nets-requires
of-nets-requires g c =
    some_at (AreCellNets (plain c.args.inputs.now.layout.design) (rules_seen c.args.inputs.now.rules) c.top.result) _
    (c.in_ok-found.ensures.nets c.top.result (record { path = []; leads = sym c.top.ensures }))
