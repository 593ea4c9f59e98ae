use Rattle.match_types.specs.Plain.{pair_of}
use Rattle.round_laws.specs.Nodes.{Layout, Schematic}
use Rattle.match_parts.proofs.Fitted.{devices_on, calls_on}
use Rattle.match_graph.proofs.edges.list_edges.Goals as goal

pub list_side-requires-clause-devices : goal.list_side-requires-clause-devices
list_side-requires-clause-devices c = devices_on (pair_of c.args.left.now c.args.right.now c.args.children.now) Layout c.requires.left

pub list_side-requires-clause-calls : goal.list_side-requires-clause-calls
list_side-requires-clause-calls c = calls_on (pair_of c.args.left.now c.args.right.now c.args.children.now) Layout c.requires.left

pub list_side-requires-2-clause-devices : goal.list_side-requires-2-clause-devices
list_side-requires-2-clause-devices c = devices_on (pair_of c.args.left.now c.args.right.now c.args.children.now) Schematic c.requires.right

pub list_side-requires-2-clause-calls : goal.list_side-requires-2-clause-calls
list_side-requires-2-clause-calls c = calls_on (pair_of c.args.left.now c.args.right.now c.args.children.now) Schematic c.requires.right
