use Rattle.std.proofs.Common.{arith}
use Rattle.match_parts.proofs.Read.{read}
use Rattle.match_graph.specs.Graph.{nodes_of}
use Rattle.match_rounds.proofs.SpanColours.{at_places}
use Rattle.match_rounds.proofs.classes.Classes.members.Goals as goal

pub returns : goal.returns
returns c =
    let begins = c.requires.partition.classes.begins in
    at_places c.args.self.now c.deref.result.now c.args.class c.index.result.now c.index-2.result.now (nodes_of c.args.graph.now) c.requires.partition.classes c.requires.class c.deref.ensures.value
    (read c.args.self.now.begin.items c.args.class c.index.result.now (let l = c.requires.class in omega arith) c.index.ensures)
    (read c.args.self.now.counts.size.items c.args.class c.index-2.result.now c.requires.class c.index-2.ensures)
