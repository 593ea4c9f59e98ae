use Rattle.std.proofs.Common.{arith}
use Rattle.match_parts.proofs.Read.{read}
use Rattle.match_rounds.proofs.Evenness.{both_sides}
use Rattle.match_rounds.proofs.classes.Classes.right_size.Goals as goal

pub overflow_sub-result : goal.overflow_sub-result
overflow_sub-result c =
    let left = c.left_size.ensures in
    let size = c.requires.partition.counted.size_is c.args.class c.requires.class in
    let sum = both_sides c.args.graph.now c.args.self.now c.args.class c.requires.partition.inside in
    let is = read c.args.self.now.counts.size.items c.args.class c.index.result.now c.requires.class c.index.ensures in
    omega arith

pub returns : goal.returns
returns c =
    let left = c.left_size.ensures in
    let size = c.requires.partition.counted.size_is c.args.class c.requires.class in
    let sum = both_sides c.args.graph.now c.args.self.now c.args.class c.requires.partition.inside in
    let is = read c.args.self.now.counts.size.items c.args.class c.index.result.now c.requires.class c.index.ensures in
    omega arith
