use Rattle.std.proofs.Common.{◌<◌, ℕ, length, refl, sym, subst, arith}
use Rattle.match_graph.specs.Graph.{left_of}
use Rattle.refine_match.proofs.InOrder.{node_taken, none_taken, taken_more, taken_to}
use Rattle.refine_match.proofs.ties.Ties.take_classes.Goals as goal

pub loop-k-init : goal.loop-k-init
loop-k-init c = none_taken c.args.self.now c.args.graph.now c.args.classes.now c.args.from

pub index_mut-requires : goal.index_mut-requires
index_mut-requires c =
    let l : c.loop-k.k < length c.args.self.now.nodes.items = let a = c.loop-k-test.true in let b = c.len-k-end.ensures in let d = c.args.self.now.nodes.ok.0 in omega arith in
    let is = node_taken c.args.self.now c.loop-k.self c.args.graph.now c.args.classes.now c.args.from c.loop-k.k c.index-node.result.now c.loop-k.invariant l c.index-node.ensures in
    let low : c.index-node.result.now < left_of c.args.graph.now = subst (λ (x : ℕ). x < left_of c.args.graph.now) (sym is) (c.requires.low c.loop-k.k c.loop-k.auto.k l) in
    let long = c.loop-k.invariant.long in
    let all = c.requires.long in
    let len = c.loop-k.self.class_of.ok.0 in
    omega arith

pub loop-k-preserved : goal.loop-k-preserved
loop-k-preserved c =
    let l : c.loop-k.k < length c.args.self.now.nodes.items = let a = c.loop-k-test.true in let b = c.len-k-end.ensures in let d = c.args.self.now.nodes.ok.0 in omega arith in
    let is = node_taken c.args.self.now c.loop-k.self c.args.graph.now c.args.classes.now c.args.from c.loop-k.k c.index-node.result.now c.loop-k.invariant l c.index-node.ensures in
    let low : c.index-node.result.now < left_of c.args.graph.now = subst (λ (x : ℕ). x < left_of c.args.graph.now) (sym is) (c.requires.low c.loop-k.k c.loop-k.auto.k l) in
    let long = c.loop-k.invariant.long in
    let all = c.requires.long in
    let below : c.index-node.result.now < length c.loop-k.self.class_of.items = omega arith in
    taken_more c.args.self.now c.loop-k.self (_) c.args.graph.now c.args.classes.now c.args.from c.loop-k.k c.index-node.result.now c.of.result c.loop-k.invariant is below c.of.ensures refl refl refl refl

pub returns : goal.returns
returns c =
    let past = c.loop-k-test.false in
    let b = c.len-k-end.ensures in
    let d = c.args.self.now.nodes.ok.0 in
    taken_to c.args.self.now c.loop-k.self c.args.graph.now c.args.classes.now c.args.from c.loop-k.k (length c.args.self.now.nodes.items) c.loop-k.invariant (omega arith)
