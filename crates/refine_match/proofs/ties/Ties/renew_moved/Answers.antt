use Rattle.std.proofs.Common.{◌<◌, ◌∙◌, ℕ, length, sym, subst, ap, arith}
use Rattle.std.specs.Prelude.{Vec}
use Rattle.std.specs.Global.{Global}
use Rattle.match_graph.specs.Graph.{left_of}
use Rattle.match_rounds.specs.Classes.{class_count, class_in}
use Rattle.refine_match.specs.Ties.{told_in}
use Rattle.refine_match.proofs.InOrder.{node_renewed, none_renewed, renewed_more, renewed_to, told_read}
use Rattle.refine_match.proofs.ties.Ties.renew_moved.Goals as goal

pub loop-k-init : goal.loop-k-init
loop-k-init c = none_renewed c.args.self.now c.args.graph.now c.args.classes.now c.args.from c.requires.spans c.requires.ordered

pub index-former-requires : goal.index-former-requires
index-former-requires c =
    let l : c.loop-k.k < length c.args.self.now.nodes.items = let a = c.loop-k-test.true in let b = c.len-k-end.ensures in let d = c.args.self.now.nodes.ok.0 in omega arith in
    let is = node_renewed c.args.self.now c.loop-k.self c.args.graph.now c.args.classes.now c.args.from c.loop-k.k c.index-node.result.now c.loop-k.invariant l c.index-node.ensures in
    let low : c.index-node.result.now < left_of c.args.graph.now = subst (λ (x : ℕ). x < left_of c.args.graph.now) (sym is) (c.requires.moved.low c.loop-k.k c.loop-k.auto.k l) in
    let long = ap (λ (v : Vec ℕ Global). length v.items) c.loop-k.invariant.told in
    let all = c.requires.moved.long in
    let len = c.loop-k.self.class_of.ok.0 in
    omega arith

pub renew-requires-clause-class : goal.renew-requires-clause-class
renew-requires-clause-class c =
    let l : c.loop-k.k < length c.args.self.now.nodes.items = let a = c.loop-k-test.true in let b = c.len-k-end.ensures in let d = c.args.self.now.nodes.ok.0 in omega arith in
    let is = node_renewed c.args.self.now c.loop-k.self c.args.graph.now c.args.classes.now c.args.from c.loop-k.k c.index-node.result.now c.loop-k.invariant l c.index-node.ensures in
    let low : c.index-node.result.now < left_of c.args.graph.now = subst (λ (x : ℕ). x < left_of c.args.graph.now) (sym is) (c.requires.moved.low c.loop-k.k c.loop-k.auto.k l) in
    let was = told_read c.args.self.now c.loop-k.self c.args.graph.now c.index-node.result.now c.index-former.result.now c.requires.moved.long low c.loop-k.invariant.told c.index-former.ensures in
    subst (λ (x : ℕ). x < class_count c.args.classes.now) (sym was) (c.requires.moved.below c.index-node.result.now low)

pub renew-requires-clause-count : goal.renew-requires-clause-count
renew-requires-clause-count c = c.loop-k.invariant.count ∙ c.requires.moved.count

pub renew-requires-in-loop-k-clause-class : goal.renew-requires-in-loop-k-clause-class
renew-requires-in-loop-k-clause-class c =
    let l : c.loop-k.k < length c.args.self.now.nodes.items = let a = c.loop-k-test.true in let b = c.len-k-end.ensures in let d = c.args.self.now.nodes.ok.0 in omega arith in
    let is = node_renewed c.args.self.now c.loop-k.self c.args.graph.now c.args.classes.now c.args.from c.loop-k.k c.index-node.result.now c.loop-k.invariant l c.index-node.ensures in
    let low : c.index-node.result.now < left_of c.args.graph.now = subst (λ (x : ℕ). x < left_of c.args.graph.now) (sym is) (c.requires.moved.low c.loop-k.k c.loop-k.auto.k l) in
    let inside = c.requires.partition.inside in
    subst (λ (x : ℕ). x < class_count c.args.classes.now) (sym c.of.ensures) (c.requires.partition.classes.below c.index-node.result.now (omega arith))

pub renew-requires-in-loop-k-clause-count : goal.renew-requires-in-loop-k-clause-count
renew-requires-in-loop-k-clause-count c = c.in_ok-renew.ensures.count ∙ (c.loop-k.invariant.count ∙ c.requires.moved.count)

pub loop-k-preserved : goal.loop-k-preserved
loop-k-preserved c =
    let l : c.loop-k.k < length c.args.self.now.nodes.items = let a = c.loop-k-test.true in let b = c.len-k-end.ensures in let d = c.args.self.now.nodes.ok.0 in omega arith in
    let is = node_renewed c.args.self.now c.loop-k.self c.args.graph.now c.args.classes.now c.args.from c.loop-k.k c.index-node.result.now c.loop-k.invariant l c.index-node.ensures in
    let low : c.index-node.result.now < left_of c.args.graph.now = subst (λ (x : ℕ). x < left_of c.args.graph.now) (sym is) (c.requires.moved.low c.loop-k.k c.loop-k.auto.k l) in
    let was = told_read c.args.self.now c.loop-k.self c.args.graph.now c.index-node.result.now c.index-former.result.now c.requires.moved.long low c.loop-k.invariant.told c.index-former.ensures in
    renewed_more c.args.self.now c.loop-k.self c.renew.new.self c.renew-in-loop-k.new.self c.args.graph.now c.args.classes.now c.args.from c.loop-k.k c.index-former.result.now c.of.result c.loop-k.invariant
    c.in_ok-renew.ensures c.in_ok-renew-2.ensures (was ∙ ap (told_in c.args.self.now) is) (c.of.ensures ∙ ap (λ (x : ℕ). class_in c.args.classes.now x) is)

pub returns : goal.returns
returns c =
    let past = c.loop-k-test.false in
    let b = c.len-k-end.ensures in
    let d = c.args.self.now.nodes.ok.0 in
    renewed_to c.args.self.now c.loop-k.self c.args.graph.now c.args.classes.now c.args.from c.loop-k.k (length c.args.self.now.nodes.items) c.loop-k.invariant (omega arith)
