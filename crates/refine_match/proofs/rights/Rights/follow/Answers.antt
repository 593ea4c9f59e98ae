use Rattle.std.proofs.Common.{ℕ, List, sym, subst, arith}
use Rattle.match_graph.specs.Graph.{left_of, nodes_of}
use Rattle.match_rounds.specs.Classes.{class_in}
use Rattle.match_rounds.proofs.Apart.{few_classes}
use Rattle.refine_match.specs.Ties.{AreInOrder}
use Rattle.refine_match.proofs.RightOnes.{one_more, one_right}
use Rattle.refine_match.proofs.rights.Rights.follow.Goals as goal

pub overflow_cast-class : goal.overflow_cast-class
overflow_cast-class c =
    let few = few_classes c.args.classes.now (nodes_of c.args.graph.now) c.requires.partition.classes in
    let small = c.requires.partition.classes.small in
    let more = c.loop-class-test.true in
    let count = c.count-class-end.ensures in
    omega arith

pub loop-class-preserved : goal.loop-class-preserved
loop-class-preserved c =
    let h = c.loop-class.invariant in
    let f = class_in c.args.classes.now in
    let row = c.list_within.new.found.items in
    let one = subst (λ (n : ℕ). AreInOrder row f n (nodes_of c.args.graph.now) c.loop-class.class) c.left_count-left.ensures
    (subst (λ (n : ℕ). AreInOrder row f c.left_count-left.result n c.loop-class.class) c.node_count.ensures c.in_ok-list_within.ensures) in (
      one_right c.loop-class.self c.add_span.new.self c.args.graph.now c.args.classes.now c.loop-class.class c.deref.result.now h.0 h.1
          (subst (λ (xs : List ℕ). AreInOrder xs f (left_of c.args.graph.now) (nodes_of c.args.graph.now) c.loop-class.class) (sym c.deref.ensures.value) one) c.in_ok-add_span.ensures,
      one_more c.loop-class.self c.add_span.new.self c.loop-class.class c.deref.result.now h.1 c.in_ok-add_span.ensures,
    )
