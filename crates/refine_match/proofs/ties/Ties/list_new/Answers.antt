use Rattle.std.proofs.Common.{ℕ, List, sym, subst, ◌∙◌, arith}
use Rattle.match_graph.specs.Graph.{left_of, nodes_of}
use Rattle.match_rounds.specs.Classes.{class_in}
use Rattle.match_rounds.proofs.Apart.{few_classes}
use Rattle.refine_match.specs.Ties.{AreInOrder}
use Rattle.refine_match.proofs.Tied.{none_listed, one_listed}
use Rattle.refine_match.proofs.ties.Ties.list_new.Goals as goal

pub loop-class-init : goal.loop-class-init
loop-class-init c =
    let e = c.len-class.ensures ∙ c.args.self.now.spans.ok.0 in
    (none_listed c.args.self.now c.args.graph.now c.args.classes.now c.len-class.result e, omega arith)

pub overflow_cast-class : goal.overflow_cast-class
overflow_cast-class c =
    let few = few_classes c.args.classes.now (nodes_of c.args.graph.now) c.requires.partition.classes in
    let small = c.requires.partition.classes.small in
    let more = c.loop-class-test.true in
    let count = c.count-class-end.ensures in
    omega arith

pub loop-class-preserved : goal.loop-class-preserved
loop-class-preserved c =
    let h = c.loop-class.invariant in
    let from = h.1 in (
      one_listed c.args.self.now c.loop-class.self c.add_span.new.self c.args.graph.now c.args.classes.now c.loop-class.class c.deref.result.now h.0 h.1
          (subst (λ (xs : List ℕ). AreInOrder xs (class_in c.args.classes.now) 0 (left_of c.args.graph.now) c.loop-class.class) (sym c.deref.ensures.value)
          (subst (λ (n : ℕ). AreInOrder c.list_within.new.found.items (class_in c.args.classes.now) 0 n c.loop-class.class) c.left_count.ensures c.in_ok-list_within.ensures)) c.in_ok-add_span.ensures,
      omega arith,
    )
