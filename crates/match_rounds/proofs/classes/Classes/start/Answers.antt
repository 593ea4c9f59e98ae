use Rattle.std.proofs.Common.{ℕ, subst, arith}
use Rattle.match_graph.specs.Graph.{left_of, nodes_of}
use Rattle.match_rounds.specs.Classes.{IsPartition, KeepsFresh, node_count}
use Rattle.match_rounds.specs.Pairs.{IsPairParted}
use Rattle.match_rounds.specs.Start.{guess_at}
use Rattle.match_rounds.proofs.Started.{more, at_end, all_fresh}
use Rattle.match_rounds.proofs.classes.Classes.start.Goals as goal

pub part_pair-requires-clause-first : goal.part_pair-requires-clause-first
part_pair-requires-clause-first c =
    let a = c.requires.guesses.left c.loop-a.a-index c.loop-a-test.true in
    let b = c.requires.guesses.right c.loop-a.a-index c.loop-a-test.true in
    let n = c.requires.guesses.node c.loop-a.a-index c.loop-a-test.true in
    let long = c.loop-a.invariant.0.classes.long in
    omega arith

pub part_pair-requires-clause-second : goal.part_pair-requires-clause-second
part_pair-requires-clause-second c =
    let n = c.requires.guesses.node c.loop-a.a-index c.loop-a-test.true in
    let long = c.loop-a.invariant.0.classes.long in
    omega arith

pub part_pair-requires-clause-two : goal.part_pair-requires-clause-two
part_pair-requires-clause-two c = λ e.
    let a = c.requires.guesses.left c.loop-a.a-index c.loop-a-test.true in
    let b = c.requires.guesses.right c.loop-a.a-index c.loop-a-test.true in
    omega arith

pub loop-a-preserved : goal.loop-a-preserved
loop-a-preserved c =
    let long = c.loop-a.invariant.0.classes.long in (
      subst (λ (m : ℕ). IsPartition c.part_pair.new.classes (left_of c.args.graph.now) m) long
          (subst (λ (k : ℕ). IsPartition c.part_pair.new.classes k (node_count c.loop-a.classes)) c.left_count-left_count.ensures c.in_ok-part_pair.ensures.partition),
      more c.args.graph.now c.loop-a.classes c.part_pair.new.classes c.args.guesses.now c.loop-a.a-index c.loop-a-test.true c.loop-a.invariant.1
          (subst (λ (m : ℕ). IsPairParted c.loop-a.classes c.part_pair.new.classes (guess_at c.args.guesses.now c.loop-a.a-index).0 (guess_at c.args.guesses.now c.loop-a.a-index).1 m) long c.in_ok-part_pair.ensures.parted),
      all_fresh c.loop-a.classes c.part_pair.new.classes (nodes_of c.args.graph.now) (subst (λ (m : ℕ). KeepsFresh c.loop-a.classes c.part_pair.new.classes m) long c.in_ok-part_pair.ensures.fresh) c.loop-a.invariant.2,
    )

pub returns-clause-colours : goal.returns-clause-colours
returns-clause-colours c = at_end c.args.graph.now c.loop-a.classes c.args.guesses.now c.loop-a.a-index (let a = c.loop-a-test.false in let b = c.loop-a.auto.a-index-end in omega arith) c.loop-a.invariant.1
