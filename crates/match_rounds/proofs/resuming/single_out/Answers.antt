use Rattle.std.proofs.Common.{◌≡◌, ◌<◌, ◌-◌, ℕ, length, sym, subst, ◌∙◌, arith}
use Rattle.match_graph.specs.Graph.{left_of, nodes_of}
use Rattle.match_rounds.specs.Classes.{IsPartition, KeepsFresh, class_count}
use Rattle.match_rounds.specs.Pairs.{IsPairParted}
use Rattle.match_rounds.specs.Start.{guess_at}
use Rattle.match_rounds.proofs.Apart.{few_classes}
use Rattle.match_rounds.proofs.Grouped.{grown_on}
use Rattle.match_rounds.proofs.SingledOut.{singled, goes_on, ended, refuted}
use Rattle.match_rounds.proofs.resuming.single_out.Goals as goal
use Rattle.match_rounds.proofs.resuming.single_out.Goals.{In_ok-next_round}

pub loop-classes-init : goal.loop-classes-init
loop-classes-init c =
    let long = c.requires.partition.classes.long in
    let left = c.left_count.ensures in (
      singled c.args.graph.now c.args.guesses.now c.args.classes.now c.part_pair.new.classes c.requires.graph c.requires.settled
          (subst (λ (m : ℕ). IsPartition c.part_pair.new.classes (left_of c.args.graph.now) m) long
          (subst (λ (k : ℕ). IsPartition c.part_pair.new.classes k (length c.args.classes.now.class_of.items)) left c.in_ok-part_pair.ensures.partition))
          (subst (λ (m : ℕ). IsPairParted c.args.classes.now c.part_pair.new.classes (guess_at c.args.guesses.now (length c.args.guesses.now - 1)).0 (guess_at c.args.guesses.now (length c.args.guesses.now - 1)).1 m) long
          c.in_ok-part_pair.ensures.parted)
          (subst (λ (m : ℕ). KeepsFresh c.args.classes.now c.part_pair.new.classes m) long c.in_ok-part_pair.ensures.fresh),
      c.in_ok-part_pair.ensures.grown,
    )

pub returns-then-count-before-clause-resumed : goal.returns-then-count-before-clause-resumed
returns-then-count-before-clause-resumed c =
    ended c.args.graph.now c.args.guesses.now c.loop-classes.classes c.next_round.new.classes c.requires.graph c.requires.some c.loop-classes.invariant.0 c.loop-classes-test.true
    c.in_ok-next_round.ensures.round (c.in_ok-next_round.ensures.grown.same (sym c.count.ensures ∙ (c.if-count-before.true ∙ c.count-before.ensures)))

-- a class came, and there are no more than nodes
more : (c : In_ok-next_round) → (class_count c.next_round.new.classes ≡ class_count c.loop-classes.classes → ⊥) → class_count c.loop-classes.classes < class_count c.next_round.new.classes
more c not = let h = c.in_ok-next_round.ensures.grown.count in omega (arith, not)

pub loop-classes-smaller : goal.loop-classes-smaller
loop-classes-smaller c =
    let m = more (goal.at.loop-classes-smaller c).In_ok-next_round (λ e. c.if-count-before.false (c.count.ensures ∙ (e ∙ sym c.count-before.ensures))) in
    let l = few_classes c.next_round.new.classes (nodes_of c.args.graph.now) c.in_ok-next_round.ensures.partition.classes in
    omega arith

pub loop-classes-preserved : goal.loop-classes-preserved
loop-classes-preserved c = (
  goes_on c.args.graph.now c.args.guesses.now c.loop-classes.classes c.next_round.new.classes c.requires.graph c.loop-classes.invariant.0
      c.in_ok-next_round.ensures.partition c.in_ok-next_round.ensures.ahead c.in_ok-next_round.ensures.round,
  grown_on c.args.classes.now c.loop-classes.classes c.next_round.new.classes c.loop-classes.invariant.1 c.in_ok-next_round.ensures.grown,
)

pub returns-then-count-before-clause-grown : goal.returns-then-count-before-clause-grown
returns-then-count-before-clause-grown c = grown_on c.args.classes.now c.loop-classes.classes c.next_round.new.classes c.loop-classes.invariant.1 c.in_ok-next_round.ensures.grown

pub returns-clause-resumed : goal.returns-clause-resumed
returns-clause-resumed c = refuted c.args.graph.now c.args.guesses.now c.loop-classes.classes c.requires.graph c.requires.some c.loop-classes.invariant.0 c.loop-classes-test.false
