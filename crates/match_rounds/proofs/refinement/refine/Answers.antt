use Rattle.std.proofs.Common.{◌≡◌, ◌<◌, rules, sym, ◌∙◌, arith}
use Rattle.match_graph.specs.Graph.{nodes_of}
use Rattle.match_rounds.specs.Classes.{class_count}
use Rattle.match_rounds.proofs.Apart.{few_classes}
use Rattle.match_rounds.proofs.Refining.{begun, goes_on, settled, refuted}
use Rattle.match_rounds.proofs.refinement.refine.Goals as goal
use Rattle.match_rounds.proofs.refinement.refine.Goals.{In_ok-next_round}

pub loop-classes-init : goal.loop-classes-init
loop-classes-init c = begun c.args.graph.now c.args.guesses.now c.in_ok-classes.classes c.in_ok-classes.ensures.partition c.in_ok-classes.ensures.colours c.in_ok-classes.ensures.fresh

pub returns-then-count-before-clause-verdict : goal.returns-then-count-before-clause-verdict
returns-then-count-before-clause-verdict c =
    settled c.args.graph.now c.args.guesses.now c.loop-classes.classes c.next_round.new.classes c.loop-classes.round c.requires.graph c.loop-classes.invariant c.loop-classes-test.true
    c.in_ok-next_round.ensures.round (c.in_ok-next_round.ensures.grown.same (sym c.count.ensures ∙ (c.if-count-before.true ∙ c.count-before.ensures)))

-- a class came, and there are no more than nodes
more : (c : In_ok-next_round) → (class_count c.next_round.new.classes ≡ class_count c.loop-classes.classes → ⊥) → class_count c.loop-classes.classes < class_count c.next_round.new.classes
more c not = let h = c.in_ok-next_round.ensures.grown.count in omega (arith, not)

pub overflow_add-round : goal.overflow_add-round
overflow_add-round c =
    let m = more (goal.at.overflow_add-round c).In_ok-next_round (λ e. c.if-count-before.false (c.count.ensures ∙ (e ∙ sym c.count-before.ensures))) in
    let few = c.loop-classes.invariant.few in
    let l = few_classes c.next_round.new.classes (nodes_of c.args.graph.now) c.in_ok-next_round.ensures.partition.classes in
    let small = c.in_ok-next_round.ensures.partition.classes.small in
    search (rules, arith)

pub loop-classes-smaller : goal.loop-classes-smaller
loop-classes-smaller c =
    let m = more (goal.at.loop-classes-smaller c).In_ok-next_round (λ e. c.if-count-before.false (c.count.ensures ∙ (e ∙ sym c.count-before.ensures))) in
    let l = few_classes c.next_round.new.classes (nodes_of c.args.graph.now) c.in_ok-next_round.ensures.partition.classes in
    omega arith

pub loop-classes-preserved : goal.loop-classes-preserved
loop-classes-preserved c =
    goes_on c.args.graph.now c.args.guesses.now c.loop-classes.classes c.next_round.new.classes c.loop-classes.round c.requires.graph c.loop-classes.invariant c.loop-classes-test.true
    c.in_ok-next_round.ensures.partition c.in_ok-next_round.ensures.ahead c.in_ok-next_round.ensures.round
    (more (goal.at.loop-classes-preserved c).In_ok-next_round (λ e. c.if-count-before.false (c.count.ensures ∙ (e ∙ sym c.count-before.ensures))))

pub returns-clause-verdict : goal.returns-clause-verdict
returns-clause-verdict c = refuted c.args.graph.now c.args.guesses.now c.loop-classes.classes c.loop-classes.round c.loop-classes.invariant c.loop-classes-test.false
