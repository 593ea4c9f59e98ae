use Rattle.std.proofs.Common.{ℕ, List, Option, sym, subst, ◌∙◌}
use Rattle.match_rounds.specs.Refined.{AreSettled, HasNoEvenEnd}
use Rattle.match_rounds.specs.Start.{AreGuesses, guessed_web}
use Rattle.refine_match.specs.Choosing.{IsLeastOrNone}
use Rattle.refine_match.proofs.RightOnes.{former_lists}
use Rattle.refine_match.proofs.Tried.{before_guess, guessing, not_even, now_even, pushed_guesses}
use Rattle.refine_match.proofs.searching.Search.guess.Goals as goal

pub single_out-requires-clause-guesses : goal.single_out-requires-clause-guesses
single_out-requires-clause-guesses c =
    subst (λ (us : List (ℕ × ℕ)). AreGuesses c.args.graph.now us) (sym (c.deref.ensures.value ∙ c.in_ok-push.ensures.items))
    (pushed_guesses c.requires.0 c.args.graph.now c.args.self.now c.args.candidate c.requires.1)

pub single_out-requires-clause-settled : goal.single_out-requires-clause-settled
single_out-requires-clause-settled c =
    before_guess c.args.graph.now c.args.self.now.guesses.items c.deref.result.now (c.args.self.now.level.node, c.args.candidate.node) c.args.self.now.classes
    (c.deref.ensures.value ∙ c.in_ok-push.ensures.items) c.requires.1.way.settled

pub refute-requires-clause-guessing : goal.refute-requires-clause-guessing
refute-requires-clause-guessing c =
    (c.requires.0, guessing c.requires.0 c.args.graph.now c.args.self.now c.args.candidate c.requires.1 c.push.new.self c.single_out.new.classes c.args.self.now.lists c.in_ok-push.ensures.items)

pub refute-requires-clause-uneven : goal.refute-requires-clause-uneven
refute-requires-clause-uneven c =
    subst (λ (us : List (ℕ × ℕ)). HasNoEvenEnd (guessed_web c.args.graph.now us)) c.deref.ensures.value
    (not_even (guessed_web c.args.graph.now c.deref.result.now) c.single_out.new.classes c.in_ok-single_out.field-0 c.if-not-branch.true c.in_ok-single_out.ensures.resumed)

pub returns-then-not-branch-clause-tried : goal.returns-then-not-branch-clause-tried
returns-then-not-branch-clause-tried c = λ p h.
    c.in_ok-refute.ensures.way p (guessing p c.args.graph.now c.args.self.now c.args.candidate h c.push.new.self c.single_out.new.classes c.args.self.now.lists c.in_ok-push.ensures.items)

-- what the lists are told of the classes
pub follow-requires-clause-former : goal.follow-requires-clause-former
follow-requires-clause-former c =
    let way = c.requires.1.way in
    former_lists c.args.self.now.lists c.args.graph.now c.args.self.now.classes c.single_out.new.classes way.partition c.in_ok-single_out.ensures.grown way.lists

pub descend-requires-clause-guessing : goal.descend-requires-clause-guessing
descend-requires-clause-guessing c =
    (c.requires.0, guessing c.requires.0 c.args.graph.now c.args.self.now c.args.candidate c.requires.1 c.push.new.self c.single_out.new.classes c.choose.new.self c.in_ok-push.ensures.items)

pub descend-requires-clause-settled : goal.descend-requires-clause-settled
descend-requires-clause-settled c =
    subst (λ (us : List (ℕ × ℕ)). AreSettled (guessed_web c.args.graph.now us) c.single_out.new.classes) c.deref.ensures.value
    (now_even (guessed_web c.args.graph.now c.deref.result.now) c.single_out.new.classes c.in_ok-single_out.field-0 c.if-not-branch.false c.in_ok-single_out.ensures.resumed)

pub returns-in_ok-descend-in-Some-clause-tried : goal.returns-in_ok-descend-in-Some-clause-tried
returns-in_ok-descend-in-Some-clause-tried c = λ p h.
    c.in_ok-descend-in-Some.ensures.way p (guessing p c.args.graph.now c.args.self.now c.args.candidate h c.push.new.self c.single_out.new.classes c.choose.new.self c.in_ok-push.ensures.items)

pub returns-in-None-clause-tried : goal.returns-in-None-clause-tried
returns-in-None-clause-tried c = λ p h. record {
  guessing = guessing p c.args.graph.now c.args.self.now c.args.candidate h c.push.new.self c.single_out.new.classes c.choose.new.self c.in_ok-push.ensures.items;
  partition = c.in_ok-single_out.ensures.partition;
  settled = subst (λ (us : List (ℕ × ℕ)). AreSettled (guessed_web c.args.graph.now us) c.single_out.new.classes) c.deref.ensures.value
      (now_even (guessed_web c.args.graph.now c.deref.result.now) c.single_out.new.classes c.in_ok-single_out.field-0 c.if-not-branch.false c.in_ok-single_out.ensures.resumed);
  untied = subst (λ (o : Option ℕ). IsLeastOrNone c.args.graph.now c.single_out.new.classes o) c.in-None.is c.in_ok-node.ensures.least;
}
