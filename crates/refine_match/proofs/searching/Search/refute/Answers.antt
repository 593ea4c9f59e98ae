use Rattle.std.proofs.Common.{ℕ, List, sym, subst, ◌∙◌}
use Rattle.match_rounds.specs.Start.{AreGuesses, guessed_web}
use Rattle.refine_match.specs.Searching.{HasEvenEnd}
use Rattle.refine_match.proofs.Tried.{popped, guesses_before, even_before_guess, refuted_way}
use Rattle.refine_match.proofs.searching.Search.refute.Goals as goal

pub settle-requires-clause-guesses : goal.settle-requires-clause-guesses
settle-requires-clause-guesses c =
    let p = c.requires.guessing.0 in
    let h = c.requires.guessing.1 in
    let s = c.args.self.now in
    let are = c.deref-2.ensures.value ∙ popped s.guesses.items c.pop.new.self.items h.before (s.level.node, c.args.candidate.node) s.guesses.len h.guesses_are s.guesses.ok.0 c.pop.ensures.rest in
    subst (λ (us : List (ℕ × ℕ)). AreGuesses c.args.graph.now us) (sym are) (guesses_before p c.args.graph.now s c.args.candidate h)

pub settle-requires-clause-even : goal.settle-requires-clause-even
settle-requires-clause-even c =
    let p = c.requires.guessing.0 in
    let h = c.requires.guessing.1 in
    let s = c.args.self.now in
    let are = c.deref-2.ensures.value ∙ popped s.guesses.items c.pop.new.self.items h.before (s.level.node, c.args.candidate.node) s.guesses.len h.guesses_are s.guesses.ok.0 c.pop.ensures.rest in
    subst (λ (us : List (ℕ × ℕ)). HasEvenEnd (guessed_web c.args.graph.now us)) (sym are) (even_before_guess p c.args.graph.now s c.args.candidate h)

pub returns-clause-way : goal.returns-clause-way
returns-clause-way c = λ p h.
    refuted_way p c.args.graph.now c.args.self.now c.args.candidate h c.in_ok-verdict.field-0-0 c.in_ok-verdict.verdict c.end_of.result c.in_ok-row.row c.in_ok-self.field-0 c.in_ok-self-2.field-0 c.deref-2.result.now c.deref.result.now
    c.pop.new.self c.push.new.self c.requires.uneven c.deref.ensures.value c.in_ok-verdict.ensures.verdict c.end_of.ensures (c.in_ok-row.ensures.row p h)
    c.in_ok-push.ensures.items c.pop.ensures.rest c.deref-2.ensures.value c.in_ok-self.ensures.partition c.in_ok-self.ensures.settled c.in_ok-self-2.ensures
