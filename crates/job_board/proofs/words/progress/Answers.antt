use Rattle.std.proofs.Common.{◌≡◌, ◌<◌, ℕ, ◌+◌, ◌*◌, ◌/◌, ◌%◌, ◌==◌, true, false, length, ap, ◌∙◌, arith, None}
use Rattle.std.proofs.lemmas.Bool.Decides.{nat_tests}
use Rattle.std.proofs.Math.Decide.{ℕ_discrete}
use mathlib.Core.Logic.{dite}
use Rattle.job_board.specs.Notes.{IsRight}
use Rattle.job_board.specs.Rule.{one_if, graph_in}
use Rattle.job_board.specs.Plays.{noting, counting}
use Rattle.job_board.proofs.Steps.{counts}
use Rattle.job_board.proofs.words.progress.Goals as goal

-- a number is twice its half, and its lowest bit
halves : (n : ℕ) → n ≡ 2 * (n / 2) + one_if (n % 2 == 1)
halves n = dite (ℕ_discrete (n % 2) 1)
    (λ e. let t : (n % 2 == 1) ≡ true = grind (arith, nat_tests) in let b = ap one_if t in omega arith)
    (λ e. let t : (n % 2 == 1) ≡ false = grind (arith, nat_tests) in let b = ap one_if t in omega arith)

is_odd : (n : ℕ) → n % 2 ≡ 1 → (n % 2 == 1) ≡ true
is_odd n e = grind (arith, nat_tests)

odd_is : (n : ℕ) → (n % 2 == 1) ≡ true → n % 2 ≡ 1
odd_is n e = grind (arith, nat_tests)

pub load-word-requires : goal.load-word-requires
load-word-requires g c = let b = c.requires.board in let w = b.words in let in' : 0 < c.args.table.now.shared.table_id.words = omega arith in
    (b.seat, in', counts None (IsRight g.T.Defined.is_defined) c.args.table.now.shared.key _ _ _ b.plan)

pub returns-clause-count : goal.returns-clause-count
returns-clause-count g c = let n = c.load-word.result in let me = c.args.seat.now.me in
    c.load-word.ensures.2.0 ∙ ap (λ z. (noting (counting me.0 (n / 2 == length (graph_in me.0.plan)) (n % 2 == 1)) 0 z, me.1)) (halves n)

pub returns-clause-few : goal.returns-clause-few
returns-clause-few g c = c.load-word.ensures.2.1

pub returns-clause-full : goal.returns-clause-full
returns-clause-full g c = c.load-word.ensures.2.2

pub returns-clause-stop : goal.returns-clause-stop
returns-clause-stop g c h = is_odd c.load-word.result (c.load-word.ensures.2.3 h)

pub returns-clause-told : goal.returns-clause-told
returns-clause-told g c h = is_odd c.load-word.result (c.load-word.ensures.2.4 h)

pub returns-clause-alone : goal.returns-clause-alone
returns-clause-alone g c all stop = c.load-word.ensures.2.5 all (odd_is c.load-word.result stop)
