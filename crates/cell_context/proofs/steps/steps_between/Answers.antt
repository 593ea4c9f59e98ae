use Rattle.std.proofs.Common.{◌≡◌, pos, arith, sym, ap, ◌∙◌, to_z, of_z, w64}
use Rattle.std.proofs.lemmas.Int.{ints}
use Rattle.cell_context.proofs.Times.{times_up, times_down, abs_up, abs_of}
use Rattle.cell_context.proofs.steps.steps_between.Goals as goal

pub returns-then-step-gt0-clause-all : goal.returns-then-step-gt0-clause-all
returns-then-step-gt0-clause-all c = λ i lt a b.
    let h = c.steps_up.ensures.all i lt in
    let s = c.args.step in
    let up = c.if-step-gt0.true in
    let is : to_z w64 (of_z w64 s) ≡ s = omega (arith, ints) in
    let e = times_up i c.unsigned_abs.result s (abs_up (to_z w64 (of_z w64 s)) s is (omega (arith, ints)) ∙ ap pos (sym c.unsigned_abs.ensures.value)) in
    h (omega (arith, ints)) (omega (arith, ints))

pub returns-then-step-lt0-clause-all : goal.returns-then-step-lt0-clause-all
returns-then-step-lt0-clause-all c = λ i lt a b.
    let h = c.steps_up-then-step-lt0.ensures.all i lt in
    let s = c.args.step in
    let down = c.if-step-lt0.true in
    let low = c.requires.low in let high = c.requires.high in
    let l1 = low.low in let l2 = low.high in let h1 = high.low in let h2 = high.high in
    let is : to_z w64 (of_z w64 s) ≡ s = omega (arith, ints) in
    let e = times_down i c.unsigned_abs-then-step-lt0.result s (omega (arith, ints)) (abs_of (to_z w64 (of_z w64 s)) s is (omega (arith, ints)) ∙ ap pos (sym c.unsigned_abs-then-step-lt0.ensures.value)) in
    h (omega (arith, ints)) (omega (arith, ints))
