use Rattle.std.proofs.Common.{◌+◌, ℕ, arith, ap, sym, ◌∙◌}
use Rattle.device_merge.proofs.Going.{width_here, widened_here}
use Rattle.device_merge.proofs.groups.widen.Goals as goal

pub returns-in-Some-clause-done : goal.returns-in-Some-clause-done
returns-in-Some-clause-done c done =
    let at = width_here c.args.rows.now c.args.place c.index-rows-place.result c.requires in
    widened_here c.args.rows.now c.args.place c.index-rows-place-in-Some.result c.in-Some.width c.args.width.0 c.requires
    (c.in-Some.ensures.sum ∙ ap (λ (n : ℕ). n + c.args.width.0) (c.width_of.ensures.width ∙ sym at))

pub returns-in-Some-clause-narrow : goal.returns-in-Some-clause-narrow
returns-in-Some-clause-narrow c done =
    let at = width_here c.args.rows.now c.args.place c.index-rows-place.result c.requires in
    let own = c.width_of.ensures.width in
    let sum = c.in-Some.ensures.sum in
    let most = c.in-Some.ensures.narrow in
    omega arith

pub returns-in-None-clause-wide : goal.returns-in-None-clause-wide
returns-in-None-clause-wide c none =
    let at = width_here c.args.rows.now c.args.place c.index-rows-place.result c.requires in
    let own = c.width_of.ensures.width in
    let wide = c.in-None.ensures.sum in
    omega arith
