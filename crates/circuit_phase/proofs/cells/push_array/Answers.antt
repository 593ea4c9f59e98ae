use Rattle.std.proofs.Common.{◌≡◌, ◌*◌, ◌∙◌, ℕ, ap, arith}
use Rattle.circuit_phase.proofs.Copying.{all_copies}
use Rattle.circuit_phase.proofs.cells.push_array.Goals as goal

pub returns : goal.returns
returns c =
    let p = c.args.place.now in
    let end : c.loop.counter ≡ c.from.result * c.from-2.result = omega arith in
    let is = end ∙ ap (λ (k : ℕ). k * c.from-2.result) c.from.ensures ∙ ap (λ (k : ℕ). p.rows * k) c.from-2.ensures in
    all_copies p c.args.out.now.items c.loop.out.items c.loop.counter is c.loop.invariant
