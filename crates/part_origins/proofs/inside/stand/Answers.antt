use Rattle.std.proofs.Common.{◌+◌, ◌≤◌, length, arith}
use Rattle.part_origins.proofs.Standing.{near, behind}
use Rattle.part_origins.proofs.inside.stand.Goals as goal

pub returns-then-at-pins : goal.returns-then-at-pins
returns-then-at-pins c = near c.args.pins.now (λ i. c.args.behind + i) c.args.n (omega arith)

pub returns : goal.returns
returns c =
    let far : length c.args.pins.now ≤ c.args.n = omega arith in
    let e = behind c.args.pins.now (λ i. c.args.behind + i) c.args.n far in
    grind (arith, e, c.number.ensures.ok)
