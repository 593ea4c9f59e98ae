use Rattle.std.proofs.Common.{◌≡◌, ℕ, ◌*◌, ◌^◌, ◌≤◌, Ok, arith}
use Rattle.script_values.proofs.sums.read_number.Goals as goal

pub returns-in-Ok-clause-none : goal.returns-in-Ok-clause-none
returns-in-Ok-clause-none c = λ n k w small.
    let far : k * 10 ^ 15 ≤ 10 ^ 30 = omega arith in
    let read = (c.parse_area.ensures.value (k * 10 ^ 15)).1 (w, far) in
    c.whole_number.ensures.none n k (cc) small

pub returns-in-Err-clause-none : goal.returns-in-Err-clause-none
returns-in-Err-clause-none c = λ n k w small.
    let far : k * 10 ^ 15 ≤ 10 ^ 30 = omega arith in
    let read = (c.parse_area.ensures.value (k * 10 ^ 15)).1 (w, far) in
    cc
