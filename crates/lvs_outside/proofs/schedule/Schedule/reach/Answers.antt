use Rattle.std.proofs.Common.{◌≡◌, ◌+◌, ℕ, arith, ap, if◌then◌else◌}
use Rattle.lvs_outside.specs.Schedule.{contains_number}
use Rattle.lvs_outside.proofs.Numbers.{one_more}
use Rattle.lvs_outside.proofs.schedule.Schedule.reach.Goals as goal

pub returns-then-self-lt-LAST_NUMBER-clause-faults : goal.returns-then-self-lt-LAST_NUMBER-clause-faults
returns-then-self-lt-LAST_NUMBER-clause-faults c =
    let failing = c.args.self.now.failing.items in
    let calls = c.args.self.now.calls in
    let found : c.contains.result ≡ contains_number failing (calls + 1) = rw c.deref.ensures.value at c.contains.ensures.value in
    let step = ap {B = ℕ} (λ b. if b then 1 else 0) found in
    omega (arith, one_more failing calls, step)
