-- The listed calls that were reached, one call later.
use Rattle.std.proofs.Common.{◌≡◌, ◌+◌, ℕ, suc, List, refl, arith, ap, if◌then◌else◌}
use Rattle.lvs_outside.specs.Schedule.{listed_calls, contains_number}

pub one_more : (failing : List ℕ) (calls : ℕ) → listed_calls failing (calls + 1) ≡ listed_calls failing calls + (if contains_number failing (calls + 1) then 1 else 0)
unfolding listed_calls
one_more failing calls = let e : calls + 1 ≡ suc calls = omega arith in ap (listed_calls failing) e

pub none_reached : (failing : List ℕ) → listed_calls failing 0 ≡ 0
unfolding listed_calls
none_reached failing = refl
