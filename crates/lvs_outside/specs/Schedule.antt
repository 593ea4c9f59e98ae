-- Which calls on a memory object fail: those that are listed by number, and those that were refused
-- memory.
use Rattle.std.specs.Prelude.{◌≡◌, ◌⊎◌, ℕ, ◌+◌, ◌-◌, ◌<◌, ◌^◌, ◌==◌, nat_lt, List, Bool, false}
use Rattle.std.specs.Prelude.{IsTrue, Result, OnOk, OnErr, zero, suc, if◌then◌else◌}
use Rattle.std.specs.List.{list_any}
use Rattle.lvs_outside.specs.declared.schedule.Schedule.{Schedule}

-- calls are numbered from 1 up to this, and a later call has no number
abbrev pub last_number : ℕ
last_number = 2 ^ 64 - 2

-- how many calls have a number, one call later
abbrev pub next_calls : ℕ → ℕ
next_calls calls = if nat_lt calls last_number then calls + 1 else calls

abbrev pub contains_number : List ℕ → ℕ → Bool
contains_number failing n = list_any (λ k. k == n) failing

-- the next call has a number, and that is listed
abbrev pub is_next_listed : Schedule → Bool
is_next_listed s =
    if nat_lt s.calls last_number then contains_number s.failing.items (s.calls + 1) else false

-- how many of the first calls are listed
unfoldable pub listed_calls : List ℕ → ℕ → ℕ
listed_calls failing zero = 0
listed_calls failing (suc k) =
    listed_calls failing k + (if contains_number failing (k + 1) then 1 else 0)

-- the growths refused, and the listed calls that were reached
abbrev pub faults_of : Schedule → ℕ
faults_of s = s.refused + listed_calls s.failing.items s.calls

-- one call, which fails exactly where it is listed or a growth was refused in it
pub record IsNumbered {T E : Type 0} (old new : Schedule) (result : Result T E) : Type 0 where
  pub failing : new.failing.items ≡ old.failing.items
  pub calls : new.calls ≡ next_calls old.calls
  pub failed : OnErr result (IsTrue (is_next_listed old) ⊎ (old.refused < new.refused))
  pub done : OnOk result ((is_next_listed old ≡ false) × (new.refused ≡ old.refused))
