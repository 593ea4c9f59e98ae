-- How large the circuits become that are made of pairs taken apart.
use Rattle.std.specs.Prelude.{◌≡◌, ◌<◌, ℕ, ◌+◌, Bool, true, false, ◌&&◌, ◌||◌, not, nat_lt}
use Rattle.std.specs.Prelude.{List, length, Option, Some, None, slice_index_or, if◌then◌else◌}
use Rattle.std.specs.List.{sum_by}
use Rattle.plain_netlist.specs.Netlist.{CallRow, Circuit, Netlist, IsCircuit}

-- the most devices and calls of a circuit
abbrev pub MOST_ROWS : ℕ
MOST_ROWS = 16777216

-- past the limit all numbers are one
abbrev pub capped : ℕ → ℕ
capped n = if nat_lt MOST_ROWS n then MOST_ROWS + 1 else n

-- a call of a circuit that goes counts as what stands in that circuit
abbrev pub call_rows : List Bool → List ℕ → CallRow → ℕ
call_rows goes sizes r =
    if slice_index_or goes r.circuit false then slice_index_or sizes r.circuit 0 else 1

abbrev pub rows_of : List Bool → List ℕ → Circuit → ℕ
rows_of goes sizes c = length c.devices + sum_by (call_rows goes sizes) c.calls

-- the devices and calls of each circuit, where those that go stand in their callers
pub record AreSizes (nl : Netlist) (goes : List Bool) (sizes : List ℕ) : Type 0 where
  pub long : length sizes ≡ length nl.circuits
  pub each : (k : ℕ) (c : Circuit) → IsCircuit nl k c
      → slice_index_or sizes k 0 ≡ capped (rows_of goes sizes c)

-- pair k stays, and one of its circuits is too large
abbrev pub is_over : List Bool → List ℕ → List ℕ → ℕ → Bool
is_over goes lefts rights k = not (slice_index_or goes k false)
    && (nat_lt MOST_ROWS (slice_index_or lefts k 0) || nat_lt MOST_ROWS (slice_index_or rights k 0))

-- the first number below n that passes, or none
abbrev pub IsFirst : (ℕ → Bool) → ℕ → Option ℕ → Type 0
IsFirst test n None = (k : ℕ) → k < n → test k ≡ false
IsFirst test n (Some k) = (k < n) × (test k ≡ true) × ((j : ℕ) → j < k → test j ≡ false)

-- the first pair that would become too large, if there is one
pub record IsLimit (left right : Netlist) (goes : List Bool) (found : Option ℕ) : Type 0 where
  pub lefts : List ℕ
  pub rights : List ℕ
  pub left_sizes : AreSizes left goes lefts
  pub right_sizes : AreSizes right goes rights
  pub first : IsFirst (is_over goes lefts rights) (length goes) found
