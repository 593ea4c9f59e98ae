-- Numbers that call numbers: orders of calls, and numbers that reach themselves.
use Rattle.std.specs.Prelude.{◌≡◌, ℕ, ◌<◌, List, [], length, take, map, slice_get, slice_index_or}
use Rattle.std.specs.Prelude.{Some}
use Rattle.std.specs.Global.{Vec}
use Rattle.plain_netlist.specs.Chains.{Reaches}
use Rattle.plain_netlist.specs.Lists.{IsListed, AreApart}
use Rattle.call_order.specs.declared.order.CallOrder.{CallOrder}
use Rattle.call_order.specs.declared.order.CallOrder.TheVariants.{CalleesFirst, Cycle}

-- for each number, those that it calls
abbrev pub lists : List (Vec ℕ) → List (List ℕ)
lists rows = map (λ row. row.items) rows

-- number a calls number b
abbrev pub Calls : List (List ℕ) → ℕ → ℕ → Type 0
Calls calls a b = IsListed b (slice_index_or calls a [])

-- each call is of a number that has a list
abbrev pub AreInRange : List (List ℕ) → Type 0
AreInRange calls = (a b : ℕ) → Calls calls a b → b < length calls

-- one call or more lead from a number back to it
pub record ReachesItself (calls : List (List ℕ)) (k : ℕ) : Type 0 where
  pub first : ℕ
  pub called : Calls calls k first
  pub back : Reaches (Calls calls) first k

-- all numbers, each once and behind those that it calls
pub record IsCallOrder (calls : List (List ℕ)) (order : List ℕ) : Type 0 where
  pub apart : AreApart order
  pub within : (k : ℕ) → IsListed k order → k < length calls
  pub all : (k : ℕ) → k < length calls → IsListed k order
  pub behind : (i a b : ℕ) → slice_get order i ≡ Some a → Calls calls a b
      → IsListed b (take i order)

-- the least number that reaches itself
pub record IsFirstInCycle (calls : List (List ℕ)) (k : ℕ) : Type 0 where
  pub reaches : ReachesItself calls k
  pub first : (j : ℕ) → j < k → ReachesItself calls j → ⊥

-- what is found
abbrev pub IsFound : List (List ℕ) → CallOrder → Type 0
IsFound calls (CalleesFirst order) = IsCallOrder calls order.items
IsFound calls (Cycle k) = IsFirstInCycle calls k

-- numbers in such an order don't reach themselves
abbrev pub NoCycleLaw : Type 0
NoCycleLaw = (calls : List (List ℕ)) (order : List ℕ) → IsCallOrder calls order
    → (k : ℕ) → ReachesItself calls k → ⊥
