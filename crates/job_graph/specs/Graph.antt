-- Jobs and the jobs that they wait for: their inputs.
use Rattle.std.specs.Prelude.{◌≡◌, ℕ, suc, ◌<◌, ◌≤◌, ◌^◌, Bool, true, false, ◌||◌, ◌==◌, List, []}
use Rattle.std.specs.Prelude.{◌∷◌, map, length, get_or}
use Rattle.std.specs.Global.{Vec}

abbrev pub lists : List (Vec ℕ) → List (List ℕ)
lists vs = map (λ v. v.items) vs

-- the inputs of a job: none past the last job
abbrev pub inputs_of : List (List ℕ) → ℕ → List ℕ
inputs_of graph job = get_or graph job []

-- whether the number stands in the list
abbrev pub has : ℕ → List ℕ → Bool
has x [] = false
has x (y ∷ ys) = (x == y) || has x ys

-- the job waits for this one
abbrev pub Waits : List (List ℕ) → ℕ → ℕ → Type 0
Waits graph job input = has input (inputs_of graph job) ≡ true

-- each number is at least low, below high, and above the one before it
abbrev pub AreAscending : ℕ → List ℕ → ℕ → Type 0
AreAscending low [] high = Unit {0}
AreAscending low (x ∷ xs) high = (low ≤ x) × (x < high) × AreAscending (suc x) xs high

-- the inputs of each job ascend, and lie below its own number
abbrev pub AreLower : List (List ℕ) → Type 0
AreLower graph = (job : ℕ) → job < length graph → AreAscending 0 (inputs_of graph job) job

-- what holds of every graph
pub record AreInputs (graph : List (List ℕ)) : Type 0 where
  pub count : length graph < 2 ^ 32
  pub lower : AreLower graph

-- a job waits for jobs of lower numbers alone
abbrev pub LowerLaw : Type 0
LowerLaw =
    (graph : List (List ℕ)) → AreInputs graph → (job input : ℕ) → Waits graph job input
    → (input < job) × (job < length graph)
