-- The nodes of the classes that a round looks at.
use Rattle.std.specs.Prelude.{◌≡◌, ◌<◌, ◌≤◌, ◌+◌, ℕ, zero, suc, List, length, slice_index}
use Rattle.match_rounds.specs.declared.classes.Classes.{Classes}

-- the nodes at these places stand behind what was there
pub record IsCopied (old new nodes : List ℕ) (from to : ℕ) : Type 0 where
  pub long : length new + from ≡ length old + to
  pub kept : (k : ℕ) → k < length old → slice_index new k ≡ slice_index old k
  pub each : (k : ℕ) → from + k < to → slice_index new (length old + k)
      ≡ slice_index nodes (from + k)

-- where the nodes of the j-th class begin
abbrev pub start_at : List ℕ → ℕ → ℕ
start_at ends zero = 0
start_at ends (suc j) = slice_index ends j

abbrev pub fresh_at : Classes → ℕ → ℕ
fresh_at c j = slice_index c.marks.fresh.items j

-- the nodes of the j-th marked class stand there
pub record IsSpan (c : Classes) (members ends : List ℕ) (j : ℕ) : Type 0 where
  pub end : slice_index ends j ≡ start_at ends j + slice_index c.counts.size.items (fresh_at c j)
  pub fits : slice_index ends j ≤ length members
  pub each : (k : ℕ) → k < slice_index c.counts.size.items (fresh_at c j)
      → slice_index members (start_at ends j + k)
      ≡ slice_index c.order.node_at.items (slice_index c.begin.items (fresh_at c j) + k)

-- so do those of the first i of them
pub record AreMembers (c : Classes) (members ends : List ℕ) (i : ℕ) : Type 0 where
  pub count : length ends ≡ i
  pub last : start_at ends i ≡ length members
  pub each : (j : ℕ) → j < i → IsSpan c members ends j
