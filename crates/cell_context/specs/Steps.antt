-- Ranges of steps.
use Rattle.std.specs.Prelude.{ℕ, ◌<◌, ◌≤◌}
use Rattle.cell_context.specs.declared.steps.Steps.{Steps}

-- the number is one of the range
pub record Includes (s : Steps) (i : ℕ) : Type 0 where
  pub low : s.from ≤ i
  pub high : i < s.to
