-- The order of a design's cells: those that stand lower come first, and cells of one level in the
-- order of the file.
use Rattle.std.specs.Prelude.{◌≡◌, ◌⊎◌, ◌↔◌, ◌<◌, ℕ, suc, List}
use Rattle.flat_layout.specs.Layout.{Place, Design, IsPlaced, IsReached}
use Rattle.plain_netlist.specs.Lists.{IsListed, AreRising}

-- the level of a cell: 0 where it places none, else one above its highest placed cell
pub record AreLevels (d : Design) (level : ℕ → ℕ) : Type 0 where
  pub lower : (cell k : ℕ) (p : Place) → IsPlaced d cell k p → level p.cell < level cell
  pub some : (cell : ℕ) → (level cell ≡ 0)
      ⊎ ((k : ℕ) × (p : Place) × IsPlaced d cell k p × (level cell ≡ suc (level p.cell)))

-- by level, then by number
abbrev pub IsCellBefore : (ℕ → ℕ) → ℕ → ℕ → Type 0
IsCellBefore level a b = (level a < level b) ⊎ ((level a ≡ level b) × (a < b))

-- the cells with a property, each once, in the design's order
pub record AreInOrder (d : Design) (level : ℕ → ℕ) (P : ℕ → Type 0) (cells : List ℕ) : Type 0 where
  pub each : (cell : ℕ) → IsListed cell cells ↔ (IsReached d cell × P cell)
  pub rising : AreRising (IsCellBefore level) cells

-- the design's order: the cells that the top reaches
abbrev pub IsOrder : Design → (ℕ → ℕ) → List ℕ → Type 0
IsOrder d level cells = AreInOrder d level (λ cell. Unit {0}) cells
