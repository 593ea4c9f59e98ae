-- Heights on their way up.
use Rattle.std.specs.Prelude.{◌≡◌, ◌⊎◌, ℕ, ◌+◌, ◌<◌, ◌≤◌, List, length, take, get_or}
use Rattle.plain_netlist.specs.Lists.{IsListed}
use Rattle.cell_graph.specs.declared.cells.Place.{Place}
use Rattle.cell_graph.specs.Chains.{HasChain, IsHeightOf}
use Rattle.cell_graph.specs.declared.drafts.CellDraft.{CellDraft}
use Rattle.cell_graph.specs.Drafts.{Refers}
use Rattle.cell_graph.specs.Parts.{Part, IsAmong, Places}

abbrev pub height_in : List ℕ → ℕ → ℕ
height_in heights i = get_or heights i 0

-- above each placed cell, or at the end
abbrev pub IsOver : List Place → List ℕ → ℕ → Type 0
IsOver places heights height =
    (j : ℕ) → IsAmong places j → (height_in heights j < height) ⊎ (65 ≤ height)

-- and not more than one above some
abbrev pub IsJustOver : List Place → List ℕ → ℕ → Type 0
IsJustOver places heights height =
    (height ≡ 0) ⊎ ((j : ℕ) × IsAmong places j × (height ≤ height_in heights j + 1))

-- each height is that of a chain
pub record AreRising (parts : List Part) (heights : List ℕ) : Type 0 where
  pub count : length heights ≡ length parts
  pub low : (i : ℕ) → height_in heights i ≤ 65
  pub chain : (i : ℕ) → i < length heights → HasChain (Places parts) i (height_in heights i)

-- these cells stand above those that they place
abbrev pub AreSettled : List Part → List ℕ → (ℕ → Type 0) → Type 0
AreSettled parts heights P = (i j : ℕ) → P i → Places parts i j
    → (height_in heights j < height_in heights i) ⊎ (65 ≤ height_in heights i)

-- along an order, the first n stand above those that they place
pub record AreSettledTo (parts : List Part) (order : List ℕ) (n : ℕ)
    (heights : List ℕ) : Type 0 where
  pub rising : AreRising parts heights
  pub settled : AreSettled parts heights (λ i. IsListed i (take n order))

-- the height of each cell
pub record HaveHeights (cells : List CellDraft) (heights : List ℕ) : Type 0 where
  pub count : length heights ≡ length cells
  pub each : (i : ℕ) → i < length cells → IsHeightOf (Refers cells) i (height_in heights i)

-- the least number that is no less and is above the other, at most 65
pub record IsHigher (most below more : ℕ) : Type 0 where
  pub kept : most ≤ more
  pub above : (below < more) ⊎ (65 ≤ more)
  pub just : (more ≡ most) ⊎ (more ≤ below + 1)
  pub low : more ≤ 65
