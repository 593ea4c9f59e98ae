-- Marks of cells, and a stack of those whose references aren't followed yet.
use Rattle.std.specs.Prelude.{◌≡◌, ◌⊎◌, ◌↔◌, ℕ, ◌+◌, ◌<◌, Bool, true, false, List, Some, length}
use Rattle.std.specs.Prelude.{get_or, slice_get, if◌then◌else◌}
use Rattle.std.specs.List.{sum_by}
use Rattle.cell_graph.specs.declared.cells.Place.{Place}
use Rattle.cell_graph.specs.Chains.{IsBelow}
use Rattle.cell_graph.specs.Parts.{Part, Places}

abbrev pub IsMarked : List Bool → ℕ → Type 0
IsMarked marks i = get_or marks i false ≡ true

abbrev pub IsOn : List ℕ → ℕ → Type 0
IsOn stack j = (k : ℕ) × (slice_get stack k ≡ Some j)

abbrev pub one_if_free : Bool → ℕ
one_if_free b = if b then 0 else 1

abbrev pub unmarked : List Bool → ℕ
unmarked marks = sum_by one_if_free marks

-- one of the first n places has the cell
abbrev pub IsAmongFirst : List Place → ℕ → ℕ → Type 0
IsAmongFirst places n j =
    (k : ℕ) × (p : Place) × (k < n) × (slice_get places k ≡ Some p) × (p.cell ≡ j)

-- cells that were marked newly stand on the stack
pub record AddsMarks (P : ℕ → Type 0) (marks more : List Bool)
    (stack higher : List ℕ) : Type 0 where
  pub count : length more ≡ length marks
  pub stay : (i : ℕ) → IsMarked marks i → IsMarked more i
  pub here : (i : ℕ) → P i → IsMarked more i
  pub fresh : (i : ℕ) → IsMarked more i → IsMarked marks i ⊎ (P i × IsOn higher i)
  pub lower : (i : ℕ) → IsOn stack i → IsOn higher i
  pub upper : (i : ℕ) → IsOn higher i → IsOn stack i ⊎ P i
  pub size : length higher + unmarked more ≡ length stack + unmarked marks

-- a walk from a cell: what is marked is below it, and its references are followed or it stands on
-- the stack
pub record IsWalk (parts : List Part) (start : ℕ) (marks : List Bool)
    (stack : List ℕ) : Type 0 where
  pub count : length marks ≡ length parts
  pub below : (i : ℕ) → IsMarked marks i → IsBelow (Places parts) start i
  pub noted : (i : ℕ) → IsMarked marks i → IsOn stack i
      ⊎ ((j : ℕ) → Places parts i j → IsMarked marks j)
  pub first : (j : ℕ) → Places parts start j → IsMarked marks j
  pub stacked : (i : ℕ) → IsOn stack i → IsMarked marks i

-- the marks tell what is below the cell
pub record AreMarked (parts : List Part) (start : ℕ) (marks : List Bool) : Type 0 where
  pub count : length marks ≡ length parts
  pub exact : (i : ℕ) → IsMarked marks i ↔ IsBelow (Places parts) start i
