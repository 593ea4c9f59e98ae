-- Layouts whose hulls leave room for what selections of sized names reach beyond them.
use Rattle.std.specs.Prelude.{◌≡◌, ℕ, List, length, Option, Some, None}
use Rattle.cell_graph.specs.Firsts.{IsFirstOr}
use Rattle.cell_graph.specs.Linked.{Linked, cell_at, plain}
use Rattle.gds_layout.specs.declared.layout.Layout.{Layout}
use Rattle.layout_shapes.specs.Wide.{IsFarOut}
use Rattle.layout_shapes.specs.Written.{name_of}
use Rattle.rule_text.specs.Rules.{Rules}
use Rattle.selection_hulls.specs.Near.{selects_reach}

-- the first cell in the order of the file whose hull, grown so far, leaves plus or minus 2^36; or
-- there is none
abbrev pub IsFirstOut : Linked → ℕ → Option ℕ → Type 0
IsFirstOut d n first = IsFirstOr (λ cell. IsFarOut (plain d) n cell) (length d.cells) first

-- the layout has no such cell
abbrev pub IsNear : Rules → Layout → Type 0
IsNear r l = IsFirstOut l.design (selects_reach r) None

-- or the first has this name
pub record IsFirstFar (r : Rules) (l : Layout) (name : List ℕ) : Type 0 where
  pub cell : ℕ
  pub first : IsFirstOut l.design (selects_reach r) (Some cell)
  pub named : name ≡ name_of (cell_at l.design cell)
