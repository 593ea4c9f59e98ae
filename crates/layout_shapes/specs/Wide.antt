-- Layouts with a cell that a stream has no room for, or that would be read back as too far away.
use Rattle.std.specs.Prelude.{◌≡◌, ◌⊎◌, ℕ, ◌<◌, ◌^◌, ℤ, pos, ◌-ℤ◌, List, map, get_or, Option, Some}
use Rattle.std.specs.Prelude.{None, Contains, Bool, true, ◌&&◌, not, min, IsSome}
use Rattle.std.specs.List.{All, list_any}
use Rattle.geo_base.specs.Rects.{is_between, grown}
use Rattle.geo_base.specs.declared.shapes.Rect.{Rect}
use Rattle.flat_layout.specs.Hull.{IsHullRect}
use Rattle.flat_layout.specs.Layers.{Empty, reach}
use Rattle.flat_layout.specs.Layout.{Design, IsReached}
use Rattle.cell_graph.specs.Linked.{Linked, IsRectWithin, plain}
use Rattle.deep_tables.specs.Layers.{layer_of}
use Rattle.deep_tables.specs.declared.layers.CellLayers.{CellLayers}
use Rattle.rule_layers.specs.Formulas.{formulas, greatest}
use Rattle.rule_text.specs.Rules.{Rules}
use Rattle.layout_shapes.specs.Written.{line_of}

-- whether four bytes of two's complement hold the number (GDSII Stream Format, four-byte signed)
abbrev pub is_long : ℤ → Bool
is_long z = is_between (pos 0 -ℤ pos (2 ^ 31)) z (pos (2 ^ 31))

-- whether they hold each side of the rectangle
abbrev pub is_long_rect : Rect → Bool
is_long_rect r = (is_long r.x1 && is_long r.y1) && (is_long r.x2 && is_long r.y2)

abbrev pub is_wide_line : List Rect → Bool
is_wide_line rects = list_any (λ r. not (is_long_rect r)) rects

-- some rectangle that the cell holds itself of an output line has a side that they don't hold
abbrev pub has_wide_line : List (Option CellLayers) → Rules → ℕ → Bool
has_wide_line table r cell = list_any (λ o. is_wide_line (line_of table cell o).1) r.outputs

-- how far the output lines' names reach at most
abbrev pub output_reach : Rules → ℕ
output_reach r = greatest (map (λ o. reach (get_or (formulas r.names) o.layer Empty)) r.outputs)

-- the cell's hull, which holds a square, has a side outside plus or minus 2^36 once it is grown by
-- n: it couldn't be read
pub record IsFarOut (d : Design) (n cell : ℕ) : Type 0 where
  pub hull : Rect
  pub is : IsHullRect d cell hull
  pub far : IsRectWithin (2 ^ 36) (grown n hull) → ⊥

-- a rectangle of an output line has no room, or the hull lies too far out, grown as far as what is
-- written of the cell and of those below it may reach
abbrev pub IsWideCell : Design → Rules → List (Option CellLayers) → ℕ → Type 0
IsWideCell d r table cell = (has_wide_line table r cell ≡ true) ⊎ IsFarOut d (output_reach r) cell

-- the least of the numbers that has P, where there is one
abbrev pub IsLeast : (ℕ → Type 0) → List ℕ → Option ℕ → Type 0
IsLeast P numbers None = (n : ℕ) → Contains numbers n → P n → ⊥
IsLeast P numbers (Some least) = Contains numbers least × P least
    × ((n : ℕ) → n < least → Contains numbers n → P n → ⊥)

-- the first wide cell in the order of the file, of those that the top reaches; none where no such
-- cell is wide
abbrev pub IsFirstWide : Linked → Rules → List (Option CellLayers) → Option ℕ → Type 0
IsFirstWide d r table None = (n : ℕ) → IsReached (plain d) n → IsWideCell (plain d) r table n → ⊥
IsFirstWide d r table (Some first) = IsReached (plain d) first × IsWideCell (plain d) r table first
    × ((n : ℕ) → n < first → IsReached (plain d) n → IsWideCell (plain d) r table n → ⊥)

-- the table has what the cell holds of each output line
abbrev pub AreHeld : List (Option CellLayers) → Rules → ℕ → Type 0
AreHeld table r cell = All (λ o. IsSome (layer_of table cell o.layer)) r.outputs

-- the lesser of a number that may be there and another
abbrev pub lesser : Option ℕ → ℕ → ℕ
lesser None n = n
lesser (Some m) n = min m n
