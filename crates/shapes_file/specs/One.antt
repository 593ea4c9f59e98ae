-- A layout and rules have one shapes file.
use Rattle.std.specs.Prelude.{◌≡◌, ℕ, List}
use Rattle.cell_graph.specs.Linked.{cell_at}
use Rattle.gds_layout.specs.declared.layout.Layout.{Layout}
use Rattle.gds_layout.specs.Once.{IsAlike}
use Rattle.layout_shapes.specs.Written.{name_of}
use Rattle.rule_text.specs.Rules.{Rules}
use Rattle.shapes_file.specs.File.{IsNarrow, IsShapesFile, IsWide}

-- the texts and what is counted in them are the same
pub record IsSameFile (one other : List ℕ) (cells others rectangles more : ℕ) : Type 0 where
  pub text : one ≡ other
  pub cell_count : cells ≡ others
  pub rectangle_count : rectangles ≡ more

-- of alike layouts
abbrev pub OneFileLaw : Type 0
OneFileLaw = (l m : Layout) (r : Rules) (text other : List ℕ) (cells others rectangles more : ℕ)
    → IsAlike l m → IsShapesFile l r text cells rectangles → IsShapesFile m r other others more
    → IsSameFile text other cells others rectangles more

-- where there is none, it is for the same cell, of the same name
pub record IsSameCell (l m : Layout) (cell other : ℕ) : Type 0 where
  pub number : cell ≡ other
  pub name : name_of (cell_at l.design cell) ≡ name_of (cell_at m.design other)

abbrev pub OneWideLaw : Type 0
OneWideLaw = (l m : Layout) (r : Rules) (cell other : ℕ) → IsAlike l m → IsWide l r cell
    → IsWide m r other → IsSameCell l m cell other

-- and there isn't both
abbrev pub NoFileLaw : Type 0
NoFileLaw = (l m : Layout) (r : Rules) (cell : ℕ) → IsAlike l m → IsNarrow l r → IsWide m r cell
    → ⊥
