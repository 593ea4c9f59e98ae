-- Parts of a cell's candidates, sorted.
use Rattle.std.specs.Prelude.{◌⊎◌, ◌↔◌, ℕ, List}
use Rattle.std.specs.List.{All}
use Rattle.flat_layout.specs.Layers.{IsDecided, IsStirred}
use Rattle.flat_layout.specs.Layout.{Design}
use Rattle.flat_layout.specs.Parts.{InRegion, IsCloseTo}
use Rattle.geo_base.specs.Rects.{IsRect}
use Rattle.geo_base.specs.declared.shapes.Rect.{Rect}
use Rattle.geo_base.specs.declared.shapes.Square.{Square}
use Rattle.gate_shapes.specs.Sets.{in_set}
use Rattle.select_laws.specs.Layered.{IsOwnSelected}
use Rattle.select_laws.specs.Rest.{IsCandidate, IsRest}
use Rattle.select_laws.specs.Selects.{Select, sight}
use Rattle.select_laws.specs.Whole.{IsWhole}
use Rattle.select_phase.specs.declared.sorting.Sorted.{Sorted}

-- the part of the candidates that has s
abbrev pub IsPartAt : Design → Select → ℕ → List Rect → Square → Type 0
IsPartAt d x cell part s = (q : Square) → in_set part q
    ↔ InRegion x.joint (IsCandidate d x.joint (sight x) cell) s q

-- close to the part nothing is disturbed
abbrev pub IsCalmPart : Design → Select → ℕ → List Rect → Type 0
IsCalmPart d x cell part = (q : Square) → IsCloseTo (in_set part) q
    → IsStirred d (sight x).keys (sight x).reach cell q → ⊥

-- the rectangles that were sorted so far, with those of the part: its squares that are chosen,
-- those that go up; and of each it is known whether its region is whole
pub record SortsPart (d : Design) (x : Select) (cell : ℕ) (part : List Rect)
    (old new : Sorted) : Type 0 where
  pub chosen : (q : Square) → in_set new.chosen.items q
      ↔ (in_set old.chosen.items q ⊎ (in_set part q × IsOwnSelected d x cell q))
  pub rest : (q : Square) → in_set new.rest.items q
      ↔ (in_set old.rest.items q ⊎ (in_set part q × IsRest d x.joint (sight x) cell q))
  pub told : (q : Square) → in_set part q → IsDecided (IsWhole d x.joint (sight x) cell q)

abbrev pub HaveRects : Sorted → Type 0
HaveRects s = All IsRect s.chosen.items × All IsRect s.rest.items
