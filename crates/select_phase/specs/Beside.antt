-- What a selection has to know of the other name.
use Rattle.std.specs.Prelude.{ℕ, List}
use Rattle.flat_layout.specs.Layers.{IsKept}
use Rattle.flat_layout.specs.Layout.{Design}
use Rattle.geo_base.specs.declared.shapes.Rect.{Rect}
use Rattle.gate_search.specs.Gather.{AreMet}
use Rattle.select_laws.specs.Selects.{Ask, Interacting, Overlapping, Inside, Outside, WithArea}
use Rattle.select_laws.specs.Selects.{Select}

-- an area asks for none
abbrev pub IfOther : Ask → Type 0 → Type 0
IfOther Interacting A = A
IfOther Overlapping A = A
IfOther Inside A = A
IfOther Outside A = A
IfOther (WithArea low high) A = Unit {0}

-- squares that the cell keeps of it, among them all in the windows
abbrev pub IsBeside : Design → Select → ℕ → List Rect → List Rect → Type 0
IsBeside d x cell windows near = IfOther x.ask (AreMet (IsKept d cell x.other) windows near)
