-- The boundary edges of a part by the side on which they lie.
use Rattle.std.specs.Prelude.{◌≡◌, ◌↔◌, ℤ, pos, negsuc, ◌+ℤ◌, ◌-ℤ◌, List}
use Rattle.geo_base.specs.declared.shapes.Rect.{Rect}
use Rattle.geo_base.specs.declared.shapes.Square.{Square}
use Rattle.flat_layout.specs.Parts.{Edge, IsWideOf, IsLongOf, Counts}
use Rattle.gate_shapes.specs.Sets.{in_set}
use Rattle.gate_shapes.specs.declared.border.Side.{Side}
use Rattle.gate_shapes.specs.declared.border.Side.TheVariants.{Right, Up, Left, Down}
use Rattle.gate_shapes.specs.declared.border.Flank.{Flank}

abbrev pub step_x : Side → ℤ
step_x Right = pos 1
step_x Up = pos 0
step_x Left = negsuc 0
step_x Down = pos 0

abbrev pub step_y : Side → ℤ
step_y Right = pos 0
step_y Up = pos 1
step_y Left = pos 0
step_y Down = negsuc 0

-- the square from which one step to a side leads to q
abbrev pub behind : Side → Square → Square
behind side q = record { x = q.x -ℤ step_x side; y = q.y -ℤ step_y side }

-- the edge lies on this side of its inner square
abbrev pub IsOnSide : Side → Edge → Type 0
IsOnSide side e = e.inner ≡ behind side e.outer

-- a rectangle and the squares around it
abbrev pub grown_rect : Rect → Rect
grown_rect r =
    record { x1 = r.x1 -ℤ pos 1; y1 = r.y1 -ℤ pos 1; x2 = r.x2 +ℤ pos 1; y2 = r.y2 +ℤ pos 1 }

-- what is found on one side
pub record IsFlank (part ends : List Rect) (side : Side) (f : Flank) : Type 0 where
  pub wide : Counts (λ e. IsWideOf (in_set part) (in_set ends) e × IsOnSide side e) f.wide
  pub long : Counts (λ e. IsLongOf (in_set part) (in_set ends) e × IsOnSide side e) f.long
  pub touched : (q : Square) → in_set f.touched q
      ↔ ((e : Edge) × IsWideOf (in_set part) (in_set ends) e × IsOnSide side e × (e.outer ≡ q))

-- and on all four
pub record IsBorder (part ends : List Rect) (f : Flank) : Type 0 where
  pub wide : Counts (IsWideOf (in_set part) (in_set ends)) f.wide
  pub long : Counts (IsLongOf (in_set part) (in_set ends)) f.long
  pub touched : (q : Square) → in_set f.touched q
      ↔ ((e : Edge) × IsWideOf (in_set part) (in_set ends) e × (e.outer ≡ q))
