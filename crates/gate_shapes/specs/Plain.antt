-- A rectangle between two others, as most gates are.
use Rattle.std.specs.Prelude.{◌≡◌, ℤ, pos, ◌+ℤ◌, ◌-ℤ◌, ◌+◌, Bool, true, ◌&&◌, List, [], ◌∷◌}
use Rattle.std.specs.List.{list_any}
use Rattle.std.specs.Ordering.{int_eq}
use Rattle.geo_base.specs.Rects.{is_inside}
use Rattle.geo_base.specs.declared.shapes.Rect.{Rect}
use Rattle.geo_base.specs.declared.shapes.Square.{Square}
use Rattle.flat_layout.specs.Parts.{AllOn}
use Rattle.gate_shapes.specs.Sets.{area_of, in_set}
use Rattle.gate_shapes.specs.declared.border.Side.{Side}
use Rattle.gate_shapes.specs.declared.border.Side.TheVariants.{Right, Up, Left, Down}
use Rattle.gate_shapes.specs.declared.shape.GateForm.{GateForm}

abbrev pub same_rows : Rect → Rect → Bool
same_rows a b = int_eq a.y1 b.y1 && int_eq a.y2 b.y2

abbrev pub same_columns : Rect → Rect → Bool
same_columns a b = int_eq a.x1 b.x1 && int_eq a.x2 b.x2

-- the second begins where the first ends, in the same rows
abbrev pub is_left : Rect → Rect → Bool
is_left a b = int_eq a.x2 b.x1 && same_rows a b

-- the same, in the same columns
abbrev pub is_under : Rect → Rect → Bool
is_under a b = int_eq a.y2 b.y1 && same_columns a b

-- the three follow one another from left to right
abbrev pub is_level : Rect → Rect → Rect → Bool
is_level one rect other = is_left one rect && is_left rect other

-- or from below
abbrev pub is_upright : Rect → Rect → Rect → Bool
is_upright one rect other = is_under one rect && is_under rect other

-- the squares beside a rectangle, along one of its sides
abbrev pub beyond : Side → Rect → Rect
beyond Right r = record { x1 = r.x2; y1 = r.y1; x2 = r.x2 +ℤ pos 1; y2 = r.y2 }
beyond Up r = record { x1 = r.x1; y1 = r.y2; x2 = r.x2; y2 = r.y2 +ℤ pos 1 }
beyond Left r = record { x1 = r.x1 -ℤ pos 1; y1 = r.y1; x2 = r.x1; y2 = r.y2 }
beyond Down r = record { x1 = r.x1; y1 = r.y1 -ℤ pos 1; x2 = r.x2; y2 = r.y1 }

abbrev pub corner : Rect → Square
corner r = record { x = r.x1; y = r.y1 }

-- one of the list has all of it
abbrev pub is_held : Rect → List Rect → Bool
is_held r rects = list_any (is_inside r) rects

-- a rectangle and its two ends lie on their conductors
pub record LieOn (r source drain : Rect) (on_ends on_gate on_bulk : List Rect)
    (loose : Bool) : Type 0 where
  pub gate_on : AllOn (in_set (r ∷ [])) (in_set on_gate)
  pub source_on : AllOn (in_set (source ∷ [])) (in_set on_ends)
  pub drain_on : AllOn (in_set (drain ∷ [])) (in_set on_ends)
  pub bulk_on : loose ≡ true → AllOn (in_set (r ∷ [])) (in_set on_bulk)

-- the form of a rectangle whose ends lie along the first two of these sides, on their conductors
pub record IsPlainForm (r : Rect) (from to low high : Side) (on_ends on_gate on_bulk : List Rect)
    (loose : Bool) (f : GateForm) : Type 0 where
  pub wide : f.twice_w ≡ area_of (beyond from r) + area_of (beyond to r)
  pub long : f.twice_l ≡ area_of (beyond low r) + area_of (beyond high r)
  pub source : f.source ≡ corner (beyond from r)
  pub drain : f.drain ≡ corner (beyond to r)
  pub on : LieOn r (beyond from r) (beyond to r) on_ends on_gate on_bulk loose
