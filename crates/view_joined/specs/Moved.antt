-- Shapes and areas, moved.
use Rattle.std.specs.Prelude.{◌+ℤ◌}
use Rattle.geo_base.specs.Rects.{moved_rect}
use Rattle.geo_base.specs.declared.motion.Motion.{Motion}
use Rattle.geo_base.specs.declared.shapes.Point.{Point}
use Rattle.geo_base.specs.declared.shapes.Rect.{Rect}
use Rattle.view_netlist.specs.declared.drawing.Shape.{Shape}

abbrev pub moved_shape : Motion → Shape → Shape
moved_shape m s = record { layer = s.layer; rect = moved_rect m s.rect }

-- a rectangle that is seen from a point
abbrev pub placed_rect : Point → Rect → Rect
placed_rect p r = record {
  x1 = p.x +ℤ r.x1;
  y1 = p.y +ℤ r.y1;
  x2 = p.x +ℤ r.x2;
  y2 = p.y +ℤ r.y2;
}
