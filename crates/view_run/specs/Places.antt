-- Where the nets, devices and calls of drawn circuits are, as the page says it.
use Rattle.std.specs.Prelude.{List, [], ◌∷◌, Option, Some, None, map}
use Rattle.geo_base.specs.declared.motion.Motion.{Motion}
use Rattle.geo_base.specs.declared.shapes.Point.{Point}
use Rattle.view_netlist.specs.Drawing.{Drawn, plain_drawing}
use Rattle.view_netlist.specs.declared.drawing.DevicePlace.{DevicePlace}
use Rattle.view_netlist.specs.declared.drawing.Drawing.{Drawing}
use Rattle.view_netlist.specs.declared.drawing.Shape.{Shape}
use Rattle.view_page.specs.declared.places.Places.{Places}

pub record PlainPlaces : Type 0 where
  pub nets : List (Option Point)
  pub devices : List (Option Point)
  pub calls : List (Option Point)

abbrev pub plain_places : Places → PlainPlaces
plain_places p = record { nets = p.nets.items; devices = p.devices.items; calls = p.calls.items }

-- the lower left corner of a net's first rectangle
abbrev pub net_point : List Shape → Option Point
net_point [] = None
net_point (s ∷ shapes) = Some (record { x = s.rect.x1; y = s.rect.y1 })

abbrev pub device_point : DevicePlace → Option Point
device_point p = Some p.at

abbrev pub call_point : Motion → Option Point
call_point m = Some (record { x = m.dx; y = m.dy })

abbrev pub drawn_places : Drawn → PlainPlaces
drawn_places v = record {
  nets = map net_point v.nets;
  devices = map device_point v.devices;
  calls = map call_point v.calls;
}

abbrev pub drawing_places : Drawing → PlainPlaces
drawing_places d = drawn_places (plain_drawing d)
