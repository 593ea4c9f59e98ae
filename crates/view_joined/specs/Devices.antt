-- Where the devices of aligned circuits stand.
use Rattle.std.specs.Prelude.{◌≡◌, ◌<◌, ℕ, List, [], ◌∷◌, map, Option, Some, None, get_or}
use Rattle.std.specs.Prelude.{length, slice_get}
use Rattle.geo_base.specs.Motions.{moved_square}
use Rattle.geo_base.specs.Rects.{moved_rect}
use Rattle.geo_base.specs.declared.motion.Motion.{Motion}
use Rattle.geo_base.specs.declared.shapes.Point.{Point}
use Rattle.geo_base.specs.declared.shapes.Rect.{Rect}
use Rattle.geo_base.specs.declared.shapes.Square.{Square}
use Rattle.part_origins.specs.Inside.{PlainSpot}
use Rattle.part_origins.specs.declared.inside.Part.{Part}
use Rattle.view_netlist.specs.Drawing.{drawn_of}
use Rattle.view_netlist.specs.declared.drawing.DevicePlace.{DevicePlace}
use Rattle.view_netlist.specs.declared.drawing.Drawing.{Drawing}
use Rattle.view_drawing.specs.Devices.{Area, IsListedRegion, corner_of, seen_from}
use Rattle.view_drawing.specs.Far.{IsFarArea}
use Rattle.view_joined.specs.Moved.{placed_rect}
use Rattle.view_joined.specs.Spots.{circuit_at, still}

-- the lower left corner of the image of the square at a point
abbrev pub moved_corner : Motion → Point → Point
moved_corner m p =
    let s : Square = record { x = p.x; y = p.y } in corner_of (moved_square m s)

-- a device's rectangles, moved with its cell
abbrev pub moved_rects : Motion → Point → List Rect → List Rect
moved_rects m p rects = map (λ (r : Rect). moved_rect m (placed_rect p r)) rects

-- q is where the device at place p stands when its cell is moved so: at its moved corner, in a
-- region of its class with its moved area, as it is seen from there
pub record IsMovedPlace (m : Motion) (p : DevicePlace) (areas : List Area)
    (q : DevicePlace) : Type 0 where
  pub area : Area
  pub of : slice_get areas p.region ≡ Some area
  pub at : q.at ≡ moved_corner m p.at
  pub region : IsListedRegion areas q.region area.class
      (map (seen_from q.at) (moved_rects m p.at area.rects))

-- where it would stand then, it reaches too far
abbrev pub IsFarMoved : Motion → DevicePlace → List Area → Type 0
IsFarMoved m p areas = (area : Area) × (slice_get areas p.region ≡ Some area)
    × IsFarArea (moved_corner m p.at) (moved_rects m p.at area.rects)

-- the place of a device of a circuit, if it is drawn
abbrev pub device_of : List Drawing → ℕ → ℕ → Option DevicePlace
device_of drawings circuit device = slice_get (drawn_of drawings circuit).devices device

-- each device that is drawn has its region among these
abbrev pub HaveRegions : List Area → List Drawing → Type 0
HaveRegions areas drawings = (circuit device : ℕ) (p : DevicePlace)
    → device_of drawings circuit device ≡ Some p → p.region < length areas

module _ (spots : List PlainSpot) (drawings : List Drawing) (motions : List Motion)
    (areas : List Area) where
  -- the device that a part is, moved as its spot
  abbrev pub IsJoinedDevice : Part → DevicePlace → Type 0
  IsJoinedDevice part q = (p : DevicePlace)
      × (device_of drawings (circuit_at spots part.spot) part.number ≡ Some p)
      × IsMovedPlace (get_or motions part.spot still) p areas q

  abbrev pub IsFarDevice : Part → Type 0
  IsFarDevice part = (p : DevicePlace)
      × (device_of drawings (circuit_at spots part.spot) part.number ≡ Some p)
      × IsFarMoved (get_or motions part.spot still) p areas

  -- of these devices, in order, up to the first that isn't drawn in its circuit
  abbrev pub AreJoinedDevices : List Part → List DevicePlace → Type 0
  AreJoinedDevices [] [] = Unit {0}
  AreJoinedDevices [] (q ∷ qs) = ⊥
  AreJoinedDevices (c ∷ cs) [] =
      device_of drawings (circuit_at spots c.spot) c.number ≡ None
  AreJoinedDevices (c ∷ cs) (q ∷ qs) = IsJoinedDevice c q × AreJoinedDevices cs qs
