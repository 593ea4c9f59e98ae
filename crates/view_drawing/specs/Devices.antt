-- Where the devices of a cell stand, and in which regions.
use Rattle.std.specs.Prelude.{◌≡◌, ℕ, ◌-ℤ◌, Bool, true, false, List, [], ◌∷◌, ◌++◌, Option, Some, IfSome, map}
use Rattle.std.specs.Prelude.{slice_get}
use Rattle.std.specs.List.{All, filter}
use Rattle.deep_tables.specs.declared.gates.Gate.{Gate}
use Rattle.deep_tables.specs.declared.gates.GateState.{GateState}
use Rattle.deep_tables.specs.declared.gates.GateState.TheVariants.{Good, Bad}
use Rattle.geo_base.specs.declared.shapes.Point.{Point}
use Rattle.geo_base.specs.declared.shapes.Rect.{Rect}
use Rattle.geo_base.specs.declared.shapes.Square.{Square}
use Rattle.plain_netlist.specs.Netlist.{DeviceRow}
use Rattle.view_netlist.specs.Kinds.{Class, class_of}
use Rattle.view_netlist.specs.declared.drawing.DevicePlace.{DevicePlace}
use Rattle.view_words.specs.Numbers.{IsSmallRect}
use Rattle.view_drawing.specs.declared.regions.Region.{Region}

abbrev pub corner_of : Square → Point
corner_of s = record { x = s.x; y = s.y }

abbrev pub seen_from : Point → Rect → Rect
seen_from p r = record {
  x1 = r.x1 -ℤ p.x;
  y1 = r.y1 -ℤ p.y;
  x2 = r.x2 -ℤ p.x;
  y2 = r.y2 -ℤ p.y;
}

abbrev pub is_good : GateState → Bool
is_good (Good kind w l nets) = true
is_good (Bad cause) = false

abbrev pub good_of : List Gate → List Gate
good_of gates = filter (λ gate. is_good gate.state) gates

-- a hull's rectangle reaches less than 2^30 from the origin
abbrev pub IsSmallHull : Option Rect → Type 0
IsSmallHull hull = IfSome hull IsSmallRect

-- a region of devices of a class, as it is seen from a corner of each
pub record Area : Type 0 where
  pub class : Class
  pub rects : List Rect

abbrev pub class_in : Region → Class
class_in r = record { kind = r.kind; name = r.class.items }

abbrev pub area_of : Region → Area
area_of r = record { class = class_in r; rects = r.rects.items }

abbrev pub areas_of : List Region → List Area
areas_of regions = map area_of regions

-- all rectangles of regions reach less than 2^30 from the origin
abbrev pub AreSmallRegions : List Area → Type 0
AreSmallRegions areas = All (λ a. All IsSmallRect a.rects) areas

-- the region of this number is of this class and has these rectangles
abbrev pub IsListedRegion : List Area → ℕ → Class → List Rect → Type 0
IsListedRegion areas k class rects =
    slice_get areas k ≡ Some (record { class = class; rects = rects })

-- the gate's device stands at its least square, in a region of its class with the gate's area as
-- it is seen from there
pub record IsPlaceOf (areas : List Area) (class : Class) (gate : Gate)
    (p : DevicePlace) : Type 0 where
  pub at : p.at ≡ corner_of gate.least
  pub region : IsListedRegion areas p.region class
      (map (seen_from (corner_of gate.least)) gate.area)

-- regions were added behind those before
abbrev pub AddsRegions : List Area → List Area → Type 0
AddsRegions old new = (more : List Area) × (new ≡ old ++ more)

-- a device for each of these gates, in order, as far as there are rows
abbrev pub ArePlaces : List Area → List Gate → List DeviceRow → List DevicePlace → Type 0
ArePlaces areas [] rows places = places ≡ []
ArePlaces areas (g ∷ gs) [] places = places ≡ []
ArePlaces areas (g ∷ gs) (r ∷ rs) [] = ⊥
ArePlaces areas (g ∷ gs) (r ∷ rs) (p ∷ ps) =
    IsPlaceOf areas (class_of r) g p × ArePlaces areas gs rs ps

-- for each good gate
abbrev pub ArePlaced : List Area → List Gate → List DeviceRow → List DevicePlace → Type 0
ArePlaced areas gates rows places = ArePlaces areas (good_of gates) rows places
