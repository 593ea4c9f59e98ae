-- What is drawn of a circuit: its box, its nets' rectangles, where its devices and calls stand.
use Rattle.std.specs.Prelude.{ℕ, pos, List, [], ◌∷◌, ◌++◌, map, Option, Some, None, IfSome}
use Rattle.std.specs.Prelude.{codes, get_or}
use Rattle.std.specs.List.{All}
use Rattle.geo_base.specs.declared.motion.Motion.{Motion}
use Rattle.geo_base.specs.declared.motion.Turn.{Turn}
use Rattle.geo_base.specs.declared.motion.Turn.TheVariants.{R0, R90, R180, R270, M0, M90, M180}
use Rattle.geo_base.specs.declared.motion.Turn.TheVariants.{M270}
use Rattle.geo_base.specs.declared.shapes.Point.{Point}
use Rattle.geo_base.specs.declared.shapes.Rect.{Rect}
use Rattle.view_words.specs.Numbers.{IsSmall, IsSmallRect, pair_text}
use Rattle.view_words.specs.Steps.{step_row, step_text, step_to, upper_right}
use Rattle.view_words.specs.Words.{word}
use Rattle.view_netlist.specs.Kinds.{Class, class_name}
use Rattle.view_netlist.specs.Rows.{place_text}
use Rattle.view_netlist.specs.declared.drawing.DevicePlace.{DevicePlace}
use Rattle.view_netlist.specs.declared.drawing.Drawing.{Drawing}
use Rattle.view_netlist.specs.declared.drawing.Shape.{Shape}

-- the rectangles by net, the places by device and the motions by call; nothing of one past the last
pub record Drawn : Type 0 where
  pub hull : Option Rect
  pub nets : List (List Shape)
  pub devices : List DevicePlace
  pub calls : List Motion

abbrev pub plain_drawing : Drawing → Drawn
plain_drawing d = record {
  hull = d.hull;
  nets = map (λ shapes. shapes.items) d.nets.items;
  devices = d.devices.items;
  calls = d.calls.items;
}

abbrev pub blank : Drawn
blank = record { hull = None; nets = []; devices = []; calls = [] }

-- what is drawn of the circuit of a number, where anything is
abbrev pub drawn_of : List Drawing → ℕ → Drawn
drawn_of ds k = get_or (map plain_drawing ds) k blank

-- all rectangles reach less than 2^30 from the origin
abbrev pub AreSmallShapes : List Shape → Type 0
AreSmallShapes shapes = All (λ s. IsSmallRect s.rect) shapes

-- both coordinates of a point, both parts of a motion's shift, are less than 2^30 from the origin
pub record IsSmallPoint (p : Point) : Type 0 where
  pub x : IsSmall p.x
  pub y : IsSmall p.y

pub record IsSmallShift (m : Motion) : Type 0 where
  pub dx : IsSmall m.dx
  pub dy : IsSmall m.dy

abbrev pub AreSmallPlaces : List DevicePlace → Type 0
AreSmallPlaces places = All (λ p. IsSmallPoint p.at) places

pub record IsSmallDrawing (d : Drawn) : Type 0 where
  pub hull : IfSome d.hull IsSmallRect
  pub nets : All AreSmallShapes d.nets
  pub devices : AreSmallPlaces d.devices
  pub calls : All IsSmallShift d.calls

-- each of the drawings is small
abbrev pub AreAllSmall : List Drawing → Type 0
AreAllSmall drawings = All (λ d. IsSmallDrawing (plain_drawing d)) drawings

abbrev pub origin : Point
origin = record { x = pos 0; y = pos 0 }

-- a circuit's box `R((X Y) (W H))`
abbrev pub hull_text : Option Rect → List ℕ
hull_text None = []
hull_text (Some r) = codes "\n  R(" ++ (step_text (step_to origin r) ++ codes ")")

-- a net's rectangles, each by the step from the one before, whatever its layer
abbrev pub shape_rows : List (List ℕ) → Point → List Shape → List ℕ
shape_rows layers p [] = []
shape_rows layers p (s ∷ shapes) = step_row (get_or layers s.layer []) (step_to p s.rect)
    ++ shape_rows layers (upper_right s.rect) shapes

-- a region of devices by its number: `D$K`
abbrev pub region_name : ℕ → List ℕ
region_name k = codes "D$" ++ place_text k

-- a device's region and place, or its class where it has none
abbrev pub kind_text : Class → Option DevicePlace → List ℕ
kind_text class None = word (class_name class)
kind_text class (Some p) = region_name p.region ++ (codes " Y" ++ pair_text p.at.x p.at.y)

-- mirrored at the x axis, turned counterclockwise by so many degrees
abbrev pub turn_text : Turn → List ℕ
turn_text R0 = []
turn_text R90 = codes " O(90)"
turn_text R180 = codes " O(180)"
turn_text R270 = codes " O(270)"
turn_text M0 = codes " M"
turn_text M90 = codes " M O(90)"
turn_text M180 = codes " M O(180)"
turn_text M270 = codes " M O(270)"

-- then moved: `Y(X Y)`
abbrev pub motion_text : Option Motion → List ℕ
motion_text None = []
motion_text (Some m) = turn_text m.turn ++ (codes " Y" ++ pair_text m.dx m.dy)
