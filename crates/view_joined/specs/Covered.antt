-- What the rectangles of an aligned circuit's nets cover.
use Rattle.std.specs.Prelude.{◌≡◌, ◌↔◌, ◌<◌, ℕ, true, List, [], Option, Some, None, get_or, slice_get}
use Rattle.std.specs.Prelude.{slice_index_or}
use Rattle.geo_base.specs.Motions.{moved_square}
use Rattle.geo_base.specs.Rects.{IsRect, has}
use Rattle.geo_base.specs.declared.motion.Motion.{Motion}
use Rattle.geo_base.specs.declared.shapes.Square.{Square}
use Rattle.part_origins.specs.Inside.{PlainSpot}
use Rattle.plain_netlist.specs.Lists.{IsListed}
use Rattle.view_netlist.specs.Drawing.{drawn_of}
use Rattle.view_netlist.specs.declared.drawing.Drawing.{Drawing}
use Rattle.view_netlist.specs.declared.drawing.Shape.{Shape}
use Rattle.view_joined.specs.Nets.{AreJoined}
use Rattle.view_joined.specs.Spots.{still}

-- the shapes of a layer cover the square
abbrev pub IsCovered : List Shape → ℕ → Square → Type 0
IsCovered shapes layer q =
    (s : Shape) × IsListed s shapes × (s.layer ≡ layer) × (has s.rect q ≡ true)

-- what is drawn of a net of a circuit
abbrev pub net_of : List Drawing → ℕ → ℕ → List Shape
net_of drawings circuit net = get_or (drawn_of drawings circuit).nets net []

-- each rectangle that is drawn has a square
abbrev pub AreProper : List Drawing → Type 0
AreProper drawings = (circuit net : ℕ) (s : Shape) → IsListed s (net_of drawings circuit net)
    → IsRect s.rect

-- a net of a circuit inside that is the aligned circuit's net q covers a square that is moved to r
abbrev pub IsCoveredInside : List PlainSpot → List Motion → List Drawing → List (Option ℕ) → ℕ → ℕ
    → Square → Type 0
IsCoveredInside spots motions drawings numbers q layer r = (i : ℕ) × (of : PlainSpot) × (net : ℕ)
    × (flat : ℕ) × (slice_get spots i ≡ Some of) × (slice_get of.nets net ≡ Some flat)
    × (slice_index_or numbers flat None ≡ Some q) × (s : Square)
    × IsCovered (net_of drawings of.circuit net) layer s
    × (moved_square (get_or motions i still) s ≡ r)

-- each net covers exactly the moved squares of all nets inside that are it
abbrev pub CoverLaw : Type 0
CoverLaw = (spots : List PlainSpot) (motions : List Motion) (drawings : List Drawing)
    (numbers : List (Option ℕ)) (count : ℕ) (lists : List (List Shape))
    → AreJoined spots motions drawings numbers count lists → AreProper drawings
    → (q layer : ℕ) (r : Square) → q < count
    → IsCovered (get_or lists q []) layer r
    ↔ IsCoveredInside spots motions drawings numbers q layer r
