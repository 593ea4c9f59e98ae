-- What holds of each sound design.
use Rattle.std.specs.Prelude.{◌≡◌, ◌↔◌, ℕ, ◌^◌, List, true}
use Rattle.geo_base.specs.Near.{IsWithin}
use Rattle.geo_base.specs.declared.layer.LayerKey.{LayerKey}
use Rattle.geo_base.specs.declared.shapes.Square.{Square}
use Rattle.rect_sets.specs.Rects.{covers}
use Rattle.flat_layout.specs.Layout.{IsOwn, InFlatInput, IsHeight, Takes}
use Rattle.flat_layout.specs.Order.{AreLevels, IsOrder}
use Rattle.cell_graph.specs.Linked.{Linked, IsSound, plain, cell_at, own_of, hull_of, HullHas}
use Rattle.cell_graph.specs.Linked.{height_at}

-- own squares are those of the own rectangles
abbrev pub OwnLaw : Type 0
OwnLaw = (d : Linked) → IsSound d → (cell : ℕ) (key : LayerKey) (q : Square)
    → IsOwn (plain d) cell key q ↔ (covers (own_of (cell_at d cell) key) q ≡ true)

-- no cell stands below itself
abbrev pub HeightLaw : Type 0
HeightLaw = (d : Linked) → IsSound d → IsHeight (plain d) (height_at d)

-- a cell's height is its level
abbrev pub LevelLaw : Type 0
LevelLaw = (d : Linked) → IsSound d → AreLevels (plain d) (height_at d)

-- the order of a design is that of the plain layout
abbrev pub OrderLaw : Type 0
OrderLaw = (d : Linked) → IsSound d → IsOrder (plain d) (height_at d) d.order

-- flat squares lie in the hull
abbrev pub HullLaw : Type 0
HullLaw = (d : Linked) → IsSound d → (cell : ℕ) (key : LayerKey) (q : Square)
    → InFlatInput (plain d) cell key q → HullHas (hull_of (cell_at d cell)) q

-- a square of a cell's hull, seen from a cell below it, lies within plus or minus 2^37
abbrev pub SeenLaw : Type 0
SeenLaw = (d : Linked) → IsSound d → (cell end : ℕ) (path : List ℕ) (s q : Square)
    → HullHas (hull_of (cell_at d cell)) q → Takes (plain d) cell path end s q
    → IsWithin (2 ^ 37) s.x × IsWithin (2 ^ 37) s.y
