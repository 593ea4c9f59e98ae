-- The placements of each cell, one by one.
use Rattle.std.specs.Prelude.{◌≡◌, ◌<◌, ℕ, List, [], get_or, length, map, ◌*◌}
use Rattle.std.specs.List.{sum_by}
use Rattle.std.specs.Global.{Vec}
use Rattle.cell_graph.specs.Linked.{Linked, plain}
use Rattle.cell_graph.specs.declared.cells.Place.{Place}
use Rattle.net_link_laws.specs.Places.{places_of}
use Rattle.net_walk.specs.Walk.{AreClose, place_of}
use Rattle.net_walk.specs.declared.cells.Element.{Element}

-- how many placements references bring
abbrev pub placed_by : List Place → ℕ
placed_by places = sum_by (λ p. p.rows * p.columns) places

-- these are the cell's placements
pub record AreElements (d : Linked) (cell : ℕ) (elements : List Element) : Type 0 where
  pub all : map place_of elements ≡ places_of (plain d) cell
  pub close : AreClose elements
  pub few : length elements < 4294967296

abbrev pub element_lists : List (Vec Element) → List (List Element)
element_lists vs = map (λ v. v.items) vs

-- of each cell; past the last there are none
abbrev pub AreAllElements : Linked → List (List Element) → Type 0
AreAllElements d all = (cell : ℕ) → AreElements d cell (get_or all cell [])
