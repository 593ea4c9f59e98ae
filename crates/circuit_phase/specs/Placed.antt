-- Drawn pins of placed cells, as tests.
use Rattle.std.specs.Prelude.{ℕ, ◌<◌, Bool, false, ◌==◌, ◌&&◌, ◌||◌, List, [], ◌∷◌, get_or, length}
use Rattle.std.specs.Prelude.{map, Option, None, Some}
use Rattle.geo_base.specs.declared.shapes.Rect.{Rect}
use Rattle.flat_layout.specs.Circuits.{IsCircuitCell}
use Rattle.flat_layout.specs.Layout.{Design}
use Rattle.flat_layout.specs.Nets.{AreNets, CellNets, Item, Own, Child, Global, Tables, no_cell}
use Rattle.flat_layout.specs.Pins.{CellPins}
use Rattle.flat_layout.specs.Regions.{Wiring}
use Rattle.plain_netlist.specs.Lists.{IsListed}

abbrev pub is_drawn_pin : (ℕ → CellPins) → (ℕ → List Bool) → ℕ → ℕ → Bool
is_drawn_pin pins drawn cell net =
    get_or (pins cell).pins net false && get_or (drawn cell) net false

-- the item is a drawn pin of a placed cell; of each placement its cell
abbrev pub is_child_marked : (ℕ → CellPins) → (ℕ → List Bool) → List ℕ → Item → Bool
is_child_marked pins drawn cells (Own c r) = false
is_child_marked pins drawn cells (Child k b) = is_drawn_pin pins drawn (get_or cells k 0) b
is_child_marked pins drawn cells (Global g) = false

-- it may be asked of the item
abbrev pub AreReadable : (ℕ → Type 0) → List ℕ → Item → Type 0
AreReadable may cells (Own c r) = Unit {0}
AreReadable may cells (Child k b) = (k < length cells) × may (get_or cells k 0)
AreReadable may cells (Global g) = Unit {0}

-- these nets, over rectangles of the cells themselves
abbrev pub tables_with : (ℕ → ℕ → List Rect) → (ℕ → CellNets) → Tables
tables_with own nets = record { own = own; nets = nets }

-- the nets of a cell are right over some rectangles of the cells themselves
abbrev pub AreNetsOver : Design → Wiring → (ℕ → CellNets) → ℕ → CellNets → Type 0
AreNetsOver d w nets cell v =
    (own : ℕ → ℕ → List Rect) × AreNets d w (tables_with own nets) cell v

-- the number of a cell's circuit among those of these cells, none where it has no circuit
abbrev pub IsNumberOf : List ℕ → ℕ → Option ℕ → Type 0
IsNumberOf cells cell None = IsListed cell cells → ⊥
IsNumberOf cells cell (Some n) = IsCircuitCell cells n cell

-- some item of the net has a property
abbrev pub is_marked_by : (Item → Bool) → List Item → List ℕ → ℕ → Bool
is_marked_by test [] nets x = false
is_marked_by test (i ∷ items) [] x = false
is_marked_by test (i ∷ items) (n ∷ nets) x =
    (test i && (x == n)) || is_marked_by test items nets x

-- the cell of each placement
abbrev pub placed_cells : Design → ℕ → List ℕ
placed_cells d cell = map (λ p. p.cell) (get_or d.cells cell no_cell).places
