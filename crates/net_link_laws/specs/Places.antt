-- Where the items of a cell stand in their list.
use Rattle.std.specs.Prelude.{◌≡◌, ℕ, zero, suc, ◌+◌, ◌<◌, List, [], ◌∷◌, Some, slice_get, get_or}
use Rattle.std.specs.Prelude.{length}
use Rattle.flat_layout.specs.Layout.{Design, Place}
use Rattle.flat_layout.specs.Nets.{Own, Child, Global, Tables, items_of, no_cell}
use Rattle.flat_layout.specs.Regions.{Wiring}

-- how many rectangles the first conductors have
abbrev pub owned_before : Tables → ℕ → ℕ → ℕ
owned_before t cell zero = 0
owned_before t cell (suc c) = owned_before t cell c + length (t.own cell c)

-- how many nets the cells of the first placements have
abbrev pub nets_before : Tables → List Place → ℕ → ℕ
nets_before t [] k = 0
nets_before t (p ∷ ps) zero = 0
nets_before t (p ∷ ps) (suc k) = (t.nets p.cell).count + nets_before t ps k

abbrev pub places_of : Design → ℕ → List Place
places_of d cell = (get_or d.cells cell no_cell).places

abbrev pub OwnPlaceLaw : Type 0
OwnPlaceLaw = (d : Design) (w : Wiring) (t : Tables) (cell c r : ℕ) → c < length w.conductors
    → r < length (t.own cell c) → slice_get (items_of d w t cell) (owned_before t cell c + r)
    ≡ Some (Own c r)

abbrev pub ChildPlaceLaw : Type 0
ChildPlaceLaw = (d : Design) (w : Wiring) (t : Tables) (cell k b : ℕ) (p : Place)
    → slice_get (places_of d cell) k ≡ Some p → b < (t.nets p.cell).count
    → slice_get (items_of d w t cell) (owned_before t cell (length w.conductors)
    + (nets_before t (places_of d cell) k + b)) ≡ Some (Child k b)

abbrev pub GlobalPlaceLaw : Type 0
GlobalPlaceLaw = (d : Design) (w : Wiring) (t : Tables) (cell g : ℕ) → g < length w.globals
    → slice_get (items_of d w t cell) (owned_before t cell (length w.conductors)
    + (nets_before t (places_of d cell) (length (places_of d cell)) + g)) ≡ Some (Global g)

abbrev pub OwnNextLaw : Type 0
OwnNextLaw = (t : Tables) (cell c : ℕ)
    → owned_before t cell (c + 1) ≡ owned_before t cell c + length (t.own cell c)

abbrev pub ChildNextLaw : Type 0
ChildNextLaw = (t : Tables) (places : List Place) (k : ℕ) (p : Place) → slice_get places k ≡ Some p
    → nets_before t places (k + 1) ≡ nets_before t places k + (t.nets p.cell).count
