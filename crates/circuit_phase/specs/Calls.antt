-- The calls of the circuits of placed cells, one after the other.
use Rattle.std.specs.Prelude.{◌≡◌, ◌⊎◌, ◌↔◌, ℕ, suc, ◌+◌, ◌<◌, Bool, true}
use Rattle.std.specs.Prelude.{false, List, [], ◌∷◌}
use Rattle.std.specs.Prelude.{◌++◌, Some, map, flat_map, length, get_or, slice_get}
use Rattle.geo_base.specs.declared.shapes.Rect.{Rect}
use Rattle.flat_layout.specs.Circuits.{IsCallOf, IsCircuitCell}
use Rattle.flat_layout.specs.Layout.{Design, Place, IsPlaced}
use Rattle.flat_layout.specs.Nets.{CellNets, Child, Global, Item, Own}
use Rattle.flat_layout.specs.Pins.{CellPins}
use Rattle.plain_netlist.specs.Lists.{AreRising, IsListed}
use Rattle.plain_netlist.specs.Netlist.{CallRow}
use Rattle.plain_netlist.specs.Normal.{AreNumbered}
use Rattle.circuit_phase.specs.Numbering.{AreKept, AreNumbersOf}
use Rattle.circuit_phase.specs.Placed.{tables_with}

abbrev pub is_own : Item → Bool
is_own (Own c r) = true
is_own (Child k b) = false
is_own (Global g) = false

-- how many of the first items are rectangles of the cell itself
abbrev pub own_count : List Item → ℕ
own_count [] = 0
own_count (Own c r ∷ items) = suc (own_count items)
own_count (Child k b ∷ items) = 0
own_count (Global g ∷ items) = 0

-- a placed cell has a circuit, and its call was added: at its pins the nets that stand at their
-- places from start on
pub record HasCall (circuits : List ℕ) (child : ℕ) (pins net_of : List ℕ) (start : ℕ)
    (old new : List ℕ) (before after : List CallRow) : Type 0 where
  pub row : CallRow
  pub circuit : IsCircuitCell circuits row.circuit child
  pub nets : AreNumbersOf old new (map (λ b. get_or net_of (start + b) 0) pins) row.nets
  pub last : after ≡ before ++ row ∷ []

-- it has none, and nothing was added
pub record HasNoCall (circuits : List ℕ) (child : ℕ) (old new : List ℕ)
    (before after : List CallRow) : Type 0 where
  pub none : IsListed child circuits → ⊥
  pub nets : new ≡ old
  pub same : after ≡ before

abbrev pub AddsCall : List ℕ → ℕ → List ℕ → List ℕ → ℕ → List ℕ → List ℕ → List CallRow
    → List CallRow → Type 0
AddsCall circuits child pins net_of start old new before after =
    HasCall circuits child pins net_of start old new before after
    ⊎ HasNoCall circuits child old new before after

-- the calls of the first n placements of a cell, over nets that were numbered on
pub record AreCallsTo (d : Design) (nets : ℕ → CellNets) (pins : ℕ → CellPins)
    (drawn : ℕ → List Bool) (circuits : List ℕ) (cell n : ℕ) (old new : List ℕ)
    (rows : List CallRow) : Type 0 where
  pub calls : List ℕ
  pub placements : (k : ℕ) → IsListed k calls
      ↔ ((k < n) × (p : Place) × IsPlaced d cell k p × IsListed p.cell circuits)
  pub rising : AreRising ◌<◌ calls
  pub count : length rows ≡ length calls
  pub each : (own : ℕ → ℕ → List Rect) (a k : ℕ) (p : Place) (row : CallRow)
      → slice_get calls a ≡ Some k → IsPlaced d cell k p → slice_get rows a ≡ Some row
      → IsCallOf (tables_with own nets) pins drawn circuits cell k p new row
  pub kept : AreKept old new
  pub numbered : AreNumbered (length new) (length old) (flat_map (λ (r : CallRow). r.nets) rows)
