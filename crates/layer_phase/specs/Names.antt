-- What a cell has of the rules' names: flat squares among those looked at, and squares that it
-- holds itself.
use Rattle.std.specs.Prelude.{◌≡◌, ◌↔◌, ℕ, ◌+◌, ◌<◌, ◌^◌, true, List, [], Option, Some, length}
use Rattle.std.specs.Prelude.{get_or, slice_get}
use Rattle.geo_base.specs.declared.shapes.Rect.{Rect}
use Rattle.geo_base.specs.declared.shapes.Square.{Square}
use Rattle.rect_sets.specs.Rects.{covers}
use Rattle.flat_layout.specs.Layers.{Formula, Empty, InFlat, reach}
use Rattle.flat_layout.specs.Plane.{IsHeldBy}
use Rattle.flat_layout.specs.Layout.{IsReached}
use Rattle.flat_layout.specs.Values.{IsLocalLayer}
use Rattle.cell_graph.specs.Linked.{Linked, plain}
use Rattle.rule_text.specs.Rules.{Rules}
use Rattle.rule_text.specs.Sound.{IsSound}
use Rattle.deep_tables.specs.declared.zones.CellZones.{CellZones}
use Rattle.deep_tables.specs.Frames.{HasHulls}
use Rattle.deep_tables.specs.Zones.{AreZones}
use Rattle.sized_layers.specs.Sizes.{IsSetWithin}
use Rattle.cell_context.specs.Placed.{Grows}

-- the tree's flat squares, exactly wherever all squares within its reach are among those gathered;
-- where it doesn't reach further than its squares, no others; and none further out than its reach
pub record IsFlatIn (d : Linked) (cell : ℕ) (places : List Rect) (x : Formula) (set : List Rect) :
    Type 0 where
  pub right : (q : Square) → IsHeldBy (reach x) (λ s. covers places s ≡ true) q
      → (covers set q ≡ true) ↔ InFlat (plain d) cell x q
  pub inside : reach x ≡ 0 → Grows set places
  pub range : (m : ℕ) → IsSetWithin m places → IsSetWithin (m + reach x) set

-- the same of each tree; past the end both are empty
abbrev pub AreFlats : Linked → ℕ → List Rect → List Formula → List (List Rect) → Type 0
AreFlats d cell looks trees sets = (k : ℕ)
    → IsFlatIn d cell looks (get_or trees k Empty) (get_or sets k [])

-- the squares that the cell holds itself of each tree
abbrev pub AreLocals : Linked → ℕ → List Formula → List (List Rect) → Type 0
AreLocals d cell trees sets = (k : ℕ) (x : Formula) (set : List Rect)
    → slice_get trees k ≡ Some x → slice_get sets k ≡ Some set
    → IsLocalLayer (plain d) x cell set

-- sound rules, a reached cell of a layout with its hulls, and what its cells leave for the rules
pub record IsReady (d : Linked) (r : Rules) (z : List (Option CellZones)) (cell : ℕ) : Type 0 where
  pub rules : IsSound r
  pub hulls : HasHulls d
  pub zones : AreZones (plain d) r z
  pub few : length r.names < 2 ^ 32
  pub reached : IsReached (plain d) cell
