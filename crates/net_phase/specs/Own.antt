-- The rectangles that cells hold themselves, by conductor.
use Rattle.std.specs.Prelude.{◌≡◌, ◌⊎◌, ℕ, List, [], get_or, map}
use Rattle.std.specs.Borrow.{Bor}
use Rattle.std.specs.Global.{Vec}
use Rattle.geo_base.specs.declared.shapes.Rect.{Rect}
use Rattle.flat_layout.specs.Layout.{IsReached}
use Rattle.flat_layout.specs.Regions.{formula}
use Rattle.flat_layout.specs.Values.{IsLocalLayer}
use Rattle.cell_graph.specs.Linked.{Linked, plain}
use Rattle.rule_text.specs.Rules.{Rules}
use Rattle.rule_layers.specs.Meaning.{wiring_of}

abbrev pub rects_of : List (Bor (List Rect)) → List (List Rect)
rects_of own = map (λ r. r.now) own

abbrev pub rect_lists : List (Vec (Bor (List Rect))) → List (List (List Rect))
rect_lists all = map (λ v. rects_of v.items) all

-- a cell's rectangles of a conductor; past the last cell or conductor there are none
abbrev pub own_at : List (List (List Rect)) → ℕ → ℕ → List Rect
own_at all cell c = get_or (get_or all cell []) c []

-- each reached cell has what it holds itself, and others have nothing
pub record AreOwnLists (d : Linked) (r : Rules) (all : List (List (List Rect))) : Type 0 where
  pub reached : (cell c : ℕ) → IsReached (plain d) cell
      → IsLocalLayer (plain d) (formula (wiring_of r) c) cell (own_at all cell c)
  pub others : (cell c : ℕ) → IsReached (plain d) cell ⊎ (own_at all cell c ≡ [])
