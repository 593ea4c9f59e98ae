-- What cells hold of selections, as sets by their numbers.
use Rattle.std.specs.Prelude.{◌≡◌, ◌↔◌, ℕ, ◌<◌, List, [], Some, get_or, length, slice_get, true}
use Rattle.flat_layout.specs.Layers.{Formula}
use Rattle.flat_layout.specs.Layout.{Design, IsReached}
use Rattle.geo_base.specs.declared.shapes.Rect.{Rect}
use Rattle.geo_base.specs.declared.shapes.Square.{Square}
use Rattle.rect_sets.specs.Rects.{covers}
use Rattle.rule_stages.specs.Selections.{select_of}
use Rattle.rule_text.specs.declared.rules.SelectRule.{SelectRule}
use Rattle.select_laws.specs.Layered.{IsOwnSelected}
use Rattle.select_laws.specs.Selects.{Select, sight}
use Rattle.select_laws.specs.Whole.{ArePartedRegions}

-- each reached cell's set has what the cell holds of the selection, all others none
pub record AreChosen (d : Design) (x : Select) (sets : List (List Rect)) : Type 0 where
  pub each : (cell : ℕ) → IsReached d cell → (q : Square)
      → (covers (get_or sets cell []) q ≡ true) ↔ IsOwnSelected d x cell q
  pub none : (cell : ℕ) → (IsReached d cell → ⊥) → get_or sets cell [] ≡ []
  pub parted : ArePartedRegions d x.joint (sight x)

-- such sets of the first n selections
pub record AreChosenTo (d : Design) (trees : List Formula) (selected : List SelectRule) (n : ℕ)
    (lists : List (List (List Rect))) : Type 0 where
  pub count : length lists ≡ n
  pub each : (k : ℕ) (s : SelectRule) → k < n → slice_get selected k ≡ Some s
      → AreChosen d (select_of trees s) (get_or lists k [])
