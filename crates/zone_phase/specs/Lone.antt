-- The squares that others may make of names without the cell.
use Rattle.std.specs.Prelude.{◌≡◌, ℕ, ◌+◌, ◌≤◌, ◌^◌, List, [], ◌∷◌, ◌++◌, Some, length}
use Rattle.std.specs.Prelude.{map, get_or, slice_get}
use Rattle.geo_base.specs.declared.layer.Op.TheVariants.{And}
use Rattle.geo_base.specs.declared.shapes.Rect.{Rect}
use Rattle.flat_layout.specs.Layers.{Formula, Binary, Empty, reach}
use Rattle.flat_layout.specs.Values.{IsLoneZone, IsZone}
use Rattle.cell_graph.specs.Linked.{Linked, plain}
use Rattle.rule_text.specs.Rules.{Rules}
use Rattle.rule_text.specs.declared.rules.LayerForm.{LayerForm}
use Rattle.rule_text.specs.declared.rules.MosRule.{MosRule}
use Rattle.rule_text.specs.declared.rules.MoreRule.{MoreRule}
use Rattle.rule_text.specs.declared.rules.MoreRule.TheVariants as more
use Rattle.sized_layers.specs.Sizes.{IsSetWithin}
use Rattle.zone_phase.specs.Names.{ForInput}

-- over what lies over the cell in the hull grown by n the set is right as far round, less what the
-- name reaches, and near
pub record IsLoneIn (n : ℕ) (d : Linked) (cell : ℕ) (name : Formula) (set : List Rect) : Type 0
  where
    pub right : (m : ℕ) → m + reach name ≤ n → IsLoneZone (plain d) name m cell set
    pub range : IsSetWithin (2 ^ 37 + reach name) set

-- the same of each name; past the end both are empty
abbrev pub AreLones : ℕ → Linked → ℕ → List Formula → List (List Rect) → Type 0
AreLones n d cell trees sets = (k : ℕ) → IsLoneIn n d cell (get_or trees k Empty) (get_or sets k [])

-- what lies over the cell on an input layer, near
abbrev pub IsNearZone : ℕ → Linked → ℕ → LayerForm → List Rect → Type 0
IsNearZone n d cell = ForInput (λ key v. IsZone (plain d) (key ∷ []) n cell v
    × IsSetWithin (2 ^ 37) v)

-- the layers of device rules' regions, over the trees of the names
abbrev pub mos_region : List Formula → MosRule → Formula
mos_region trees m = get_or trees m.g Empty

abbrev pub further_region : List Formula → MoreRule → Formula
further_region trees (more.Resistor class n c w ta tw) = get_or trees n Empty
further_region trees (more.Diode class p n ta tc) =
    Binary And (get_or trees p Empty) (get_or trees n Empty)

-- those of all device rules: of transistors, then of the others
abbrev pub device_regions : List Formula → Rules → List Formula
device_regions trees r = map (mos_region trees) r.devices ++ map (further_region trees) r.more

-- for each of these layers the set is what others may make of it
pub record AreRegionLones (n : ℕ) (d : Linked) (cell : ℕ) (regions : List Formula)
    (sets : List (List Rect)) : Type 0 where
  pub count : length sets ≡ length regions
  pub lone : (k : ℕ) (x : Formula) (set : List Rect) → slice_get regions k ≡ Some x
      → slice_get sets k ≡ Some set → IsLoneIn n d cell x set
