-- What lies over a cell from elsewhere on the input layers, and what it leaves for the names of the
-- rules.
use Rattle.std.specs.Prelude.{◌≡◌, ℕ, List, [], ◌∷◌, ◌++◌, map, length, Option, Some, get_or}
use Rattle.std.specs.Prelude.{slice_get}
use Rattle.geo_base.specs.declared.layer.LayerKey.{LayerKey}
use Rattle.geo_base.specs.declared.shapes.Rect.{Rect}
use Rattle.flat_layout.specs.Layers.{Formula, Input, Empty, inputs}
use Rattle.cell_graph.specs.Linked.{Linked}
use Rattle.rule_text.specs.declared.rules.LayerForm.{LayerForm}
use Rattle.rule_text.specs.declared.rules.LayerForm.TheVariants as form
use Rattle.rule_text.specs.declared.rules.MosRule.{MosRule}
use Rattle.rule_text.specs.declared.rules.MoreRule.{MoreRule}
use Rattle.rule_text.specs.declared.rules.MoreRule.TheVariants as more
use Rattle.rule_text.specs.Rules.{Rules}
use Rattle.deep_tables.specs.declared.zones.CellZones.{CellZones}
use Rattle.deep_tables.specs.Frames.{IsFramedZone, IsFramedOpen}
use Rattle.zone_phase.specs.declared.uses.Use.{Use}
use Rattle.zone_phase.specs.Jobs.{HaveEntries}

-- P holds of the set where the form is an input layer
abbrev pub ForInput : (LayerKey → List Rect → Type 0) → LayerForm → List Rect → Type 0
ForInput P (form.Input key) v = P key v
ForInput P _ v = Unit {0}

-- each name has a set, and so of those that are input layers, by their trees
pub record ForInputs (P : LayerKey → List Rect → Type 0) (trees : List Formula)
    (sets : List (List Rect)) : Type 0 where
  pub count : length sets ≡ length trees
  pub each : (k : ℕ) (key : LayerKey) → slice_get trees k ≡ Some (Input key)
      → P key (get_or sets k [])

-- what lies over the cell on an input layer, in the hull grown by n
abbrev pub IsFormZone : ℕ → Linked → ℕ → LayerForm → List Rect → Type 0
IsFormZone n d cell = ForInput (λ key. IsFramedZone n d (key ∷ []) cell)

abbrev pub AreInputZones : ℕ → Linked → ℕ → List Formula → List (List Rect) → Type 0
AreInputZones n d cell = ForInputs (λ key. IsFramedZone n d (key ∷ []) cell)

-- what of it the cell leaves
abbrev pub IsFormOpen : ℕ → Linked → ℕ → LayerForm → List Rect → Type 0
IsFormOpen n d cell = ForInput (λ key. IsFramedOpen n d (key ∷ []) cell)

abbrev pub AreInputOpens : ℕ → Linked → ℕ → List Formula → List (List Rect) → Type 0
AreInputOpens n d cell = ForInputs (λ key. IsFramedOpen n d (key ∷ []) cell)

-- the set of an input layer is the one that is given
abbrev pub IsFormKept : LayerForm → List Rect → List Rect → Type 0
IsFormKept f given = ForInput (λ key v. v ≡ given) f

abbrev pub AreInputsKept : List Formula → List (List Rect) → List (List Rect) → Type 0
AreInputsKept trees given sets = (k : ℕ) (key : LayerKey) → slice_get trees k ≡ Some (Input key)
    → get_or sets k [] ≡ get_or given k []

-- each tree's set is what the cell leaves for what it reads, in the hull grown by n; past the end
-- both are empty
abbrev pub AreNameOpens : ℕ → Linked → ℕ → List Formula → List (List Rect) → Type 0
AreNameOpens n d cell trees sets = (k : ℕ)
    → IsFramedOpen n d (inputs (get_or trees k Empty)) cell (get_or sets k [])

-- where the name is an input layer, the entries of the references' jobs have its squares
abbrev pub HaveForm : ℕ → Linked → (ℕ → Option CellZones) → ℕ → List Use → LayerForm → Type 0
HaveForm n d value name uses (form.Input key) = HaveEntries n d value key name uses
HaveForm n d value name uses _ = Unit {0}

-- the same of all input layers
abbrev pub HaveInputs : ℕ → Linked → (ℕ → Option CellZones) → List Formula → List Use → Type 0
HaveInputs n d value trees uses = (name : ℕ) (key : LayerKey)
    → slice_get trees name ≡ Some (Input key)
    → HaveEntries n d value key name uses

-- the names of a device rule's layers: six of a transistor's, five of a resistor's, four of a
-- diode's
abbrev pub mos_names : MosRule → List ℕ
mos_names m = m.sd ∷ m.g ∷ m.w ∷ m.ts ∷ m.tg ∷ m.tb ∷ []

abbrev pub further_names : MoreRule → List ℕ
further_names (more.Resistor class n c w ta tw) = c ∷ n ∷ w ∷ ta ∷ tw ∷ []
further_names (more.Diode class p n ta tc) = p ∷ n ∷ ta ∷ tc ∷ []

-- those of all device rules: of transistors, then of the others
abbrev pub device_names : Rules → List (List ℕ)
device_names r = map mos_names r.devices ++ map further_names r.more

-- the input layers that some names read
abbrev pub names_inputs : List Formula → List ℕ → List LayerKey
names_inputs trees [] = []
names_inputs trees (k ∷ ks) = inputs (get_or trees k Empty) ++ names_inputs trees ks

-- for each list of names the set is what the cell leaves for what they read
pub record AreDeviceOpens (n : ℕ) (d : Linked) (cell : ℕ) (trees : List Formula)
    (lists : List (List ℕ)) (sets : List (List Rect)) : Type 0 where
  pub count : length sets ≡ length lists
  pub opens : (k : ℕ) (names : List ℕ) (set : List Rect) → slice_get lists k ≡ Some names
      → slice_get sets k ≡ Some set → IsFramedOpen n d (names_inputs trees names) cell set
