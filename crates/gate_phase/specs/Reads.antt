-- The input layers that a device rule reads, as marks on the names of the rules.
use Rattle.std.specs.Prelude.{◌≡◌, ◌⊎◌, ℕ, ◌<◌, true, Bool, List, Option, Some, None, ◌++◌, length}
use Rattle.std.specs.Prelude.{get_or, slice_get}
use Rattle.geo_base.specs.declared.layer.LayerKey.{LayerKey}
use Rattle.flat_layout.specs.Layers.{Formula, Empty, inputs}
use Rattle.flat_layout.specs.Layout.{Some_of}
use Rattle.rule_text.specs.declared.rules.LayerForm.{LayerForm}
use Rattle.rule_text.specs.declared.rules.LayerForm.TheVariants as form
use Rattle.rule_text.specs.declared.rules.LayerRule.{LayerRule}
use Rattle.rule_layers.specs.Formulas.{formulas}
use Rattle.gate_phase.specs.Devices.{layer_in, region_of}
use Rattle.gate_phase.specs.declared.device.Device.{Device}
use Rattle.gate_phase.specs.declared.device.Region.{Region}
use Rattle.gate_phase.specs.declared.device.Region.TheVariants.{One, Both}

abbrev pub IsMarked : List Bool → ℕ → Type 0
IsMarked marks i = slice_get marks i ≡ Some true

-- those of P are marked too
pub record MarksMore (P : ℕ → Type 0) (old new : List Bool) : Type 0 where
  pub count : length new ≡ length old
  pub stay : (i : ℕ) → IsMarked old i → IsMarked new i
  pub here : (i : ℕ) → P i → IsMarked new i
  pub fresh : (i : ℕ) → IsMarked new i → IsMarked old i ⊎ P i

-- the form reads the name of this number
abbrev pub IsReadBy : LayerForm → ℕ → Type 0
IsReadBy (form.Binary op a b) i = (i ≡ a) ⊎ (i ≡ b)
IsReadBy (form.Sized a by) i = i ≡ a
IsReadBy _ i = ⊥

-- of each marked name from this one on, what it reads before itself is marked
abbrev pub AreClosed : List LayerRule → ℕ → List Bool → Type 0
AreClosed names from marks = (j k : ℕ) (rule : LayerRule) → IsMarked marks j
    → slice_get names j ≡ Some rule → IsReadBy rule.form k → k < j → (j < from → ⊥)
    → IsMarked marks k

-- the name is a layer of a device rule
abbrev pub IsOfRegion : Region → ℕ → Type 0
IsOfRegion (One a) i = i ≡ a
IsOfRegion (Both a b) i = (i ≡ a) ⊎ (i ≡ b)

abbrev pub IsOfSome : Option ℕ → ℕ → Type 0
IsOfSome None i = ⊥
IsOfSome (Some a) i = i ≡ a

abbrev pub IsOfDevice : Device → ℕ → Type 0
IsOfDevice x i = IsOfSome x.ends i ⊎ (IsOfRegion x.region i ⊎ (IsOfSome x.well i ⊎ ((i ≡ x.ts)
    ⊎ ((i ≡ x.tg) ⊎ (i ≡ x.tb)))))

-- the input layers that the layers of a device rule read
abbrev pub device_keys : List Formula → Device → List LayerKey
device_keys trees x =
    inputs (layer_in trees x.ends) ++ (inputs (region_of trees x.region)
    ++ (inputs (layer_in trees x.well) ++ (inputs (get_or trees x.ts Empty)
    ++ (inputs (get_or trees x.tg Empty) ++ inputs (get_or trees x.tb Empty)))))

-- the name is this input layer, and marked
abbrev pub IsMarkedInput : List LayerRule → List Bool → ℕ → LayerKey → Type 0
IsMarkedInput names marks i key = (rule : LayerRule) × (slice_get names i ≡ Some rule)
    × (rule.form ≡ form.Input key) × IsMarked marks i

-- each input layer that the device rule reads is marked
abbrev pub AreRead : List LayerRule → Device → List Bool → Type 0
AreRead names x marks = (key : LayerKey)
    → Some_of (λ k. k ≡ key) (device_keys (formulas names) x)
    → (i : ℕ) × IsMarkedInput names marks i key
