-- Which names some selections read, through other names.
use Rattle.std.specs.Prelude.{◌≡◌, ◌↔◌, ℕ, ◌<◌, ◌≤◌, Bool, true, false, List, length, slice_get}
use Rattle.std.specs.Prelude.{get_or, Option, Some, None}
use Rattle.rule_text.specs.declared.rules.LayerForm.{LayerForm}
use Rattle.rule_text.specs.declared.rules.LayerForm.TheVariants as form
use Rattle.rule_text.specs.declared.rules.LayerRule.{LayerRule}
use Rattle.rule_text.specs.declared.rules.SelectRule.{SelectRule}
use Rattle.rule_layers.specs.Reads.{Reads}
use Rattle.rule_stages.specs.Depths.{select_at}
use Rattle.rule_stages.specs.Selections.{sight_form}

-- the form of a name, by its selection and whether it is read
abbrev pub stage_form : Option SelectRule → Bool → LayerForm → LayerForm
stage_form (Some s) read f = sight_form s
stage_form None true f = f
stage_form None false f = form.Empty

-- names read names before them
abbrev pub AreBelow : List LayerRule → List SelectRule → Type 0
AreBelow names selected = (k : ℕ) (rule : LayerRule) → slice_get names k ≡ Some rule
    → (read : Bool) (j : ℕ) → Reads (stage_form (select_at selected k) read rule.form) j → j < k

-- a name from a number on reads it, by these marks
pub record IsMarkedBy (names : List LayerRule) (selected : List SelectRule) (marks : List Bool)
    (from j : ℕ) : Type 0 where
  pub at : ℕ
  pub rule : LayerRule
  pub behind : from ≤ at
  pub there : slice_get names at ≡ Some rule
  pub reads : Reads (stage_form (select_at selected at) (get_or marks at false) rule.form) j

-- exactly what these read is marked
pub record AreMarkedFrom (names : List LayerRule) (selected : List SelectRule) (from : ℕ)
    (marks : List Bool) : Type 0 where
  pub long : length marks ≡ length names
  pub each : (j : ℕ) → j < length names
      → (get_or marks j false ≡ true) ↔ IsMarkedBy names selected marks from j

-- the first names, each by its mark
pub record AreFormedTo (names : List LayerRule) (selected : List SelectRule) (marks : List Bool)
    (to : ℕ) (staged : List LayerRule) : Type 0 where
  pub count : length staged ≡ to
  pub each : (k : ℕ) (rule : LayerRule) → k < to → slice_get names k ≡ Some rule
      → (seen : LayerRule) × (slice_get staged k ≡ Some seen) × (seen.name ≡ rule.name)
      × (seen.form ≡ stage_form (select_at selected k) (get_or marks k false) rule.form)
