-- The rules with which the selections of one depth are found.
use Rattle.std.specs.Prelude.{◌≡◌, ◌⊎◌, ℕ, List, length, slice_get, Option, Some, None}
use Rattle.rule_text.specs.declared.rules.LayerForm.{LayerForm}
use Rattle.rule_text.specs.declared.rules.LayerForm.TheVariants as form
use Rattle.rule_text.specs.declared.rules.LayerRule.{LayerRule}
use Rattle.rule_text.specs.declared.rules.SelectRule.{SelectRule}
use Rattle.rule_text.specs.Rules.{Rules, no_rules}
use Rattle.rule_text.specs.Sound.{IsSound}
use Rattle.rule_layers.specs.Formulas.{formulas}
use Rattle.rule_layers.specs.Reads.{IsByName}
use Rattle.rule_stages.specs.Depths.{select_at}
use Rattle.rule_stages.specs.Selections.{IsKnown, select_of, sight_form}
use Rattle.rule_stages.specs.Stages.{at_depth}

-- a selection's name is what it reads; another is as it was where it is read, and else without
-- squares
abbrev pub IsStageForm : Option SelectRule → Type 0 → LayerForm → LayerForm → Type 0
IsStageForm (Some s) P f seen = seen ≡ sight_form s
IsStageForm None P f seen = (P × (seen ≡ f)) ⊎ ((P → ⊥) × (seen ≡ form.Empty))

-- the names as these selections see them
pub record AreStageNames (names : List LayerRule) (selected : List SelectRule)
    (staged : List LayerRule) : Type 0 where
  pub count : length staged ≡ length names
  pub each : (k : ℕ) (rule : LayerRule) → slice_get names k ≡ Some rule → (seen : LayerRule)
      × (slice_get staged k ≡ Some seen) × (seen.name ≡ rule.name)
      × IsStageForm (select_at selected k) (IsByName staged (length staged) k) rule.form seen.form

-- rules of names alone
abbrev pub bare_rules : List LayerRule → Rules
bare_rules names = record no_rules { names = names }

-- these rules are sound
abbrev pub StageSoundLaw : Type 0
StageSoundLaw = (r : Rules) (depth : ℕ) (staged : List LayerRule) → IsSound r
    → AreStageNames r.names (at_depth r depth) staged → IsSound (bare_rules staged)

-- a selection of the depth means over them what it means over all
pub record IsStageSelect (r : Rules) (staged : List LayerRule) (s : SelectRule) : Type 0 where
  pub same : select_of (formulas staged) s ≡ select_of (formulas r.names) s
  pub known : IsKnown (formulas staged) s

abbrev pub StageSelectLaw : Type 0
StageSelectLaw = (r : Rules) (depth k : ℕ) (staged : List LayerRule) (s : SelectRule) → IsSound r
    → AreStageNames r.names (at_depth r depth) staged → slice_get (at_depth r depth) k ≡ Some s
    → IsStageSelect r staged s
