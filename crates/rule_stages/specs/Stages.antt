-- The selections of a rule set, each behind all that it reads.
use Rattle.std.specs.Prelude.{◌≡◌, ℕ, zero, suc, ◌==◌, List, [], ◌++◌, map, get_or, slice_get, Some}
use Rattle.std.specs.List.{filter}
use Rattle.flat_layout.specs.Layout.{Some_of}
use Rattle.rule_text.specs.declared.rules.SelectRule.{SelectRule}
use Rattle.rule_text.specs.Rules.{Rules, select_key}
use Rattle.rule_text.specs.Sound.{IsSound}
use Rattle.rule_layers.specs.Formulas.{formulas}
use Rattle.rule_stages.specs.Depths.{depths, deepest}
use Rattle.rule_stages.specs.Selections.{select_of}
use Rattle.select_laws.specs.Staged.{Stage, AreInTurn, Reads}

-- a selection with the layer that it becomes
abbrev pub stage_of : Rules → SelectRule → Stage
stage_of r s = record { key = select_key s.name; select = select_of (formulas r.names) s }

-- the selections of a depth, in order
abbrev pub at_depth : Rules → ℕ → List SelectRule
at_depth r depth = filter (λ s. get_or (depths r) s.name 0 == depth) r.selects

-- selections of the rules
abbrev pub AreSelectsOf : Rules → List SelectRule → Type 0
AreSelectsOf r selected = (k : ℕ) (s : SelectRule) → slice_get selected k ≡ Some s
    → (j : ℕ) × (slice_get r.selects j ≡ Some s)

-- those of so many depths, from one on
abbrev pub from_depth : Rules → ℕ → ℕ → List SelectRule
from_depth r depth zero = []
from_depth r depth (suc count) = at_depth r depth ++ from_depth r (suc depth) count

-- all of them, by depth
abbrev pub stages_of : Rules → List Stage
stages_of r = map (stage_of r) (from_depth r 1 (deepest r))

-- none reads its own layer or one behind it
abbrev pub InTurnLaw : Type 0
InTurnLaw = (r : Rules) → IsSound r → AreInTurn (stages_of r)

-- and each selection is a stage
abbrev pub EachStageLaw : Type 0
EachStageLaw = (r : Rules) (k : ℕ) (s : SelectRule) → IsSound r → slice_get r.selects k ≡ Some s
    → Some_of (λ t. t ≡ stage_of r s) (stages_of r)

-- none of a depth reads the layer of one of this depth
abbrev pub FreeLaw : Type 0
FreeLaw = (r : Rules) (depth j k : ℕ) (s t : SelectRule) → IsSound r
    → slice_get (at_depth r depth) j ≡ Some s → slice_get (at_depth r depth) k ≡ Some t
    → Reads (stage_of r s) (select_key t.name) → ⊥
