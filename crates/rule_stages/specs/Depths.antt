-- How many selections stand one upon the other up to a name.
use Rattle.std.specs.Prelude.{ℕ, ◌+◌, max, ◌==◌, List, [], ◌∷◌, ◌++◌, length, get_or, Option}
use Rattle.std.specs.Prelude.{Some, None, if◌then◌else◌}
use Rattle.rule_text.specs.declared.rules.LayerForm.{LayerForm}
use Rattle.rule_text.specs.declared.rules.LayerForm.TheVariants as form
use Rattle.rule_text.specs.declared.rules.LayerRule.{LayerRule}
use Rattle.rule_text.specs.declared.rules.SelectRule.{SelectRule}
use Rattle.rule_text.specs.Rules.{Rules}
use Rattle.rule_layers.specs.Formulas.{greatest}
use Rattle.rule_stages.specs.Selections.{sight_form}

-- the selection whose name has this number
abbrev pub select_at : List SelectRule → ℕ → Option SelectRule
select_at [] k = None
select_at (s ∷ ss) k = if s.name == k then Some s else select_at ss k

-- the depth of a form, from those of the names before it
abbrev pub form_depth : List ℕ → LayerForm → ℕ
form_depth before (form.Input key) = 0
form_depth before (form.Labels key) = 0
form_depth before form.Empty = 0
form_depth before (form.Binary op a b) = max (get_or before a 0) (get_or before b 0)
form_depth before (form.Sized a by) = get_or before a 0

-- a selection stands upon what it reads
abbrev pub depth_by : List ℕ → Option SelectRule → LayerForm → ℕ
depth_by before None f = form_depth before f
depth_by before (Some s) f = form_depth before (sight_form s) + 1

abbrev pub depths_behind : List SelectRule → List ℕ → List LayerRule → List ℕ
depths_behind selects before [] = before
depths_behind selects before (n ∷ names) = depths_behind selects
    (before ++ depth_by before (select_at selects (length before)) n.form ∷ []) names

-- the depths of the rules' names, in order
abbrev pub depths : Rules → List ℕ
depths r = depths_behind r.selects [] r.names

abbrev pub deepest : Rules → ℕ
deepest r = greatest (depths r)
