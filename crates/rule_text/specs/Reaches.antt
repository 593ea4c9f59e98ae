-- How far from a square the shapes may lie that decide whether a name has it.
use Rattle.std.specs.Prelude.{ℕ, ◌+◌, max, unsigned_abs, List, [], ◌∷◌, ◌++◌, get_or}
use Rattle.rule_text.specs.declared.rules.LayerForm.{LayerForm}
use Rattle.rule_text.specs.declared.rules.LayerForm.TheVariants as form
use Rattle.rule_text.specs.declared.rules.LayerRule.{LayerRule}

-- how far a name may reach, in squares
abbrev pub MOST_REACH : ℕ
MOST_REACH = 10000

-- the reach of a form, from those of the names before it
abbrev pub reach_by : List ℕ → LayerForm → ℕ
reach_by before (form.Input key) = 0
reach_by before (form.Labels key) = 0
reach_by before form.Empty = 0
reach_by before (form.Binary op a b) = max (get_or before a 0) (get_or before b 0)
reach_by before (form.Sized a by) = get_or before a 0 + unsigned_abs by

-- the reaches of some names, behind those of the names before them
abbrev pub reaches_behind : List ℕ → List LayerRule → List ℕ
reaches_behind before [] = before
reaches_behind before (n ∷ names) = reaches_behind (before ++ reach_by before n.form ∷ []) names

-- the reaches of the rules' names, in order
abbrev pub reaches : List LayerRule → List ℕ
reaches names = reaches_behind [] names
