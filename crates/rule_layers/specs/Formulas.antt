-- The rules' names as the trees of what they read, and how far these reach.
use Rattle.std.specs.Prelude.{ℕ, ◌+◌, max, List, [], ◌∷◌, ◌++◌, map, get_or}
use Rattle.flat_layout.specs.Layers.{Formula, Input, Empty, Binary, Sized, reach}
use Rattle.rule_text.specs.declared.rules.LayerForm.{LayerForm}
use Rattle.rule_text.specs.declared.rules.LayerForm.TheVariants as form
use Rattle.rule_text.specs.declared.rules.LayerRule.{LayerRule}

-- the tree of a form, over those of the names before it; a labels name has no squares
abbrev pub formula_by : List Formula → LayerForm → Formula
formula_by before (form.Input key) = Input key
formula_by before (form.Labels key) = Empty
formula_by before form.Empty = Empty
formula_by before (form.Binary op a b) = Binary op (get_or before a Empty) (get_or before b Empty)
formula_by before (form.Sized a by) = Sized by (get_or before a Empty)

-- the trees of some names, behind those of the names before them
abbrev pub formulas_behind : List Formula → List LayerRule → List Formula
formulas_behind before [] = before
formulas_behind before (n ∷ names) = formulas_behind (before ++ formula_by before n.form ∷ []) names

-- the trees of the rules' names, in order
abbrev pub formulas : List LayerRule → List Formula
formulas names = formulas_behind [] names

-- the greatest of some numbers, and 0 of none
abbrev pub greatest : List ℕ → ℕ
greatest [] = 0
greatest (n ∷ ns) = max n (greatest ns)

-- how far the name that reaches furthest does
abbrev pub greatest_reach : List LayerRule → ℕ
greatest_reach names = greatest (map reach (formulas names))

-- how far outside a cell's hull its disturbed squares are asked for: twice as far, and one square
-- for a region's ring
abbrev pub zone_margin : List LayerRule → ℕ
zone_margin names = (greatest_reach names + greatest_reach names) + 1
