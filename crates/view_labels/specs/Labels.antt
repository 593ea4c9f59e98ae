-- By which names circuits and layers are shown.
use Rattle.std.specs.Prelude.{◌≡◌, ◌<◌, ℕ, List, Option, Some, None, map, slice_get}
use Rattle.cell_graph.specs.Linked.{Linked, cell_at}
use Rattle.match_report.specs.Gates.{name_of}
use Rattle.plain_netlist.specs.Netlist.{Circuit}
use Rattle.rule_text.specs.declared.rules.LayerRule.{LayerRule}
use Rattle.text_table.specs.Texts.{place_of}

abbrev pub layer_names : List LayerRule → List (List ℕ)
layer_names rules = map (λ (r : LayerRule). r.name) rules

-- the number of a circuit: where its name stands among these texts, past the last where it doesn't
abbrev pub numbers_of : List (List ℕ) → List Circuit → List ℕ
numbers_of texts cs = map (λ (c : Circuit). place_of texts c.name) cs

-- the cell of a circuit: of these the one of its number
abbrev pub shown_cell : List ℕ → List (List ℕ) → Circuit → Option ℕ
shown_cell cells texts c = slice_get cells (place_of texts c.name)

-- the name of its cell; its own where it has none
abbrev pub label_of : Linked → Option ℕ → Circuit → List ℕ
label_of d None c = c.name
label_of d (Some cell) c = name_of (cell_at d cell)

abbrev pub labels_of : Linked → List ℕ → List (List ℕ) → List Circuit → List (List ℕ)
labels_of d cells texts cs = map (λ (c : Circuit). label_of d (shown_cell cells texts c) c) cs

-- these cells are among so many
abbrev pub AreInside : ℕ → List ℕ → Type 0
AreInside count cells = (k cell : ℕ) → slice_get cells k ≡ Some cell → cell < count
