-- How many nodes of a class are on each side.
use Rattle.std.specs.Prelude.{◌==◌, ℕ, count_by}
use Rattle.match_graph.specs.declared.graph.Graph.{Graph}
use Rattle.match_graph.specs.Graph.{graph_web}
use Rattle.match_rounds.specs.declared.classes.Classes.{Classes}
use Rattle.match_rounds.specs.Classes.{class_in}

-- the left nodes of class d
abbrev pub left_members : Graph → Classes → ℕ → ℕ
left_members g c d = count_by (λ a. d == class_in c a) (graph_web g).left

-- the right ones
abbrev pub right_members : Graph → Classes → ℕ → ℕ
right_members g c d = count_by (λ a. d == class_in c a) (graph_web g).right
