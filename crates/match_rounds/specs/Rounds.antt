-- A round.
use Rattle.std.specs.Prelude.{◌≡◌, ◌↔◌, ◌<◌, ◌≤◌, ℕ, List, length, slice_index, slice_range}
use Rattle.std.specs.List.{flat_map}
use Rattle.round_laws.specs.Web.{Port}
use Rattle.round_laws.specs.Colours.{SplitsBy}
use Rattle.round_laws.specs.Parting.{IsParted}
use Rattle.match_graph.specs.declared.graph.Graph.{Graph}
use Rattle.match_graph.specs.Graph.{graph_web, ends_at}
use Rattle.match_rounds.specs.declared.classes.Classes.{Classes}
use Rattle.match_rounds.specs.Classes.{class_in, is_fresh}
use Rattle.match_rounds.specs.Members.{start_at}
use Rattle.match_rounds.specs.Looking.{touches}

-- the members of the j-th class
abbrev pub span_at : List ℕ → List ℕ → ℕ → List ℕ
span_at members ends j = slice_range members (start_at ends j) (slice_index ends j)

-- the members stand class by class
abbrev pub AreSpans : List ℕ → List ℕ → Type 0
AreSpans members ends = (j : ℕ) → j < length ends
    → (start_at ends j ≤ slice_index ends j) × (slice_index ends j ≤ length members)

-- two nodes are of one class now exactly where they were, and have as many ends of each port at
-- each of the first i classes of members
abbrev pub ArePartedBySpans : Graph → Classes → Classes → List ℕ → List ℕ → ℕ → ℕ → Type 0
ArePartedBySpans g old new members ends i n = (a b : ℕ) → a < n → b < n
    → (class_in new a ≡ class_in new b)
    ↔ ((class_in old a ≡ class_in old b)
    × ((j : ℕ) → j < i → (port : Port) → touches (flat_map (ends_at g) (span_at members ends j))
    port a ≡ touches (flat_map (ends_at g) (span_at members ends j)) port b))

-- the classes that aren't marked have parted their neighbours already: the classes are parts of
-- older ones, of each of which at most one part isn't marked
pub record AreAhead (g : Graph) (c : Classes) : Type 0 where
  pub older : ℕ → ℕ
  pub parted : IsParted (graph_web g) older (class_in c) (is_fresh c)

-- a round: two nodes are of one class now exactly where they were, and have as many ends of each
-- port at each class that there was
abbrev pub IsNextRound : Graph → Classes → Classes → Type 0
IsNextRound g old new = SplitsBy (graph_web g) (graph_web g).near (class_in old) (class_in new)
