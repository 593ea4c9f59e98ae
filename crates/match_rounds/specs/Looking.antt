-- What a look at the members of a class parts.
use Rattle.std.specs.Prelude.{◌≡◌, ◌↔◌, ◌<◌, ◌≤◌, ℕ, List, length, map}
use Rattle.round_laws.specs.Web.{Port}
use Rattle.round_laws.specs.Colours.{ends_of}
use Rattle.match_graph.specs.Graph.{plain_end}
use Rattle.match_graph.specs.declared.graph.End.{End}
use Rattle.match_rounds.specs.declared.classes.Classes.{Classes}
use Rattle.match_rounds.specs.Classes.{class_in}
use Rattle.match_rounds.specs.Touching.{IsPortStart, count_at, end_at}

-- of each port that one of the first i ends has, two nodes have as many of the ends
abbrev pub HaveOneTouch : List End → ℕ → ℕ → ℕ → Type 0
HaveOneTouch ends i a b = (k : ℕ) → k < i
    → count_at ends (end_at ends k).port a ≡ count_at ends (end_at ends k).port b

-- the ports of the first i ends are done
pub record ArePortsDone (old new : Classes) (ends : List End) (i n : ℕ) : Type 0 where
  pub fits : i ≤ length ends
  pub start : i < length ends → IsPortStart ends i
  pub parted : (a b : ℕ) → a < n → b < n
      → (class_in new a ≡ class_in new b)
      ↔ ((class_in old a ≡ class_in old b) × HaveOneTouch ends i a b)

-- how many of the ends are of this port and node
abbrev pub touches : List End → Port → ℕ → ℕ
touches ends port a = ends_of (λ x. x) port a (map plain_end ends)

-- two nodes are of one class now exactly where they were, and have as many of the ends of each port
abbrev pub ArePartedByEnds : Classes → Classes → List End → ℕ → Type 0
ArePartedByEnds old new ends n = (a b : ℕ) → a < n → b < n
    → (class_in new a ≡ class_in new b)
    ↔ ((class_in old a ≡ class_in old b) × ((port : Port) → touches ends port a
    ≡ touches ends port b))
