-- The ends at the nodes of one class.
use Rattle.std.specs.Prelude.{◌≡◌, ◌≢◌, ◌⊎◌, ◌<◌, ◌≤◌, ◌+◌, ◌==◌, ◌&&◌, ℕ, List, length, count_by}
use Rattle.std.specs.Prelude.{slice_index_or}
use Rattle.round_laws.specs.Web.{same_port}
use Rattle.match_graph.specs.Graph.{plain_port}
use Rattle.match_graph.specs.declared.graph.Port.{Port}
use Rattle.match_graph.specs.declared.graph.Port.TheVariants as port
use Rattle.match_graph.specs.declared.graph.End.{End}
use Rattle.match_graph.specs.Filling.{end}
use Rattle.match_rounds.specs.declared.classes.Classes.{Classes}
use Rattle.match_rounds.specs.declared.groups.Part.{Part}
use Rattle.match_rounds.specs.Classes.{class_in}
use Rattle.match_rounds.specs.Pieces.{entry}

-- ports in order: the ends, then other terminals by place, then pins by number
abbrev pub port_group : Port → ℕ
port_group port.EitherEnd = 0
port_group (port.Other k) = 1
port_group (port.Pin i) = 2

abbrev pub port_number : Port → ℕ
port_number port.EitherEnd = 0
port_number (port.Other k) = k
port_number (port.Pin i) = i

-- p stands before q
abbrev pub IsPortBefore : Port → Port → Type 0
IsPortBefore p q = (port_group p < port_group q) ⊎ ((port_group p ≡ port_group q)
    × (port_number p < port_number q))

abbrev pub end_at : List End → ℕ → End
end_at ends i = slice_index_or ends i (end port.EitherEnd 0)

-- d stands before e, or they are equal
abbrev pub IsNoLaterEnd : End → End → Type 0
IsNoLaterEnd d e = IsPortBefore d.port e.port ⊎ ((d.port ≡ e.port) × (d.node ≤ e.node))

abbrev pub AreInOrder : List End → Type 0
AreInOrder ends = (i j : ℕ) → i ≤ j → j < length ends → IsNoLaterEnd (end_at ends i) (end_at ends j)

-- the ends from here on up to there are equal, and the next one is another
pub record IsRun (ends : List End) (from to : ℕ) : Type 0 where
  pub some : from < to
  pub fits : to ≤ length ends
  pub port : (k : ℕ) → from ≤ k → k < to → (end_at ends k).port ≡ (end_at ends from).port
  pub node : (k : ℕ) → from ≤ k → k < to → (end_at ends k).node ≡ (end_at ends from).node
  pub next : to < length ends → (end_at ends to).port ≡ (end_at ends from).port
      → (end_at ends to).node ≢ (end_at ends from).node

-- the ends from here on up to there have one port, and the next one has another
pub record IsPortRun (ends : List End) (from to : ℕ) : Type 0 where
  pub some : from < to
  pub fits : to ≤ length ends
  pub port : (k : ℕ) → from ≤ k → k < to → (end_at ends k).port ≡ (end_at ends from).port
  pub next : to < length ends → (end_at ends to).port ≢ (end_at ends from).port

-- a part that stands for the one run of its node's ends among these
pub record IsPart (c : Classes) (ends : List End) (from to : ℕ) (p : Part) : Type 0 where
  pub start : ℕ
  pub low : from ≤ start
  pub high : start + p.count ≤ to
  pub run : IsRun ends start (start + p.count)
  pub node : p.node ≡ (end_at ends start).node
  pub class : p.class ≡ class_in c p.node
  pub first : (k : ℕ) → from ≤ k → k < start → (end_at ends k).node ≢ p.node

-- one part for each node of the ends from here up to there
pub record AreParts (c : Classes) (ends : List End) (from to : ℕ) (parts : List Part) : Type 0 where
  pub each : (e : ℕ) → e < length parts → IsPart c ends from to (entry parts e)
  pub all : (k : ℕ) → from ≤ k → k < to → (e : ℕ) × (e < length parts)
      × ((entry parts e).node ≡ (end_at ends k).node)
  pub once : (e f : ℕ) → e < length parts → f < e → (entry parts f).node ≢ (entry parts e).node

-- no end before these has their port
abbrev pub IsPortStart : List End → ℕ → Type 0
IsPortStart ends from = (k : ℕ) → k < from → (end_at ends k).port ≢ (end_at ends from).port

-- how many of the ends are of this port and node
abbrev pub count_at : List End → Port → ℕ → ℕ
count_at ends port a =
    count_by (λ e. same_port (plain_port port) (plain_port e.port) && (a == e.node)) ends

-- a part's count is how many ends of the port its node has
abbrev pub PartLaw : Type 0
PartLaw = (c : Classes) (ends : List End) (from to : ℕ) (p : Part) → AreInOrder ends
    → IsPortRun ends from to → IsPortStart ends from → IsPart c ends from to p
    → count_at ends (end_at ends from).port p.node ≡ p.count
