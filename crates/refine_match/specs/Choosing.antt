-- The left node that is guessed next.
use Rattle.std.specs.Prelude.{◌≡◌, ◌⊎◌, ◌<◌, ◌≤◌, ℕ, Option, Some, None}
use Rattle.match_graph.specs.declared.graph.Graph.{Graph}
use Rattle.match_graph.specs.Graph.{left_of, nodes_of}
use Rattle.match_rounds.specs.declared.classes.Classes.{Classes}
use Rattle.match_rounds.specs.Classes.{class_in}
use Rattle.match_rounds.specs.Sides.{left_members, right_members}

-- how many left nodes the class of a node has
abbrev pub tied_with : Graph → Classes → ℕ → ℕ
tied_with g c a = left_members g c (class_in c a)

-- a stands no later than b: its class has fewer left nodes, or as many, and it is no later itself
abbrev pub IsNoLaterTie : Graph → Classes → ℕ → ℕ → Type 0
IsNoLaterTie g c a b =
    (tied_with g c a < tied_with g c b) ⊎ ((tied_with g c a ≡ tied_with g c b) × (a ≤ b))

-- of the first n nodes the one that is tied with the fewest
pub record IsLeastTied (g : Graph) (c : Classes) (n a : ℕ) : Type 0 where
  pub below : a < n
  pub tied : 1 < tied_with g c a
  pub least : (b : ℕ) → b < n → 1 < tied_with g c b → IsNoLaterTie g c a b

-- none of the first n nodes is tied
abbrev pub AreUntied : Graph → Classes → ℕ → Type 0
AreUntied g c n = (a : ℕ) → a < n → tied_with g c a ≤ 1

-- the left node that is tied with the fewest, or that none is tied
abbrev pub IsLeastOrNone : Graph → Classes → Option ℕ → Type 0
IsLeastOrNone g c (Some a) = IsLeastTied g c (left_of g) a
IsLeastOrNone g c None = AreUntied g c (left_of g)

-- each class of a left node has one left node and one right one
abbrev pub AreSingle : Graph → Classes → Type 0
AreSingle g c = (a : ℕ) → a < left_of g → right_members g c (class_in c a) ≡ 1

-- a right node of the class of a node
pub record IsMate (g : Graph) (c : Classes) (a b : ℕ) : Type 0 where
  pub right : left_of g ≤ b
  pub node : b < nodes_of g
  pub class : class_in c b ≡ class_in c a
