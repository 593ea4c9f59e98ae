-- The right nodes that a left node is guessed to go to, in order.
use Rattle.std.specs.Prelude.{◌≡◌, ◌<◌, ◌≤◌, ◌+◌, ◌-◌, ◌^◌, ◌&&◌, ℕ, Bool, true, cond}
use Rattle.std.specs.Prelude.{Option, Some, None, List, [], ◌∷◌, length, filter, slice_index}
use Rattle.std.specs.Prelude.{slice_index_or, nat_lt, bytes_eq}
use Rattle.plain_netlist.specs.Lists.{IsListed}
use Rattle.round_laws.specs.Web.{Guess, under}
use Rattle.round_laws.specs.Nodes.{Node, Layout, Device}
use Rattle.round_laws.specs.Guesses.{candidates}
use Rattle.match_laws.specs.Circuits.{Pair, nodes, web_of}
use Rattle.match_laws.specs.Answer.{equal_names, setting_of}
use Rattle.net_model.specs.declared.netlist.Circuit.{Circuit}
use Rattle.net_model.specs.Rows.{plain_circuit}
use Rattle.match_graph.specs.declared.graph.Graph.{Graph}
use Rattle.match_graph.specs.Graph.{IsGraphOf, IsNumbered, left_of, nodes_of}
use Rattle.match_graph.specs.Numbering.{index_of, place_in}
use Rattle.match_rounds.specs.declared.classes.Classes.{Classes}
use Rattle.match_rounds.specs.Classes.{class_in}
use Rattle.match_rounds.specs.Turned.{AreAllOf}
use Rattle.refine_match.specs.Classes.{AreStableClasses}
use Rattle.refine_match.specs.declared.candidates.Candidate.{Candidate}

-- the graph is that of the pair of these circuits
pub record IsPairOf (p : Pair) (g : Graph) (left right : Circuit) : Type 0 where
  pub graph : IsGraphOf p g
  pub left_is : p.left ≡ plain_circuit left
  pub right_is : p.right ≡ plain_circuit right

-- whether a left node and a right one are nets of one name
abbrev pub have_one_name : Graph → Circuit → Circuit → ℕ → ℕ → Bool
have_one_name g left right x y =
    nat_lt x (place_in g.left Device 0)
    && (nat_lt y (place_in g.right Device 0)
    && bytes_eq (slice_index_or left.nets.items (x - g.left.first) [])
    (slice_index_or right.nets.items (y - g.right.first) []))

-- the graph has the nets of these circuits
pub record HaveNets (g : Graph) (left right : Circuit) : Type 0 where
  pub left_nets : g.left.nets ≡ length left.nets.items
  pub right_nets : g.right.nets ≡ length right.nets.items

-- candidates of the name of the guessed node come first, each group by number
abbrev pub rank_of : Bool → ℕ → ℕ
rank_of has_name y = cond {A = ℕ} has_name 0 (2 ^ 32) + y

abbrev pub candidate_rank : Candidate → ℕ
candidate_rank c = rank_of c.has_name c.node

abbrev pub is_behind : Option Candidate → ℕ → Bool
is_behind None r = true
is_behind (Some last) r = nat_lt (candidate_rank last) r

-- a candidate comes before the best one so far
abbrev pub IsFirst : Candidate → Option Candidate → Type 0
IsFirst c None = Unit {0}
IsFirst c (Some best) = candidate_rank c < candidate_rank best

-- the rank of right node y as a candidate of left node x
abbrev pub rank_at : Graph → Circuit → Circuit → ℕ → ℕ → ℕ
rank_at g left right x y = rank_of (have_one_name g left right x y) y

-- no right node of these is behind the last candidate
abbrev pub AreTried : Graph → (ℕ → ℕ) → Option Candidate → List ℕ → ℕ → Type 0
AreTried g rank last items i = (k : ℕ) → k < i → left_of g ≤ slice_index items k
    → is_behind last (rank (slice_index items k)) ≡ true → ⊥

-- of the right nodes among the first i that are behind the last candidate, this is the first
pub record IsFirstBehind (g : Graph) (rank : ℕ → ℕ) (last : Option Candidate) (items : List ℕ)
    (i : ℕ) (c : Candidate) : Type 0 where
  pub place : ℕ
  pub below : place < i
  pub node : slice_index items place ≡ c.node
  pub right : left_of g ≤ c.node
  pub rank_is : candidate_rank c ≡ rank c.node
  pub behind : is_behind last (candidate_rank c) ≡ true
  pub first : (k : ℕ) → k < i → left_of g ≤ slice_index items k
      → is_behind last (rank (slice_index items k)) ≡ true
      → candidate_rank c ≤ rank (slice_index items k)

abbrev pub IsBestBehind : Graph → (ℕ → ℕ) → Option Candidate → List ℕ → ℕ → Option Candidate
    → Type 0
IsBestBehind g rank last items i None = AreTried g rank last items i
IsBestBehind g rank last items i (Some c) = IsFirstBehind g rank last items i c

-- a right node of class d comes before all others of the class
pub record IsSureFirst (g : Graph) (c : Classes) (rank : ℕ → ℕ) (d : ℕ) (best : Candidate) :
    Type 0 where
  pub right : left_of g ≤ best.node
  pub below : best.node < nodes_of g
  pub of : class_in c best.node ≡ d
  pub rank_is : candidate_rank best ≡ rank best.node
  pub first : (a : ℕ) → left_of g ≤ a → a < nodes_of g → class_in c a ≡ d
      → rank best.node ≤ rank a

-- the rank of a right node as a candidate of a left node
abbrev pub rank_in : Pair → Node → Node → ℕ
rank_in p a b = rank_of (equal_names p a b) (index_of p b)

-- the candidates that are behind the last one that was tried
abbrev pub remaining : Pair → Node → Option Candidate → List Node → List Node
remaining p a last candidates = filter (λ b. is_behind last (rank_in p a b)) candidates

-- the next candidate, or that there is none
pub record IsHead (p : Pair) (a : Node) (last : Option Candidate) (candidates : List Node)
    (c : Candidate) : Type 0 where
  pub right : Node
  pub numbered : IsNumbered p c.node right
  pub is : remaining p a last candidates ≡ right ∷ remaining p a (Some c) candidates

abbrev pub IsNextOf : Pair → Node → Option Candidate → List Node → Option Candidate → Type 0
IsNextOf p a last candidates (Some c) = IsHead p a last candidates c
IsNextOf p a last candidates None = remaining p a last candidates ≡ []

-- the first that is behind the last one is the next candidate
abbrev pub NextLaw : Type 0
NextLaw = (p : Pair) (g : Graph) (left right : Circuit) (guesses : List (Guess Node)) (c : Classes)
    (x limit : ℕ) (a : Node) (last best : Option Candidate) (items : List ℕ)
    → IsPairOf p g left right → nodes_of g < 2 ^ 32 → IsListed a (nodes p Layout)
    → index_of p a ≡ x → (s : AreStableClasses p guesses c)
    → AreAllOf (class_in c) (class_in c x) items (nodes_of g)
    → IsBestBehind g (rank_at g left right x) last items (length items) best
    → IsNextOf p a last (candidates (setting_of p (equal_names p) limit)
    (under (web_of p) guesses) s.round a) best
