-- The classes before the first round.
use Rattle.std.specs.Prelude.{◌≡◌, ◌↔◌, ◌<◌, ◌≤◌, ℕ, true, List, length, map, slice_index_or}
use Rattle.round_laws.specs.Web.{Guess, Web, alike_under, under}
use Rattle.match_graph.specs.declared.graph.Graph.{Graph}
use Rattle.match_graph.specs.Graph.{graph_web, kind_at, left_of, nodes_of}
use Rattle.match_rounds.specs.declared.groups.Part.{Part}
use Rattle.match_rounds.specs.declared.classes.Classes.{Classes}
use Rattle.match_rounds.specs.Classes.{class_in}
use Rattle.match_rounds.specs.Pieces.{entry}

-- a left node and a right node that are taken to go together
abbrev pub plain_guess : ℕ × ℕ → Guess ℕ
plain_guess g = record { left = g.0; right = g.1 }

-- the graph in which each guess gives its pair a colour of its own
abbrev pub guessed_web : Graph → List (ℕ × ℕ) → Web ℕ
guessed_web g guesses = under (graph_web g) (map plain_guess guesses)

abbrev pub guess_at : List (ℕ × ℕ) → ℕ → ℕ × ℕ
guess_at guesses i = slice_index_or guesses i (0, 0)

-- each guess is of a left and a right node
pub record AreGuesses (g : Graph) (guesses : List (ℕ × ℕ)) : Type 0 where
  pub left : (i : ℕ) → i < length guesses → (guess_at guesses i).0 < left_of g
  pub right : (i : ℕ) → i < length guesses → left_of g ≤ (guess_at guesses i).1
  pub node : (i : ℕ) → i < length guesses → (guess_at guesses i).1 < nodes_of g

-- the first n nodes as parts of one class, each with the number of its kind
pub record AreKindParts (g : Graph) (parts : List Part) (n : ℕ) : Type 0 where
  pub long : length parts ≡ n
  pub class : (e : ℕ) → e < n → (entry parts e).class ≡ 0
  pub count : (e : ℕ) → e < n → (entry parts e).count ≡ kind_at g e
  pub node : (e : ℕ) → e < n → (entry parts e).node ≡ e

-- nodes are of one class where they look alike under these guesses
abbrev pub AreStarted : Graph → List (ℕ × ℕ) → Classes → Type 0
AreStarted g guesses c = (a b : ℕ) → a < nodes_of g → b < nodes_of g
    → (class_in c a ≡ class_in c b) ↔ (alike_under (graph_web g) (map plain_guess guesses) a b
    ≡ true)
