-- A search over guesses that is under way.
use Rattle.std.specs.Prelude.{◌≡◌, ◌<◌, ◌≤◌, ℕ, suc, Bool, true, false, List, [], ◌∷◌, ◌++◌, length}
use Rattle.std.specs.Prelude.{map}
use Rattle.round_laws.specs.Web.{Web, IsWeb, IsEven, IsStable, under}
use Rattle.round_laws.specs.Nodes.{Node}
use Rattle.round_laws.specs.Guesses.{Setting, IsChosen, candidates, Ended, Row, Outcome, rows}
use Rattle.round_laws.specs.Stack.{Level as Stage, IsStack, add, outer_rows, used}
use Rattle.match_laws.specs.Circuits.{Pair, web_of}
use Rattle.match_laws.specs.Answer.{equal_names, setting_of}
use Rattle.match_types.specs.declared.answer.Guess.{Guess}
use Rattle.match_types.specs.declared.answer.GuessEnd.{GuessEnd}
use Rattle.match_types.specs.declared.answer.GuessEnd.TheVariants as end
use Rattle.match_types.specs.Plain.{row_of}
use Rattle.net_model.specs.declared.netlist.Circuit.{Circuit}
use Rattle.match_graph.specs.declared.graph.Graph.{Graph}
use Rattle.match_graph.specs.Graph.{left_of, nodes_of}
use Rattle.match_graph.specs.Numbering.{index_of}
use Rattle.match_rounds.specs.declared.refinement.Verdict.{Verdict}
use Rattle.match_rounds.specs.declared.refinement.Verdict.TheVariants as verdict
use Rattle.match_rounds.specs.Classes.{IsPartition}
use Rattle.match_rounds.specs.Refined.{AreSettled}
use Rattle.match_rounds.specs.Start.{AreGuesses, guessed_web}
use Rattle.refine_match.specs.Classes.{AreTold}
use Rattle.refine_match.specs.Choosing.{AreUntied}
use Rattle.refine_match.specs.Rights.{AreListsOf}
use Rattle.refine_match.specs.Candidates.{IsHead, IsPairOf, remaining}
use Rattle.refine_match.specs.declared.candidates.Candidate.{Candidate}
use Rattle.refine_match.specs.declared.searching.Level.{Level}
use Rattle.refine_match.specs.declared.searching.Search.{Search}

-- some stable round has equal counts
abbrev pub HasEvenEnd : Web ℕ → Type 0
HasEvenEnd w = (k : ℕ) × IsStable w k × IsEven w k

-- the search over guesses of the pair
abbrev pub setting_in : Pair → ℕ → Setting
setting_in p limit = setting_of p (equal_names p) limit

-- a level stands for a node that is chosen, with these of its candidates left
pub record IsLevelOf (p : Pair) (limit : ℕ) (stage : Stage) (level : Level) (rest : List Node)
    : Type 0 where
  pub round : ℕ
  pub chosen : IsChosen (under (web_of p) stage.above) round stage.node
  pub tries : stage.tries
      ≡ candidates (setting_in p limit) (under (web_of p) stage.above) round stage.node
  pub node : index_of p stage.node ≡ level.node
  pub left : rest ≡ remaining p stage.node level.last stage.tries

-- the rows of what was tried so far: before the guesses that are open, these, and of the innermost
-- level
abbrev pub rows_so_far : (s : Setting) (first stage : Stage) (above : List Stage)
    → IsStack s first stage above → List Row
rows_so_far s first stage above stack =
    outer_rows s first stage above stack
    ++ rows (suc (length above)) stage.node (add stage.done Ended)

-- the levels above the innermost one, the first one first, each with the row of its open guess
abbrev pub AreOuterOf : (p : Pair) (limit : ℕ) (first stage : Stage) (above : List Stage)
    → IsStack (setting_in p limit) first stage above → List Level → Type 0
AreOuterOf p limit first stage [] stack levels = levels ≡ []
AreOuterOf p limit first stage (o ∷ os) stack levels =
    (before : List Level) × (level : Level) × (levels ≡ before ++ level ∷ [])
    × IsLevelOf p limit o level stack.1.rest
    × (level.row ≡ length (rows_so_far (setting_in p limit) first o os stack.2))
    × AreOuterOf p limit first o os stack.2 before

-- the level that a search begins with
pub record IsFirstOf (p : Pair) (limit : ℕ) (first : Stage) : Type 0 where
  pub above : first.above ≡ []
  pub start : first.start ≡ 0
  pub round : ℕ
  pub chosen : IsChosen (web_of p) round first.node
  pub tries : first.tries ≡ candidates (setting_in p limit) (web_of p) round first.node

-- what a search has tried: its guesses, levels and rows are those of some stages of the pair's
-- search
pub record IsSearchOf (p : Pair) (g : Graph) (limit : ℕ) (guesses : List (ℕ × ℕ)) (level : Level)
    (outer : List Level) (tried : List Guess) (refuted : ℕ) : Type 0 where
  pub first : Stage
  pub stage : Stage
  pub above : List Stage
  pub stack : IsStack (setting_in p limit) first stage above
  pub begins : IsFirstOf p limit first
  pub told : AreTold p g guesses stage.above
  pub here : IsLevelOf p limit stage level stage.rest
  pub outer_are : AreOuterOf p limit first stage above stack outer
  pub refuted_is : refuted ≡ used stage
  pub rows_are : map row_of tried ≡ rows_so_far (setting_in p limit) first stage above stack

-- a search between two guesses: its classes are the stable ones
pub record IsUnderWay (p : Pair) (g : Graph) (s : Search) : Type 0 where
  pub search : IsSearchOf p g s.limit s.guesses.items s.level s.outer.items s.rows.items s.refuted
  pub partition : IsPartition s.classes (left_of g) (nodes_of g)
  pub settled : AreSettled (guessed_web g s.guesses.items) s.classes
  pub lists : AreListsOf s.lists g s.classes
  pub guesses : AreGuesses g s.guesses.items
  pub within : s.refuted ≤ s.limit

-- a search whose next candidate this is, before its limit
pub record IsTrying (p : Pair) (g : Graph) (s : Search) (c : Candidate) : Type 0 where
  pub way : IsUnderWay p g s
  pub head : IsHead p way.search.stage.node s.level.last way.search.stage.tries c
  pub right : left_of g ≤ c.node
  pub below : s.refuted < s.limit

-- a search that guesses this candidate: the guess is the last one, the rest is as before
pub record IsGuessing (p : Pair) (g : Graph) (s : Search) (c : Candidate) : Type 0 where
  pub before : List (ℕ × ℕ)
  pub guesses_are : s.guesses.items ≡ before ++ (s.level.node, c.node) ∷ []
  pub search : IsSearchOf p g s.limit before s.level s.outer.items s.rows.items s.refuted
  pub head : IsHead p search.stage.node s.level.last search.stage.tries c
  pub right : left_of g ≤ c.node
  pub below : s.refuted < s.limit
  pub guesses : AreGuesses g s.guesses.items

-- the guess leaves no ties
pub record IsSolvedBy (p : Pair) (g : Graph) (s : Search) (c : Candidate) : Type 0 where
  pub guessing : IsGuessing p g s c
  pub partition : IsPartition s.classes (left_of g) (nodes_of g)
  pub settled : AreSettled (guessed_web g s.guesses.items) s.classes
  pub untied : AreUntied g s.classes (left_of g)

-- what came of a guess
abbrev pub IsTried : Pair → Graph → Search → Candidate → Bool → Type 0
IsTried p g s c true = IsSolvedBy p g s c
IsTried p g s c false = IsUnderWay p g s

-- no candidate of the innermost level is left
abbrev pub HasLeft : {p : Pair} {g : Graph} {s : Search} → IsUnderWay p g s → Type 0
HasLeft way = way.search.stage.rest ≡ []

-- the level above is the innermost one now, or there is none
abbrev pub IsLeft : Pair → Graph → Search → Search → Bool → Type 0
IsLeft p g old new true = IsUnderWay p g new
IsLeft p g old new false = (new.rows.items ≡ old.rows.items) × (old.outer.items ≡ [])

-- one row was added, and one level at most
pub record IsLonger (old new : Search) : Type 0 where
  pub rows : length new.rows.items ≡ suc (length old.rows.items)
  pub levels : length new.outer.items ≤ suc (length old.outer.items)
  pub limit : new.limit ≡ old.limit

-- one level went
pub record IsShorter (old new : Search) : Type 0 where
  pub rows : length new.rows.items ≡ length old.rows.items
  pub levels : suc (length new.outer.items) ≡ length old.outer.items
  pub limit : new.limit ≡ old.limit

-- the row of a stage's guess
abbrev pub guess_row : List Stage → Stage → Node → Outcome → Row
guess_row above stage right outcome = record {
  depth = suc (length above);
  left = stage.node;
  right = right;
  outcome = outcome;
}

-- a verdict of unequal counts gives its round
abbrev pub EndsBy : Verdict → GuessEnd → Type 0
EndsBy (verdict.Refuted round) e = e ≡ end.Refuted round
EndsBy verdict.Stable e = Unit {0}

-- a search with this limit is under way for each pair of these circuits and this graph
pub record IsKept (g : Graph) (left right : Circuit) (limit : ℕ) (s : Search) : Type 0 where
  pub way : (p : Pair) → IsPairOf p g left right → IsWeb (web_of p) → IsUnderWay p g s
  pub limit_is : s.limit ≡ limit
