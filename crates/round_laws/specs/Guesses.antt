-- The search over guesses, where the rounds leave ties: whom it guesses, in which order, with which
-- ends, up to which limit.
use Rattle.std.specs.Prelude.{◌≡◌, ◌≢◌, ◌⊎◌, ◌<◌, ◌≤◌, ◌+◌, ◌&&◌, ℕ, suc, Bool, not, List, [], ◌∷◌}
use Rattle.std.specs.Prelude.{◌++◌, filter}
use Rattle.plain_netlist.specs.Lists.{IsListed}
use Rattle.round_laws.specs.Web.{Web, IsWeb, agree, on_left, IsEven, IsStable, IsRefuted, IsSolved}
use Rattle.round_laws.specs.Web.{IsWebMap, Guess, under}
use Rattle.round_laws.specs.Nodes.{Node, Kind, Net, Device, Call}

-- a web, which nodes have equal names, and how many guesses may end refuted
pub record Setting : Type 0 where
  pub web : Web Node
  pub same_name : Node → Node → Bool
  pub limit : ℕ

-- nets before devices before calls
abbrev pub rank : Kind → ℕ
rank Net = 0
rank Device = 1
rank Call = 2

-- a stands before b, or is b, where classes have m and n layout nodes
abbrev pub IsNoLater : ℕ → ℕ → Node → Node → Type 0
IsNoLater m n a b = (m < n)
    ⊎ ((m ≡ n)
    × ((rank a.kind < rank b.kind) ⊎ ((rank a.kind ≡ rank b.kind) × (a.number ≤ b.number))))

-- a is the layout node to be guessed: the least one of the tied class with the fewest layout nodes,
-- in the stable round k, where no round has unequal counts
pub record IsChosen (w : Web Node) (k : ℕ) (a : Node) : Type 0 where
  pub stable : IsStable w k
  pub even : (j : ℕ) → j ≤ k → IsEven w j
  pub there : IsListed a w.left
  pub tied : 1 < on_left w k a
  pub least : (b : Node) → IsListed b w.left → 1 < on_left w k b
      → IsNoLater (on_left w k a) (on_left w k b) a b

-- the schematic nodes of its class, those of its name first, each group by number
abbrev pub candidates : Setting → Web Node → ℕ → Node → List Node
candidates s w k a =
    filter (λ b. agree w k a b && s.same_name a b) w.right
    ++ filter (λ b. agree w k a b && not (s.same_name a b)) w.right

-- what came of trying candidates for one node, in turn: all were tried, the limit stopped it, one
-- was solved, one was refuted in a round, one has only ended guesses below it, or one was left open
-- by the guesses below it
pub data Search : Type 0 where
  Ended : Search
  Stopped : Search
  Found : (right : Node) → Search
  Refuted : (right : Node) (round : ℕ) (rest : Search) → Search
  Below : (right chosen : Node) (below rest : Search) → Search
  Open : (right chosen : Node) (below : Search) → Search

-- how many guesses ended refuted
abbrev pub refuted_in : Search → ℕ
refuted_in Ended = 0
refuted_in Stopped = 0
refuted_in (Found b) = 0
refuted_in (Refuted b r rest) = suc (refuted_in rest)
refuted_in (Below b c below rest) = refuted_in below + refuted_in rest
refuted_in (Open b c below) = refuted_in below

-- each candidate was tried, to no avail
abbrev pub HasEnded : Search → Type 0
HasEnded Ended = Unit {0}
HasEnded Stopped = ⊥
HasEnded (Found b) = ⊥
HasEnded (Refuted b r rest) = HasEnded rest
HasEnded (Below b c below rest) = HasEnded rest
HasEnded (Open b c below) = ⊥

-- one was solved
abbrev pub HasFound : Search → Type 0
HasFound Ended = ⊥
HasFound Stopped = ⊥
HasFound (Found b) = Unit {0}
HasFound (Refuted b r rest) = HasFound rest
HasFound (Below b c below rest) = HasFound rest
HasFound (Open b c below) = HasFound below

-- one guess more
abbrev pub guessed : List (Guess Node) → Node → Node → List (Guess Node)
guessed above a b = above ++ record { left = a; right = b } ∷ []

-- the next of the candidates, tried before the limit
pub record IsNext (s : Setting) (tries : List Node) (used : ℕ) (b : Node)
    (rest : List Node) : Type 0 where
  pub is : tries ≡ b ∷ rest
  pub before : used < s.limit

-- the search for node a over these candidates under the guesses above, after so many refuted
-- guesses
abbrev pub IsSearch : Setting → List (Guess Node) → Node → List Node → ℕ → Search → Type 0
IsSearch s above a tries used Ended = tries ≡ []
IsSearch s above a tries used Stopped = (tries ≢ []) × (used ≡ s.limit)
IsSearch s above a tries used (Found b) = (bs : List Node) × IsNext s tries used b bs
    × IsSolved (under s.web (guessed above a b))
IsSearch s above a tries used (Refuted b r rest) =
    (bs : List Node) × IsNext s tries used b bs × IsRefuted (under s.web (guessed above a b)) r
    × IsSearch s above a bs (suc used) rest
IsSearch s above a tries used (Below b c below rest) =
    (bs : List Node) × IsNext s tries used b bs × (k : ℕ)
    × IsChosen (under s.web (guessed above a b)) k c
    × IsSearch s (guessed above a b) c (candidates s (under s.web (guessed above a b)) k c) used
    below
    × HasEnded below × IsSearch s above a bs (used + refuted_in below) rest
IsSearch s above a tries used (Open b c below) =
    (bs : List Node) × IsNext s tries used b bs × (k : ℕ)
    × IsChosen (under s.web (guessed above a b)) k c
    × IsSearch s (guessed above a b) c (candidates s (under s.web (guessed above a b)) k c) used
    below
    × (HasEnded below → ⊥)

-- how a guess ended
pub data Outcome : Type 0 where
  IsRefutedIn : (round : ℕ) → Outcome
  IsBelow : Outcome
  IsOpen : Outcome

-- a guess as the report tells it; depth counts from 1
pub record Row : Type 0 where
  pub depth : ℕ
  pub left : Node
  pub right : Node
  pub outcome : Outcome

-- the guesses in the order of first trying
abbrev pub rows : ℕ → Node → Search → List Row
rows depth a Ended = []
rows depth a Stopped = []
rows depth a (Found b) = []
rows depth a (Refuted b r rest) =
    record { depth = depth; left = a; right = b; outcome = IsRefutedIn r } ∷ rows depth a rest
rows depth a (Below b c below rest) =
    record { depth = depth; left = a; right = b; outcome = IsBelow }
    ∷ (rows (suc depth) c below ++ rows depth a rest)
rows depth a (Open b c below) =
    record { depth = depth; left = a; right = b; outcome = IsOpen } ∷ rows (suc depth) c below

-- the search over a pair whose rounds leave ties
pub record IsWholeSearch (s : Setting) (found : Search) : Type 0 where
  pub round : ℕ
  pub node : Node
  pub chosen : IsChosen s.web round node
  pub search : IsSearch s [] node (candidates s s.web round node) 0 found

-- where each candidate ended, no correspondence exists
abbrev pub EndedLaw : Type 0
EndedLaw = (s : Setting) (found : Search) → IsWeb s.web → IsWholeSearch s found → HasEnded found
    → (f : Node → Node) → IsWebMap s.web f → ⊥

-- where one is solved, a correspondence exists
abbrev pub FoundLaw : Type 0
FoundLaw = (s : Setting) (found : Search) → IsWeb s.web → IsWholeSearch s found → HasFound found
    → (f : Node → Node) × IsWebMap s.web f

-- the pair and the limit determine the search
abbrev pub OneSearchLaw : Type 0
OneSearchLaw = (s : Setting) (a b : Search) → IsWeb s.web
    → ((x y : Node) → IsListed x s.web.left → IsListed y s.web.left → x.side ≡ y.side)
    → IsWholeSearch s a → IsWholeSearch s b → a ≡ b

-- neither did each candidate end, nor was one solved
abbrev pub HasStopped : Search → Type 0
HasStopped t = (HasEnded t → ⊥) × (HasFound t → ⊥)

-- then as many guesses ended refuted as the limit says
abbrev pub StoppedLaw : Type 0
StoppedLaw = (s : Setting) (found : Search) → IsWholeSearch s found → HasStopped found
    → refuted_in found ≡ s.limit

-- a search that ended or found is that of each limit above its number of refuted guesses
abbrev pub EnoughLaw : Type 0
EnoughLaw = (s : Setting) (found : Search) (limit : ℕ) → IsWholeSearch s found
    → HasEnded found ⊎ HasFound found → refuted_in found < limit
    → IsWholeSearch (record { web = s.web; same_name = s.same_name; limit = limit }) found

-- the guesses under which the search was solved
abbrev pub solved_guesses : List (Guess Node) → Node → Search → List (Guess Node)
solved_guesses above a Ended = above
solved_guesses above a Stopped = above
solved_guesses above a (Found b) = guessed above a b
solved_guesses above a (Refuted b r rest) = solved_guesses above a rest
solved_guesses above a (Below b c below rest) = solved_guesses above a rest
solved_guesses above a (Open b c below) = solved_guesses (guessed above a b) c below
