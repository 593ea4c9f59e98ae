-- A search that is under way: the levels that are open, and what each has tried.
use Rattle.std.specs.Prelude.{◌≡◌, ◌↔◌, ◌+◌, ℕ, suc, List, [], ◌∷◌, ◌++◌, length}
use Rattle.round_laws.specs.Web.{IsRefuted, Guess, under}
use Rattle.round_laws.specs.Nodes.{Node}
use Rattle.round_laws.specs.Guesses.{Setting, IsChosen, candidates, Search, Ended, Refuted, Below}
use Rattle.round_laws.specs.Guesses.{refuted_in, HasEnded, HasFound, solved_guesses, guessed}
use Rattle.round_laws.specs.Guesses.{IsNext, IsSearch, Row, IsOpen, rows}

-- a candidate that was tried, to no avail
pub data Entry : Type 0 where
  WasRefuted : (right : Node) (round : ℕ) → Entry
  WasBelow : (right chosen : Node) (below : Search) → Entry

-- the search that these entries begin
abbrev pub add : List Entry → Search → Search
add [] t = t
add (WasRefuted b r ∷ es) t = Refuted b r (add es t)
add (WasBelow b c below ∷ es) t = Below b c below (add es t)

-- how many of them ended refuted
abbrev pub refuted_of : List Entry → ℕ
refuted_of [] = 0
refuted_of (WasRefuted b r ∷ es) = suc (refuted_of es)
refuted_of (WasBelow b c below ∷ es) = refuted_in below + refuted_of es

-- one node's candidates: at first, and how far they are tried
pub record Level : Type 0 where
  pub above : List (Guess Node)
  pub node : Node
  pub tries : List Node
  pub start : ℕ
  pub done : List Entry
  pub rest : List Node

-- refuted guesses so far
abbrev pub used : Level → ℕ
used l = l.start + refuted_of l.done

-- whatever comes of the rest, with what was done it is a search of the level
abbrev pub IsLevel : Setting → Level → Type 0
IsLevel s l = (t : Search) → IsSearch s l.above l.node l.rest (used l) t
    → IsSearch s l.above l.node l.tries l.start (add l.done t)

-- the level above tries a candidate, and the level stands below that guess
pub record IsUnder (s : Setting) (outer inner : Level) : Type 0 where
  pub right : Node
  pub rest : List Node
  pub next : IsNext s outer.rest (used outer) right rest
  pub round : ℕ
  pub chosen : IsChosen (under s.web (guessed outer.above outer.node right)) round inner.node
  pub above : inner.above ≡ guessed outer.above outer.node right
  pub tries : inner.tries
      ≡ candidates s (under s.web (guessed outer.above outer.node right)) round inner.node
  pub start : inner.start ≡ used outer

-- the levels, the innermost first, down to the first one
abbrev pub IsStack : Setting → Level → Level → List Level → Type 0
IsStack s first l [] = (first.above ≡ l.above) × (first.node ≡ l.node) × (first.tries ≡ l.tries)
    × (first.start ≡ l.start) × IsLevel s l
IsStack s first l (o ∷ os) = IsLevel s l × IsUnder s o l × IsStack s first o os

-- the level after a candidate was refuted
abbrev pub refute : Level → Node → ℕ → List Node → Level
refute l b r bs = record {
  above = l.above;
  node = l.node;
  tries = l.tries;
  start = l.start;
  done = l.done ++ WasRefuted b r ∷ [];
  rest = bs;
}

-- the level after all guesses below a candidate ended
abbrev pub pass : Level → Node → Node → Search → List Node → Level
pass l b c below bs = record {
  above = l.above;
  node = l.node;
  tries = l.tries;
  start = l.start;
  done = l.done ++ WasBelow b c below ∷ [];
  rest = bs;
}

-- a step of the code at the innermost level
abbrev pub RefuteLaw : Type 0
RefuteLaw = (s : Setting) (l : Level) (b : Node) (r : ℕ) (bs : List Node) → IsLevel s l
    → IsNext s l.rest (used l) b bs → IsRefuted (under s.web (guessed l.above l.node b)) r
    → IsLevel s (refute l b r bs)

abbrev pub PassLaw : Type 0
PassLaw = (s : Setting) (o l : Level) (h : IsUnder s o l) → IsLevel s o → IsLevel s l → l.rest ≡ []
    → IsLevel s (pass o h.right l.node (add l.done Ended) h.rest)

-- the rows of the outer levels, down to the guesses that are left open
abbrev pub outer_rows : (s : Setting) (first l : Level) (os : List Level) → IsStack s first l os
    → List Row
outer_rows s first l [] stack = []
outer_rows s first l (o ∷ os) stack =
    outer_rows s first o os stack.2 ++ (rows (suc (length os)) o.node (add o.done Ended)
    ++ record { depth = suc (length os); left = o.node; right = stack.1.right; outcome = IsOpen }
    ∷ [])

-- the whole search that a stack comes to where its innermost level comes to t: as t found or
-- stopped, so does the whole
pub record IsClosed (s : Setting) (first l : Level) (os : List Level)
    (stack : IsStack s first l os) (t whole : Search) : Type 0 where
  pub search : IsSearch s first.above first.node first.tries first.start whole
  pub unended : HasEnded whole → ⊥
  pub found : HasFound whole ↔ HasFound t
  pub guesses : solved_guesses first.above first.node whole ≡ solved_guesses l.above l.node t
  pub report : rows 1 first.node whole
      ≡ outer_rows s first l os stack ++ rows (suc (length os)) l.node t

-- where the innermost level stops or finds, so does the whole
abbrev pub CloseLaw : Type 0
CloseLaw =
    (s : Setting) (first l : Level) (os : List Level) (t : Search) (stack : IsStack s first l os)
    → IsSearch s l.above l.node l.tries l.start t → (HasEnded t → ⊥)
    → (whole : Search) × IsClosed s first l os stack t whole

-- rows of what was done come before those of the rest
abbrev pub RowsLaw : Type 0
RowsLaw = (depth : ℕ) (a : Node) (done : List Entry) (t : Search)
    → rows depth a (add done t) ≡ rows depth a (add done Ended) ++ rows depth a t
