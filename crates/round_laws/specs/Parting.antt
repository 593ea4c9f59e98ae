-- Classes as colours, parted by the ends at some classes only; and stable classes when one more
-- pair is guessed.
use Rattle.std.specs.Prelude.{◌≡◌, ◌↔◌, ◌==◌, ◌≤◌, ℕ, Bool, true, false, List, [], ◌∷◌, ◌++◌}
use Rattle.std.specs.Prelude.{count_by}
use Rattle.round_laws.specs.Web.{Port, Web, IsWeb, IsNode, agree, IsStable, IsEven, Guess, names}
use Rattle.round_laws.specs.Web.{under}
use Rattle.round_laws.specs.Nodes.{Node}
use Rattle.round_laws.specs.Colours.{changed_ends, AreColours, ends_of, SplitsBy}

-- classes mid are parts of the classes old; of the parts of one class at most one is unchanged, and
-- those that have one have parted their neighbours already
pub record IsParted {N : Type 0} (w : Web N) (old mid : N → ℕ) (changed : N → Bool) : Type 0 where
  pub finer : (a b : N) → IsNode w a → IsNode w b → mid a ≡ mid b → old a ≡ old b
  pub kept : (a b : N) → IsNode w a → IsNode w b → changed a ≡ false → changed b ≡ false
      → old a ≡ old b → mid a ≡ mid b
  pub whole : (a b : N) → IsNode w a → IsNode w b → mid a ≡ mid b → changed a ≡ changed b
  pub steady : (a b x : N) → IsNode w a → IsNode w b → IsNode w x → mid a ≡ mid b
      → changed x ≡ false → (port : Port)
      → ends_of old port (old x) (w.near a) ≡ ends_of old port (old x) (w.near b)

-- parted by the ends at changed classes is parted by all ends
abbrev pub FewLaw : Type 0
FewLaw = (w : Web Node) (old mid new : Node → ℕ) (changed : Node → Bool) → IsWeb w
    → IsParted w old mid changed
    → SplitsBy w (λ a. changed_ends changed (w.near a)) mid new → SplitsBy w w.near mid new

-- nodes that agree in every round have one colour
abbrev pub IsCoarse : {N : Type 0} → Web N → (N → ℕ) → Type 0
IsCoarse {N} w colour =
    (a b : N) → IsNode w a → IsNode w b → ((k : ℕ) → agree w k a b ≡ true) → colour a ≡ colour b

-- nodes of one colour look alike before the first round
abbrev pub IsFine : {N : Type 0} → Web N → (N → ℕ) → Type 0
IsFine {N} w colour = (a b : N) → IsNode w a → IsNode w b → colour a ≡ colour b → w.alike a b ≡ true

-- the classes of one more guess
abbrev pub with_guess : {N : Type 0} → Web N → Guess N → Web N
with_guess w g = under w (g ∷ [])

-- the pair singled out of stable classes
abbrev pub SinglesOut : {N : Type 0} → Web N → Guess N → (N → ℕ) → (N → ℕ) → Type 0
SinglesOut {N} w g colour new = (a b : N) → IsNode w a → IsNode w b → (new a ≡ new b)
    ↔ ((colour a ≡ colour b) × (names w g a ≡ names w g b))

-- it parts stable classes in that sense
abbrev pub PairLaw : Type 0
PairLaw = (w : Web Node) (k : ℕ) (g : Guess Node) (colour new : Node → ℕ) (changed : Node → Bool)
    → IsWeb w → IsStable w k → AreColours w k colour → SinglesOut w g colour new
    → ((a b : Node) → IsNode w a → IsNode w b → changed a ≡ false → changed b ≡ false
    → colour a ≡ colour b → new a ≡ new b)
    → ((a b : Node) → IsNode w a → IsNode w b → new a ≡ new b → changed a ≡ changed b)
    → IsParted w colour new changed

-- and keeps between the classes of the guess and alike
abbrev pub StartLaw : Type 0
StartLaw = (w : Web Node) (k : ℕ) (g : Guess Node) (colour new : Node → ℕ) → IsWeb w → IsStable w k
    → AreColours w k colour → SinglesOut w g colour new
    → IsCoarse (with_guess w g) new × IsFine (with_guess w g) new

-- so does each round
abbrev pub StepLaw : Type 0
StepLaw = (w : Web Node) (colour new : Node → ℕ) → IsWeb w → SplitsBy w w.near colour new
    → IsCoarse w colour → IsFine w colour → IsCoarse w new × IsFine w new

-- classes that a round doesn't part are the stable ones
abbrev pub EndLaw : Type 0
EndLaw = (w : Web Node) (colour : Node → ℕ) (k : ℕ) → IsWeb w → SplitsBy w w.near colour colour
    → IsCoarse w colour → IsFine w colour → IsStable w k → AreColours w k colour

-- where the stable classes are even, so are unions of them
abbrev pub UnionLaw : Type 0
UnionLaw = (w : Web Node) (colour : Node → ℕ) (k : ℕ) → IsWeb w → IsStable w k → IsEven w k
    → IsCoarse w colour
    → (c : ℕ) → count_by (λ a. c == colour a) w.left ≡ count_by (λ a. c == colour a) w.right

-- classes that are even were even in each round before
abbrev pub BeforeLaw : Type 0
BeforeLaw = (w : Web Node) (k j : ℕ) → IsWeb w → IsEven w k → j ≤ k → IsEven w j

-- the last guess of a list is one guess more
abbrev pub LastLaw : Type 0
LastLaw = (w : Web Node) (guesses : List (Guess Node)) (g : Guess Node) (k : ℕ) → IsWeb w
    → (a b : Node) → IsNode w a → IsNode w b
    → agree (under w (guesses ++ g ∷ [])) k a b ≡ agree (with_guess (under w guesses) g) k a b
