-- Patterns of kinds: the texts that a pattern allows, and which kinds may come next in one.
use Rattle.std.specs.Prelude.{◌≡◌, ◌⊎◌, ℕ, Bool, true, false, ◌==◌, ◌&&◌, ◌||◌, List, [], ◌∷◌, ◌++◌}
use Rattle.std.specs.Prelude.{if◌then◌else◌, map}

-- nothing, one kind, one pattern behind another, either of two, any number of one
pub data Pattern : Type 0 where
  Done : Pattern
  One : (kind : ℕ) → Pattern
  Then : (a b : Pattern) → Pattern
  Or : (a b : Pattern) → Pattern
  Many : (a : Pattern) → Pattern

-- each of the texts
abbrev pub EachOf : (List ℕ → Type 0) → List (List ℕ) → Type 0
EachOf P [] = Unit {0}
EachOf P (x ∷ xs) = P x × EachOf P xs

-- the texts, one behind another
abbrev pub joined : List (List ℕ) → List ℕ
joined [] = []
joined (x ∷ xs) = x ++ joined xs

-- the pattern allows the text
abbrev pub Allows : Pattern → List ℕ → Type 0
Allows Done ks = ks ≡ []
Allows (One kind) ks = ks ≡ kind ∷ []
Allows (Then a b) ks = (xs : List ℕ) × (ys : List ℕ) × (ks ≡ xs ++ ys) × Allows a xs × Allows b ys
Allows (Or a b) ks = Allows a ks ⊎ Allows b ks
Allows (Many a) ks = (parts : List (List ℕ)) × (ks ≡ joined parts) × EachOf
    (λ xs. Allows a xs) parts

-- it allows the empty text
abbrev pub may_be_empty : Pattern → Bool
may_be_empty Done = true
may_be_empty (One kind) = false
may_be_empty (Then a b) = may_be_empty a && may_be_empty b
may_be_empty (Or a b) = may_be_empty a || may_be_empty b
may_be_empty (Many a) = true

-- one pattern behind another, where the first may be Done
abbrev pub followed_by : Pattern → Pattern → Pattern
followed_by Done b = b
followed_by (One k) b = Then (One k) b
followed_by (Then a c) b = Then (Then a c) b
followed_by (Or a c) b = Then (Or a c) b
followed_by (Many a) b = Then (Many a) b

-- a kind that may come next, and what is then left
pub record Next : Type 0 where
  pub kind : ℕ
  pub left : Pattern

-- each kind that may come next
abbrev pub nexts : Pattern → List Next
nexts Done = []
nexts (One k) = record { kind = k; left = Done } ∷ []
nexts (Then a b) = map (λ n. record { kind = n.kind; left = followed_by n.left b }) (nexts a)
    ++ (if may_be_empty a then nexts b else [])
nexts (Or a b) = nexts a ++ nexts b
nexts (Many a) = map (λ n. record { kind = n.kind; left = followed_by n.left (Many a) }) (nexts a)

-- what is left behind those of a kind
abbrev pub lefts_by : ℕ → List Next → List Pattern
lefts_by kind [] = []
lefts_by kind (n ∷ ns) = if kind == n.kind then n.left ∷ lefts_by kind ns else lefts_by kind ns

-- what may be left after one kind
abbrev pub after : ℕ → Pattern → List Pattern
after kind p = lefts_by kind (nexts p)

-- the same where one of several may be left before
abbrev pub after_any : ℕ → List Pattern → List Pattern
after_any kind [] = []
after_any kind (p ∷ ps) = after kind p ++ after_any kind ps
