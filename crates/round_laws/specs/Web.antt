-- Two graphs whose nodes are told apart round by round: agreeing, even classes, stable rounds,
-- guesses, correspondences.
use Rattle.std.specs.Prelude.{◌≡◌, ◌≢◌, ◌⊎◌, ◌<◌, ◌≤◌, ◌==◌, ◌&&◌, ◌||◌, ℕ, zero, suc, Bool, true}
use Rattle.std.specs.Prelude.{false, List, [], ◌∷◌, ◌++◌, ◌+◌, cond, count_by, Decides}
use Rattle.std.specs.List.{list_all, list_any}
use Rattle.plain_netlist.specs.Lists.{IsListed}
use Rattle.std.specs.Cmp.{IsEquivalence}
use Rattle.std.specs.Bool.{beq}

-- the kind of a terminal: either end of a device, its other terminal of this place, or a pin of a
-- called pair
pub data Port : Type 0 where
  EitherEnd : Port
  Other : (place : ℕ) → Port
  Pin : (pair number : ℕ) → Port

-- whether two terminals are of one kind
abbrev pub same_port : Port → Port → Bool
same_port EitherEnd EitherEnd = true
same_port (Other k) (Other j) = k == j
same_port (Pin p i) (Pin q j) = (p == q) && (i == j)
same_port p q = false

-- a terminal of a node, and the node that it is joined to
pub record End (N : Type 0) : Type 0 where
  pub port : Port
  pub node : N

-- the nodes of both sides, which are equal, which look alike before the first round, and the
-- terminals of each
pub record Web (N : Type 0) : Type 0 where
  pub left : List N
  pub right : List N
  pub is : N → N → Bool
  pub alike : N → N → Bool
  pub near : N → List (End N)

-- an end of the same kind of terminal, at a node that counts as the same
abbrev pub fits : {N : Type 0} → (N → N → Bool) → End N → End N → Bool
fits same c e = same_port c.port e.port && same c.node e.node

-- equal multisets: as many ends of each kind in the one list as in the other
abbrev pub same_ends : {N : Type 0} → (N → N → Bool) → List (End N) → List (End N) → Bool
same_ends same xs ys =
    list_all (λ c. count_by (fits same c) xs == count_by (fits same c) ys) (xs ++ ys)

-- whether two nodes agree in round k: so far, and by the multisets of their terminals and
-- neighbours
abbrev pub agree : {N : Type 0} → Web N → ℕ → N → N → Bool
agree w zero a b = w.alike a b
agree w (suc k) a b = agree w k a b && same_ends (agree w k) (w.near a) (w.near b)

-- a node of either side
abbrev pub IsNode : {N : Type 0} → Web N → N → Type 0
IsNode w a = IsListed a w.left ⊎ IsListed a w.right

-- equality is decided, looking alike is an equivalence, terminals stay on their side, and the sides
-- share no node
pub record IsWeb {N : Type 0} (w : Web N) : Type 0 where
  pub is : (a b : N) → Decides (w.is a b) (a ≡ b)
  pub alike : IsEquivalence w.alike
  pub left_near : (a : N) → IsListed a w.left → (e : End N) → IsListed e (w.near a)
      → IsListed e.node w.left
  pub right_near : (a : N) → IsListed a w.right → (e : End N) → IsListed e (w.near a)
      → IsListed e.node w.right
  pub apart : (a : N) → IsListed a w.left → IsListed a w.right → ⊥

-- how many left nodes agree with the node in round k
abbrev pub on_left : {N : Type 0} → Web N → ℕ → N → ℕ
on_left w k c = count_by (agree w k c) w.left

-- how many right ones
abbrev pub on_right : {N : Type 0} → Web N → ℕ → N → ℕ
on_right w k c = count_by (agree w k c) w.right

-- each class of round k has as many nodes on both sides
abbrev pub IsEven : {N : Type 0} → Web N → ℕ → Type 0
IsEven {N} w k = (c : N) → IsNode w c → on_left w k c ≡ on_right w k c

-- the class of the node in round k has unequal counts
pub record IsUneven {N : Type 0} (w : Web N) (k : ℕ) (c : N) : Type 0 where
  pub node : IsNode w c
  pub counts : on_left w k c ≢ on_right w k c

-- no class splits after round k
abbrev pub IsStable : {N : Type 0} → Web N → ℕ → Type 0
IsStable {N} w k = (a b : N) → IsNode w a → IsNode w b → agree w k a b ≡ true
    → agree w (suc k) a b ≡ true

-- refuted in round r: it is the first with unequal counts
pub record IsRefuted {N : Type 0} (w : Web N) (r : ℕ) : Type 0 where
  pub node : N
  pub uneven : IsUneven w r node
  pub before : (k : ℕ) → k < r → IsEven w k

-- solved: no round up to a stable one has unequal counts, and each stable class is one pair
pub record IsSolved {N : Type 0} (w : Web N) : Type 0 where
  pub round : ℕ
  pub stable : IsStable w round
  pub even : (k : ℕ) → k ≤ round → IsEven w k
  pub left : (c : N) → IsNode w c → on_left w round c ≡ 1
  pub right : (c : N) → IsNode w c → on_right w round c ≡ 1

-- a correspondence: a left node goes to a right node, one to one, onto all (as many right nodes
-- pass each test as left nodes by their images), to one that looks alike, with its terminals
pub record IsWebMap {N : Type 0} (w : Web N) (f : N → N) : Type 0 where
  pub there : (a : N) → IsListed a w.left → IsListed (f a) w.right
  pub one : (a b : N) → IsListed a w.left → IsListed b w.left → f a ≡ f b → a ≡ b
  pub onto : (p : N → Bool) → count_by p w.right ≡ count_by (λ a. p (f a)) w.left
  pub alike : (a : N) → IsListed a w.left → w.alike a (f a) ≡ true
  pub near : (a : N) → IsListed a w.left → (p : End N → Bool)
      → count_by p (w.near (f a))
      ≡ count_by (λ e. p (record { port = e.port; node = f e.node })) (w.near a)

-- a left node that is taken to go to a right one
pub record Guess (N : Type 0) : Type 0 where
  pub left : N
  pub right : N

-- the node is one of the guessed pair
abbrev pub names : {N : Type 0} → Web N → Guess N → N → Bool
names w g a = w.is g.left a || w.is g.right a

-- alike, and of the same guesses
abbrev pub alike_under : {N : Type 0} → Web N → List (Guess N) → N → N → Bool
alike_under w [] a b = w.alike a b
alike_under w (g ∷ gs) a b = beq (names w g a) (names w g b) && alike_under w gs a b

-- the web in which each guess gives its pair a colour of its own
abbrev pub under : {N : Type 0} → Web N → List (Guess N) → Web N
under w guesses = record {
  left = w.left;
  right = w.right;
  is = w.is;
  alike = alike_under w guesses;
  near = w.near;
}

-- the map takes each guessed left node to its right one
abbrev pub Keeps : {N : Type 0} → (N → N) → List (Guess N) → Type 0
Keeps {N} f guesses = (g : Guess N) → IsListed g guesses → f g.left ≡ g.right

-- how many of a list have none behind them that is the same
abbrev pub classes : {N : Type 0} → (N → N → Bool) → List N → ℕ
classes same [] = 0
classes same (x ∷ xs) = cond (list_any (same x) xs) 0 1 + classes same xs

-- the first of a list that passes
abbrev pub first_of : {X : Type 0} → (X → Bool) → List X → X → X
first_of p [] d = d
first_of p (x ∷ xs) d = cond (p x) x (first_of p xs d)

-- the right node of a node's class in round k
abbrev pub mate : {N : Type 0} → Web N → ℕ → N → N
mate w k a = first_of (agree w k a) w.right a
