-- Colours in place of classes: a round by colours, and a round that looks at changed neighbours
-- alone.
use Rattle.std.specs.Prelude.{◌≡◌, ◌↔◌, ℕ, suc, ◌==◌, ◌&&◌, Bool, true, false, List, [], filter}
use Rattle.std.specs.Prelude.{count_by}
use Rattle.round_laws.specs.Web.{Port, same_port, End, Web, IsWeb, IsNode, agree, same_ends}
use Rattle.round_laws.specs.Nodes.{Node}

-- changed nodes: of each class of round k at most one class of round k + 1 kept its colour, and a
-- class changes as a whole
pub record IsChanged {N : Type 0} (w : Web N) (k : ℕ) (changed : N → Bool) : Type 0 where
  pub kept : (a b : N) → IsNode w a → IsNode w b → changed a ≡ false → changed b ≡ false
      → agree w k a b ≡ true → agree w (suc k) a b ≡ true
  pub whole : (a b : N) → IsNode w a → IsNode w b → agree w (suc k) a b ≡ true
      → changed a ≡ changed b

-- the ends at changed nodes
abbrev pub changed_ends : {N : Type 0} → (N → Bool) → List (End N) → List (End N)
changed_ends changed es = filter (λ e. changed e.node) es

-- nodes that agree so far agree further exactly where their changed neighbours do
abbrev pub FastLaw : Type 0
FastLaw = (w : Web Node) (k : ℕ) (changed : Node → Bool) → IsWeb w → IsChanged w k changed
    → (a b : Node) → IsNode w a → IsNode w b → agree w (suc k) a b ≡ true
    → agree w (suc (suc k)) a b
    ≡ same_ends (agree w (suc k)) (changed_ends changed (w.near a))
    (changed_ends changed (w.near b))

-- two nodes with no changed neighbour stay together
abbrev pub QuietLaw : Type 0
QuietLaw = (w : Web Node) (k : ℕ) (changed : Node → Bool) → IsWeb w → IsChanged w k changed
    → (a b : Node) → IsNode w a → IsNode w b → agree w (suc k) a b ≡ true
    → changed_ends changed (w.near a) ≡ [] → changed_ends changed (w.near b) ≡ []
    → agree w (suc (suc k)) a b ≡ true

-- colours stand for agreeing in round k
abbrev pub AreColours : {N : Type 0} → Web N → ℕ → (N → ℕ) → Type 0
AreColours {N} w k colour = (a b : N) → IsNode w a → IsNode w b
    → (colour a ≡ colour b) ↔ (agree w k a b ≡ true)

-- how many ends of one port are at nodes of one colour
abbrev pub ends_of : {N : Type 0} → (N → ℕ) → Port → ℕ → List (End N) → ℕ
ends_of colour port c es = count_by (λ e. same_port port e.port && (c == colour e.node)) es

-- new colours split the old ones by these counts over the ends that are looked at
abbrev pub SplitsBy : {N : Type 0} → Web N → (N → List (End N)) → (N → ℕ) → (N → ℕ) → Type 0
SplitsBy {N} w ends colour new = (a b : N) → IsNode w a → IsNode w b
    → (new a ≡ new b)
    ↔ ((colour a ≡ colour b)
    × ((port : Port) (c : ℕ) → ends_of colour port c (ends a) ≡ ends_of colour port c (ends b)))

-- a round by all ends
abbrev pub RoundLaw : Type 0
RoundLaw = (w : Web Node) (k : ℕ) (colour new : Node → ℕ) → IsWeb w → AreColours w k colour
    → SplitsBy w w.near colour new → AreColours w (suc k) new

-- a round by the ends at changed nodes alone
abbrev pub FastRoundLaw : Type 0
FastRoundLaw = (w : Web Node) (k : ℕ) (changed : Node → Bool) (colour new : Node → ℕ) → IsWeb w
    → IsChanged w k changed → AreColours w (suc k) colour
    → SplitsBy w (λ a. changed_ends changed (w.near a)) colour new → AreColours w (suc (suc k)) new
