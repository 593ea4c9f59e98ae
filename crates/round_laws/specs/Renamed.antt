-- Two webs that are one but for the names of their nodes and terminals.
use Rattle.std.specs.Prelude.{◌≡◌, ℕ, Bool, true, List, map, count_by}
use Rattle.plain_netlist.specs.Lists.{IsListed}
use Rattle.round_laws.specs.Web.{Port, End, Web, IsWeb, IsNode, agree, Guess, under}
use Rattle.round_laws.specs.Nodes.{Node}

-- the same end by its other names
abbrev pub renamed_end : {N M : Type 0} → (N → M) → (Port → Port) → End N → End M
renamed_end name port e = record { port = port e.port; node = name e.node }

abbrev pub renamed_guess : {N M : Type 0} → (N → M) → Guess N → Guess M
renamed_guess name g = record { left = name g.left; right = name g.right }

-- web v is web w by other names; terminals of two kinds may have one name, where no nodes that look
-- alike have both
pub record IsRenamed {N M : Type 0} (w : Web N) (v : Web M) (name : N → M)
    (port : Port → Port) : Type 0 where
  pub left : v.left ≡ map name w.left
  pub right : v.right ≡ map name w.right
  pub is : (a b : N) → IsNode w a → IsNode w b → v.is (name a) (name b) ≡ w.is a b
  pub alike : (a b : N) → IsNode w a → IsNode w b → v.alike (name a) (name b) ≡ w.alike a b
  pub near : (a : N) → IsNode w a → (p : End M → Bool)
      → count_by p (v.near (name a)) ≡ count_by (λ e. p (renamed_end name port e)) (w.near a)
  pub ports : (a b : N) → IsNode w a → IsNode w b → w.alike a b ≡ true → (d e : End N)
      → IsListed d (w.near a) → IsListed e (w.near b)
      → w.alike d.node e.node ≡ true → port d.port ≡ port e.port → d.port ≡ e.port

-- the guesses are of nodes
abbrev pub AreOfNodes : {N : Type 0} → Web N → List (Guess N) → Type 0
AreOfNodes {N} w guesses = (g : Guess N) → IsListed g guesses → IsNode w g.left × IsNode w g.right

-- then nodes agree in a round under guesses exactly where they do by their other names
abbrev pub RenamedLaw : Type 0
RenamedLaw = (w : Web Node) (v : Web ℕ) (name : Node → ℕ) (port : Port → Port)
    (guesses : List (Guess Node)) → IsWeb w → IsWeb v → IsRenamed w v name port
    → AreOfNodes w guesses
    → (k : ℕ) (a b : Node) → IsNode w a → IsNode w b
    → agree (under v (map (renamed_guess name) guesses)) k (name a) (name b)
    ≡ agree (under w guesses) k a b
