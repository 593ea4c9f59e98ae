-- Nets with a terminal of a good gate, as a test.
use Rattle.std.specs.Prelude.{ℕ, Bool, ◌==◌, List}
use Rattle.std.specs.List.{list_any}
use Rattle.flat_layout.specs.GateTables.{GateEntry, Verdict, verdict_nets}

abbrev pub is_terminal : ℕ → Verdict → Bool
is_terminal x v = list_any (λ n. x == n) (verdict_nets v)

-- a good gate of the list has a terminal on the net
abbrev pub has_terminal : ℕ → List GateEntry → Bool
has_terminal x gates = list_any (λ (e : GateEntry). is_terminal x e.verdict) gates
