-- Which pairs are taken apart after a comparison.
use Rattle.std.specs.Prelude.{◌≡◌, ℕ, ◌+◌, Bool, true, false, ◌==◌, ◌&&◌, ◌||◌, nat_lt, List}
use Rattle.std.specs.Prelude.{◌∷◌, length, slice_index_or, if◌then◌else◌}
use Rattle.plain_netlist.specs.Netlist.{Circuit, Netlist}
use Rattle.match_laws.specs.Answer.{Answer}
use Rattle.pair_jobs.specs.Answers.{is_difference}
use Rattle.composed_laws.specs.Answered.{is_called}

abbrev pub calls_none : Circuit → Bool
calls_none c = length c.calls == 0

-- pair j of n differs, so pair k is taken apart: those that its circuits call on either side; where
-- they call none, the pair itself, but for the last, that of the tops
abbrev pub takes_apart : ℕ → ℕ → Circuit → Circuit → ℕ → Bool
takes_apart n j c d k =
    if calls_none c && calls_none d then (k == j) && nat_lt (j + 1) n
    else is_called c k || is_called d k

-- so for one of the pairs from the j-th on
abbrev pub goes_from : ℕ → ℕ → List Circuit → List Circuit → List Answer → ℕ → Bool
goes_from n j (c ∷ cs) (d ∷ ds) (a ∷ more) k =
    (is_difference a && takes_apart n j c d k) || goes_from n (j + 1) cs ds more k
goes_from n j _ _ _ k = false

-- pair k is taken apart after a comparison with these answers
abbrev pub goes : Netlist → Netlist → List Answer → ℕ → Bool
goes left right answers k = goes_from (length answers) 0 left.circuits right.circuits answers k

-- for each pair whether it is taken apart
pub record AreGoing (left right : Netlist) (answers : List Answer) (marks : List Bool) : Type 0
  where
    pub long : length marks ≡ length answers
    pub each : (k : ℕ) → slice_index_or marks k false ≡ goes left right answers k
