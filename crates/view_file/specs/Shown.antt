-- The section of partners over the record that the code has of what is shown.
use Rattle.std.specs.Prelude.{ℕ, List, [], Option, get_or, map, slice_get}
use Rattle.std.specs.Option.{option_map}
use Rattle.match_laws.specs.Answer.{Answer}
use Rattle.match_types.specs.Plain.{plain_answer}
use Rattle.net_model.specs.Rows.{plain_circuit}
use Rattle.view_file.specs.Cross.{answered_both, cross_text, lists_of, log_at, logs_of, pair_texts}
use Rattle.view_file.specs.declared.cross.Shown.{Shown}

abbrev pub answers_in : Shown → Option (List Answer)
answers_in s = option_map (λ found. map plain_answer found.now) s.answers

-- the pair of a number with this answer
abbrev pub answered_at : List (List ℕ) → Shown → ℕ → Answer → List ℕ
answered_at names s k x = answered_both (get_or names k []) (log_at (logs_of s.logs.now) k)
    (slice_get (map plain_circuit s.lefts.now) k) (slice_get (map plain_circuit s.rights.now) k)
    (slice_get (lists_of s.proposals.now) k) x

-- the pairs from the k-th with these answers
abbrev pub pairs_from : List (List ℕ) → Shown → ℕ → List Answer → List ℕ
pairs_from names s k xs = pair_texts names (logs_of s.logs.now) (map plain_circuit s.lefts.now)
    (map plain_circuit s.rights.now) (lists_of s.proposals.now) k xs

abbrev pub shown_text : List (List ℕ) → Shown → List ℕ
shown_text names s = cross_text names (logs_of s.logs.now) (map plain_circuit s.lefts.now)
    (map plain_circuit s.rights.now) (lists_of s.proposals.now) (answers_in s)
