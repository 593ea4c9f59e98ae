-- The section of partners: `Z(..)`.
use Rattle.std.specs.Prelude.{ℕ, ◌+◌, List, [], ◌∷◌, ◌++◌, Option, Some, None, codes, get_or, map}
use Rattle.std.specs.Prelude.{slice_get}
use Rattle.std.specs.Global.{Vec}
use Rattle.match_laws.specs.Answer.{Answer, Match, DiffersInRound, DiffersByTree, Undecided}
use Rattle.match_laws.specs.Answer.{Skipped}
use Rattle.plain_netlist.specs.Netlist.{Circuit}
use Rattle.view_cross.specs.Matched.{apart_rows, matched_rows}
use Rattle.view_cross.specs.Pair.{pair_text}
use Rattle.view_cross.specs.Whole.{counts_of}
use Rattle.view_cross.specs.declared.matched.Counts.{Counts}
use Rattle.view_cross.specs.declared.rows.Mark.{Mark}
use Rattle.view_cross.specs.declared.rows.Mark.TheVariants.{Matched, Unmatched}
use Rattle.view_cross.specs.declared.rows.Mark.TheVariants.{Skipped as Passed}
use Rattle.view_cross.specs.declared.rows.Row.{Row}

-- the mark of a pair with this answer
abbrev pub mark_of : Answer → Mark
mark_of (Match f) = Matched
mark_of (DiffersInRound round a n m) = Unmatched
mark_of (DiffersByTree guesses) = Unmatched
mark_of (Undecided guesses) = Passed
mark_of (Skipped pair) = Passed

-- the lines of the logs, by circuit; none past the last
abbrev pub logs_of : List (Vec (Vec ℕ)) → List (List (List ℕ))
logs_of logs = map (λ log. map (λ line. line.items) log.items) logs

abbrev pub log_at : List (List (List ℕ)) → ℕ → List (List ℕ)
log_at logs k = get_or logs k []

abbrev pub no_counts : Counts
no_counts = record { nets = 0; pins = 0; devices = 0; calls = 0 }

-- the proposals of pairs, by number; none past the last
abbrev pub lists_of : List (Vec Row) → List (List Row)
lists_of proposals = map (λ rows. rows.items) proposals

-- the rows of circuits that don't match: as proposed, or each node alone
abbrev pub proposed : Circuit → Circuit → Option (List Row) → List Row
proposed a b (Some rows) = rows
proposed a b None = apart_rows (counts_of a) (counts_of b)

-- the rows of a pair: of a match all partners
abbrev pub rows_of : Circuit → Circuit → Option (List Row) → Answer → List Row
rows_of a b p (Match f) = matched_rows f.nets a.pins b.pins f.devices f.calls
rows_of a b p (DiffersInRound round k n m) = proposed a b p
rows_of a b p (DiffersByTree guesses) = proposed a b p
rows_of a b p (Undecided guesses) = proposed a b p
rows_of a b p (Skipped pair) = proposed a b p

-- a pair, the left circuit by the name that the layout's section gives it
abbrev pub answered : List ℕ → List (List ℕ) → Circuit → Circuit → Option (List Row) → Answer
    → List ℕ
answered name log a b p x = pair_text name b.name (mark_of x) log (rows_of a b p x)

abbrev pub answered_both : List ℕ → List (List ℕ) → Option Circuit → Option Circuit
    → Option (List Row) → Answer → List ℕ
answered_both name log None b p x = []
answered_both name log (Some a) None p x = []
answered_both name log (Some a) (Some b) p x = answered name log a b p x

-- the pairs of circuits of one number, from the k-th
abbrev pub pair_texts : List (List ℕ) → List (List (List ℕ)) → List Circuit → List Circuit
    → List (List Row) → ℕ → List Answer → List ℕ
pair_texts names logs lefts rights proposals k [] = []
pair_texts names logs lefts rights proposals k (x ∷ xs) =
    answered_both (get_or names k []) (log_at logs k) (slice_get lefts k) (slice_get rights k)
    (slice_get proposals k) x ++ pair_texts names logs lefts rights proposals (k + 1) xs

-- circuits without a partner
abbrev pub left_texts : List (List ℕ) → List (List (List ℕ)) → ℕ → List Circuit → List ℕ
left_texts names logs k [] = []
left_texts names logs k (a ∷ rest) =
    pair_text (get_or names k []) [] Unmatched (log_at logs k)
    (apart_rows (counts_of a) no_counts) ++ left_texts names logs (k + 1) rest

abbrev pub right_texts : List Circuit → List ℕ
right_texts [] = []
right_texts (b ∷ rest) =
    pair_text [] b.name Unmatched [] (apart_rows no_counts (counts_of b))
    ++ right_texts rest

-- the pairs with their answers; without answers no circuit has a partner
abbrev pub all_texts : List (List ℕ) → List (List (List ℕ)) → List Circuit → List Circuit
    → List (List Row) → Option (List Answer) → List ℕ
all_texts names logs lefts rights proposals (Some xs) =
    pair_texts names logs lefts rights proposals 0 xs
all_texts names logs lefts rights proposals None = left_texts names logs 0 lefts
    ++ right_texts rights

abbrev pub cross_text : List (List ℕ) → List (List (List ℕ)) → List Circuit → List Circuit
    → List (List Row) → Option (List Answer) → List ℕ
cross_text names logs lefts rights proposals answers =
    codes "\nZ(" ++ (all_texts names logs lefts rights proposals answers ++ codes "\n)\n")
