-- The block of a pair of circuits: its line, and what its answer shows.
use Rattle.std.specs.Prelude.{ℕ, ◌+◌, List, [], ◌∷◌, ◌++◌, Option, Some, None, slice_get, codes}
use Rattle.round_laws.specs.Guesses.{Row, Outcome, IsRefutedIn, IsBelow, IsOpen}
use Rattle.round_laws.specs.Nodes.{Node}
use Rattle.match_laws.specs.Circuits.{Pairing}
use Rattle.match_laws.specs.Answer.{Answer, Match, DiffersInRound, DiffersByTree, Undecided}
use Rattle.match_laws.specs.Answer.{Skipped}
use Rattle.plain_netlist.specs.Netlist.{Circuit}
use Rattle.match_report.specs.Words.{name_word, name_at, number_word, place_word, side_word}
use Rattle.match_report.specs.Words.{kind_word}

abbrev pub name_of : Option Circuit → List ℕ
name_of None = []
name_of (Some c) = c.name

abbrev pub nets_of : Option Circuit → List (List ℕ)
nets_of None = []
nets_of (Some c) = c.nets

-- `net LEFT RIGHT` for each left net, from the k-th
abbrev pub net_lines : List (List ℕ) → List (List ℕ) → ℕ → List ℕ → List ℕ
net_lines left right k [] = []
net_lines left right k (n ∷ ns) = codes "net" ++ (name_word (name_at left k)
    ++ (name_word (name_at right n) ++ (10 ∷ net_lines left right (k + 1) ns)))

-- `device K K'` or `call K K'`, from the k-th
abbrev pub place_lines : List ℕ → ℕ → List ℕ → List ℕ
place_lines kind k [] = []
place_lines kind k (n ∷ ns) = kind ++ (place_word k ++ (place_word n
    ++ (10 ∷ place_lines kind (k + 1) ns)))

-- all nets, devices and calls of a match
abbrev pub match_lines : List (List ℕ) → List (List ℕ) → Pairing → List ℕ
match_lines left right f = net_lines left right 0 f.nets
    ++ (place_lines (codes "device") 0 f.devices ++ place_lines (codes "call") 0 f.calls)

-- `SIDE KIND K`
abbrev pub node_words : Node → List ℕ
node_words a = side_word a.side ++ (kind_word a.kind ++ place_word a.number)

-- `layout A schematic B`
abbrev pub count_words : ℕ → ℕ → List ℕ
count_words left right = codes " layout" ++ (number_word left
    ++ (codes " schematic" ++ number_word right))

-- `round R of SIDE KIND K layout A schematic B`
abbrev pub round_line : ℕ → Node → ℕ → ℕ → List ℕ
round_line round a left right = codes "round" ++ (number_word round ++ (codes " of"
    ++ (node_words a ++ (count_words left right ++ 10 ∷ []))))

abbrev pub end_word : Outcome → List ℕ
end_word (IsRefutedIn round) = number_word round
end_word IsBelow = codes " below"
end_word IsOpen = codes " open"

-- `guess D KIND K K' END`
abbrev pub guess_line : Row → List ℕ
guess_line g = codes "guess" ++ (number_word g.depth ++ (kind_word g.left.kind
    ++ (place_word g.left.number ++ (place_word g.right.number ++ (end_word g.outcome
    ++ 10 ∷ [])))))

abbrev pub guess_lines : List Row → List ℕ
guess_lines [] = []
guess_lines (g ∷ gs) = guess_line g ++ guess_lines gs

-- what stands behind the names of the two circuits
abbrev pub answer_text : List Circuit → List (List ℕ) → List (List ℕ) → Answer → List ℕ
answer_text lefts left right (Match f) = codes " match\n" ++ match_lines left right f
answer_text lefts left right (DiffersInRound round a n m) =
    codes " differs\n" ++ round_line round a n m
answer_text lefts left right (DiffersByTree guesses) = codes " differs\n" ++ guess_lines guesses
answer_text lefts left right (Undecided guesses) = codes " undecided\n" ++ guess_lines guesses
answer_text lefts left right (Skipped pair) =
    codes " skipped" ++ (name_word (name_of (slice_get lefts pair)) ++ 10 ∷ [])

-- `pair LEFT RIGHT` and the answer
abbrev pub pair_text : List Circuit → Option Circuit → Option Circuit → Answer → List ℕ
pair_text lefts left right answer = codes "pair" ++ (name_word (name_of left)
    ++ (name_word (name_of right) ++ answer_text lefts (nets_of left) (nets_of right) answer))

-- the pairs' blocks, from the k-th
abbrev pub pair_texts : List Circuit → List Circuit → ℕ → List Answer → List ℕ
pair_texts lefts rights k [] = []
pair_texts lefts rights k (a ∷ more) = pair_text lefts (slice_get lefts k) (slice_get rights k) a
    ++ pair_texts lefts rights (k + 1) more
