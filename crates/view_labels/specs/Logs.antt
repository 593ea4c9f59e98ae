-- The lines that the browser shows with the pairs of circuits.
use Rattle.std.specs.Prelude.{ℕ, Bool, true, false, List, [], ◌∷◌, ◌++◌, None, drop, length, map, take}
use Rattle.std.specs.Global.{Vec}
use Rattle.cell_graph.specs.Linked.{Linked}
use Rattle.deep_tables.specs.declared.gates.BadGate.{BadGate}
use Rattle.match_laws.specs.Answer.{Answer, Match, DiffersInRound, DiffersByTree, Undecided}
use Rattle.match_laws.specs.Answer.{Skipped}
use Rattle.match_report.specs.Pairs.{answer_text}
use Rattle.match_report.specs.Report.{report}
use Rattle.plain_netlist.specs.Netlist.{Circuit}
use Rattle.rule_lines.specs.Lines.{lines_of}

abbrev pub texts_of : List (Vec ℕ) → List (List ℕ)
texts_of lines = map (λ line. line.items) lines

-- what a report has behind the names of a pair, without the blank before it; of a match nothing
abbrev pub behind_names : List Circuit → Answer → List ℕ
behind_names lefts (Match f) = []
behind_names lefts (DiffersInRound r a n m) =
    drop 1 (answer_text lefts [] [] (DiffersInRound r a n m))
behind_names lefts (DiffersByTree gs) = drop 1 (answer_text lefts [] [] (DiffersByTree gs))
behind_names lefts (Undecided gs) = drop 1 (answer_text lefts [] [] (Undecided gs))
behind_names lefts (Skipped q) = drop 1 (answer_text lefts [] [] (Skipped q))

abbrev pub answer_log : List Circuit → Answer → List (List ℕ)
answer_log lefts answer = lines_of (behind_names lefts answer)

-- a report's lines of the bad gates: they stand behind its first three
abbrev pub gate_log : Linked → List ℕ → List BadGate → List (List ℕ)
gate_log d top bad = take (length bad) (drop 3 (lines_of (report d top bad [] None)))

-- a pair's lines; with the last pair those of the bad gates too
abbrev pub pair_log : List Circuit → List (List ℕ) → Bool → Answer → List (List ℕ)
pair_log lefts gates false a = answer_log lefts a
pair_log lefts gates true a = answer_log lefts a ++ gates

abbrev pub pair_logs : List Circuit → List (List ℕ) → List Answer → List (List (List ℕ))
pair_logs lefts gates [] = []
pair_logs lefts gates (a ∷ []) = pair_log lefts gates true a ∷ []
pair_logs lefts gates (a ∷ b ∷ more) =
    pair_log lefts gates false a ∷ pair_logs lefts gates (b ∷ more)
