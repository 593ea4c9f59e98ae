-- The report of a comparison.
use Rattle.std.specs.Prelude.{ℕ, Bool, true, false, List, [], ◌∷◌, ◌++◌, Option, Some, None}
use Rattle.std.specs.Prelude.{length, map, slice_get, codes, bytes_eq}
use Rattle.std.specs.List.{position_or_len}
use Rattle.cell_graph.specs.Linked.{Linked}
use Rattle.deep_tables.specs.declared.gates.BadGate.{BadGate}
use Rattle.match_laws.specs.Answer.{Answer}
use Rattle.match_types.specs.Plain.{plain_answer}
use Rattle.net_model.specs.Rows.{plain_netlist}
use Rattle.plain_netlist.specs.Netlist.{Circuit}
use Rattle.match_report.specs.declared.report.Compared.{Compared}
use Rattle.match_report.specs.Gates.{gate_lines}
use Rattle.match_report.specs.Pairs.{name_of, pair_texts}
use Rattle.match_report.specs.Words.{name_word, number_word}

abbrev pub lefts_of : Compared → List Circuit
lefts_of c = (plain_netlist c.left).circuits

abbrev pub rights_of : Compared → List Circuit
rights_of c = (plain_netlist c.right).circuits

abbrev pub answers_of : Compared → List Answer
answers_of c = map plain_answer c.answers

-- the schematic circuit that the left circuit of a name is paired with
abbrev pub partner_of : List Circuit → List Circuit → List ℕ → Option Circuit
partner_of lefts rights top = slice_get rights
    (position_or_len (λ c. bytes_eq top c.name) lefts)

-- the top circuit's partner, or `none`
abbrev pub partner_word : List ℕ → Option Compared → List ℕ
partner_word top None = codes " none"
partner_word top (Some c) = name_word (name_of (partner_of (lefts_of c) (rights_of c) top))

-- the line of a comparison whose circuits were merged again
abbrev pub again_line : Bool → List ℕ
again_line true = codes "combined again\n"
again_line false = []

-- the blocks of the pairs, behind that line; none where the top has no partner
abbrev pub blocks : Option Compared → List ℕ
blocks None = []
blocks (Some c) =
    again_line c.merged_again ++ pair_texts (lefts_of c) (rights_of c) 0 (answers_of c)

-- the whole report; `apart` has the lines of the pairs that were taken apart
abbrev pub report : Linked → List ℕ → List BadGate → List ℕ → Option Compared → List ℕ
report d top bad apart c = codes "lvs report 1\ntop" ++ (name_word top ++ (partner_word top c
    ++ (codes "\nbad" ++ (number_word (length bad) ++ (10 ∷ (gate_lines d bad
    ++ (apart ++ (blocks c ++ codes "end\n"))))))))
