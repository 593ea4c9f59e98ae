-- A pair of circuits: both names, its mark, the lines of its log, and its rows.
use Rattle.std.specs.Prelude.{ℕ, List, [], ◌∷◌, ◌++◌, codes}
use Rattle.view_words.specs.Words.{word}
use Rattle.view_cross.specs.declared.rows.Mark.{Mark}
use Rattle.view_cross.specs.declared.rows.Row.{Row}
use Rattle.view_cross.specs.Rows.{mark_letter, row_texts}

-- a circuit's name, or empty brackets for an empty one: there is no circuit
abbrev pub name_text : List ℕ → List ℕ
name_text [] = codes "()"
name_text (b ∷ bytes) = word (b ∷ bytes)

-- a message `M(E B(LINE))`
abbrev pub line_text : List ℕ → List ℕ
line_text line = codes "\n   M(E B(" ++ (word line ++ codes "))")

abbrev pub line_texts : List (List ℕ) → List ℕ
line_texts [] = []
line_texts (line ∷ lines) = line_text line ++ line_texts lines

-- no log where there are no lines
abbrev pub log_text : List (List ℕ) → List ℕ
log_text [] = []
log_text (line ∷ lines) = codes "\n  L(" ++ (line_texts (line ∷ lines) ++ codes "\n  )")

-- `X(LEFT RIGHT MARK`
abbrev pub head_text : List ℕ → List ℕ → Mark → List ℕ
head_text left right mark = codes "\n X(" ++ (name_text left ++ (0x20 ∷ (name_text right
    ++ (0x20 ∷ mark_letter mark ∷ []))))

-- `Z(ROWS) )`
abbrev pub body_text : List Row → List ℕ
body_text rows = codes "\n  Z(" ++ (row_texts rows ++ codes "\n  )\n )")

-- `X(LEFT RIGHT MARK L(..) Z(..))`
abbrev pub pair_text : List ℕ → List ℕ → Mark → List (List ℕ) → List Row
    → List ℕ
pair_text left right mark log rows =
    head_text left right mark ++ (log_text log ++ body_text rows)
