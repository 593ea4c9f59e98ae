-- A row for a node and its partner, or for one that has none.
use Rattle.std.specs.Prelude.{ℕ, ◌+◌, List, [], ◌∷◌, ◌++◌, Option, Some, None, codes, decimal}
use Rattle.view_cross.specs.declared.rows.Kind.{Kind}
use Rattle.view_cross.specs.declared.rows.Kind.TheVariants.{Net, Pin, Device, Call}
use Rattle.view_cross.specs.declared.rows.Mark.{Mark}
use Rattle.view_cross.specs.declared.rows.Mark.TheVariants.{Matched, Mismatched, Warned, Skipped}
use Rattle.view_cross.specs.declared.rows.Mark.TheVariants.{Unmatched}
use Rattle.view_cross.specs.declared.rows.Row.{Row}

abbrev pub kind_letter : Kind → ℕ
kind_letter Net = 0x4E
kind_letter Pin = 0x50
kind_letter Device = 0x44
kind_letter Call = 0x58

-- what the reader takes as match, mismatch, match with a warning, skipped and no match
abbrev pub mark_letter : Mark → ℕ
mark_letter Matched = 0x31
mark_letter Mismatched = 0x30
mark_letter Warned = 0x57
mark_letter Skipped = 0x53
mark_letter Unmatched = 0x58

-- nets, devices and calls count from 1, pins from 0
abbrev pub first_number : Kind → ℕ
first_number Net = 1
first_number Pin = 0
first_number Device = 1
first_number Call = 1

-- the number of a node, or empty brackets where there is none
abbrev pub side_text : Kind → Option ℕ → List ℕ
side_text kind None = codes "()"
side_text kind (Some k) = decimal (k + first_number kind)

-- the row `KIND(LEFT RIGHT MARK)`
abbrev pub row_text : Row → List ℕ
row_text r = codes "\n   " ++ (kind_letter r.kind ∷ 0x28 ∷ (side_text r.kind r.left
    ++ (0x20 ∷ (side_text r.kind r.right ++ (0x20 ∷ mark_letter r.mark ∷ 0x29 ∷ [])))))

abbrev pub row_texts : List Row → List ℕ
row_texts [] = []
row_texts (r ∷ rows) = row_text r ++ row_texts rows
