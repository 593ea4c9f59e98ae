-- Where elements begin and end.
use Rattle.std.specs.Prelude.{ℕ, Bool, ◌==◌, ◌||◌}
use Rattle.gds_records.specs.Kinds.{BOUNDARY, PATH, SREF, AREF, TEXT, ENDEL, NODE, BOX}

-- an element begins
abbrev pub is_start : ℕ → Bool
is_start kind = kind == BOUNDARY || kind == PATH || kind == SREF || kind == AREF || kind == TEXT
    || kind == NODE || kind == BOX

-- a boundary or a path: its points may stand in several records
abbrev pub is_line : ℕ → Bool
is_line kind = kind == BOUNDARY || kind == PATH

-- an element begins or ends
abbrev pub is_bound : ℕ → Bool
is_bound kind = is_start kind || kind == ENDEL
