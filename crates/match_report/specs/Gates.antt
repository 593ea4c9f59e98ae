-- The lines of bad gates: cell, class, least square, cause.
use Rattle.std.specs.Prelude.{ℕ, List, [], ◌∷◌, ◌++◌, Option, Some, None, codes, decimal}
use Rattle.std.specs.Fmt.{signed_decimal}
use Rattle.cell_graph.specs.Linked.{Linked, cell_at}
use Rattle.cell_graph.specs.declared.cells.CellPart.{CellPart}
use Rattle.geo_base.specs.declared.shapes.Square.{Square}
use Rattle.deep_tables.specs.declared.gates.BadGate.{BadGate}
use Rattle.match_report.specs.Words.{name_word}
use Rattle.flat_layout.specs.declared.cause.GateCause.{GateCause}
use Rattle.flat_layout.specs.declared.cause.GateCause.TheVariants.{Groups, OffGate, OffSd}
use Rattle.flat_layout.specs.declared.cause.GateCause.TheVariants.{NoBulk, NoLength}

abbrev pub cause_word : GateCause → List ℕ
cause_word (Groups n) = codes " groups-" ++ decimal n
cause_word OffGate = codes " off-gate"
cause_word OffSd = codes " off-sd"
cause_word NoBulk = codes " no-bulk"
cause_word NoLength = codes " no-length"

abbrev pub name_of : Option CellPart → List ℕ
name_of None = []
name_of (Some c) = c.name

-- x and y
abbrev pub square_words : Square → List ℕ
square_words q = 0x20 ∷ (signed_decimal q.x ++ 0x20 ∷ signed_decimal q.y)

-- `gate CELL CLASS X Y CAUSE`
abbrev pub gate_line : Linked → BadGate → List ℕ
gate_line d x = codes "gate" ++ (name_word (name_of (cell_at d x.cell)) ++ (name_word x.class
    ++ (square_words x.least ++ (cause_word x.cause ++ 10 ∷ []))))

abbrev pub gate_lines : Linked → List BadGate → List ℕ
gate_lines d [] = []
gate_lines d (x ∷ xs) = gate_line d x ++ gate_lines d xs
