-- The rows that choose regions of a layer: by what they have with another, or by their area.
use Rattle.std.specs.Prelude.{ℕ, ◌+◌, Bool, true, false, ◌&&◌, ◌||◌, List, [], ◌∷◌, codes, Option}
use Rattle.std.specs.Prelude.{Some, None, is_some, unwrap_or, if◌then◌else◌}
use Rattle.std.specs.Str.{bytes_eq}
use Rattle.rule_lines.specs.Tokens.{Token}
use Rattle.rule_text.specs.declared.rules.Ask.{Ask}
use Rattle.rule_text.specs.declared.rules.Ask.TheVariants.{Interacting, Overlapping, Inside}
use Rattle.rule_text.specs.declared.rules.Ask.TheVariants.{Outside, WithArea}
use Rattle.rule_text.specs.Rows.{Slot, Fresh, Name, Area, Bound, Sign, EQUALS, DOT, OPEN, COMMA}
use Rattle.rule_text.specs.Rows.{CLOSE, Statement, Choose, fits, word_at, area_at}

-- N = A.WORD and what stands behind it
abbrev pub call_row : List Slot → List Slot
call_row given = Fresh ∷ Sign EQUALS ∷ Name ∷ Sign DOT ∷ Name ∷ Sign OPEN ∷ given

-- N = A.interacting(B), and so for the other words
abbrev pub asked_row : List Slot
asked_row = call_row (Name ∷ Sign CLOSE ∷ [])

-- N = A.with_area(V) and N = A.without_area(V)
abbrev pub area_row : List Slot
area_row = call_row (Area ∷ Sign CLOSE ∷ [])

-- N = A.with_area(L, H) and N = A.without_area(L, H)
abbrev pub between_row : List Slot
between_row = call_row (Bound ∷ Sign COMMA ∷ Bound ∷ Sign CLOSE ∷ [])

-- what a word asks of regions and another layer, and whether it chooses the others
unfoldable pub relation_of : List ℕ → Option (Ask × Bool)
relation_of w =
    if bytes_eq w (codes "interacting") then Some (Interacting, false)
    else if bytes_eq w (codes "not_interacting") then Some (Interacting, true)
    else if bytes_eq w (codes "overlapping") then Some (Overlapping, false)
    else if bytes_eq w (codes "not_overlapping") then Some (Overlapping, true)
    else if bytes_eq w (codes "inside") then Some (Inside, false)
    else if bytes_eq w (codes "not_inside") then Some (Inside, true)
    else if bytes_eq w (codes "outside") then Some (Outside, false)
    else if bytes_eq w (codes "not_outside") then Some (Outside, true)
    else None

-- whether a word that asks for an area chooses the others
unfoldable pub measure_of : List ℕ → Option Bool
measure_of w =
    if bytes_eq w (codes "with_area") then Some false
    else if bytes_eq w (codes "without_area") then Some true
    else None

abbrev pub exactly : ℕ → ℕ × Option ℕ
exactly n = (n, Some (n + 1))

-- the least area, and the least that is too great
unfoldable pub range_of : List Token → Option (ℕ × Option ℕ)
range_of ts =
    if fits area_row ts then Some (exactly (unwrap_or (area_at 6 ts) 0))
    else if fits between_row ts && (is_some (area_at 6 ts) || is_some (area_at 8 ts)) then Some
    (unwrap_or (area_at 6 ts) 0, area_at 8 ts)
    else None

-- the name that is defined, and the regions of the one that is called
abbrev pub chosen : List Token → Ask → Bool → List ℕ → Statement
chosen ts ask others other = Choose (word_at 0 ts)
    (record { ask = ask; others = others; region = word_at 2 ts; other = other })

abbrev pub by_relation : List Token → Option (Ask × Bool) → Option Statement
by_relation ts None = None
by_relation ts (Some asked) = Some (chosen ts asked.0 asked.1 (word_at 6 ts))

unfoldable pub relation_line : List Token → Option Statement
relation_line ts = if fits asked_row ts then by_relation ts (relation_of (word_at 4 ts)) else None

abbrev pub by_measure : List Token → Option (ℕ × Option ℕ) → Option Bool → Option Statement
by_measure ts None others = None
by_measure ts (Some range) None = None
by_measure ts (Some range) (Some others) =
    Some (chosen ts (WithArea range.0 range.1) others (word_at 2 ts))

unfoldable pub measure_line : List Token → Option Statement
measure_line ts = by_measure ts (range_of ts) (measure_of (word_at 4 ts))
