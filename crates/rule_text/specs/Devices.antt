-- The rows of extract_devices: a head, then entries "KEY" => NAME in any order, a comma between
-- two and }) behind the last.
use Rattle.std.specs.Prelude.{ℕ, zero, suc, Bool, false, ◌==◌, ◌&&◌, ◌||◌, not, nat_le, List, []}
use Rattle.std.specs.Prelude.{◌∷◌, take, drop, length, codes, Option, Some, None, is_some}
use Rattle.std.specs.Prelude.{unwrap_or, if◌then◌else◌}
use Rattle.std.specs.List.{list_any}
use Rattle.std.specs.Str.{bytes_eq}
use Rattle.rule_lines.specs.Tokens.{Token, Word, Text, Arrow}
use Rattle.rule_text.specs.Rows.{Name, Quoted, Sign, Maps, Mos, More, Resistor, Diode, Statement}
use Rattle.rule_text.specs.Rows.{Extract, Further, COMMA, CLOSE, END, devices_row, resistor_row}
use Rattle.rule_text.specs.Rows.{resistor_digits_row, resistor_point_row, diode_row, fits, word_at}
use Rattle.rule_text.specs.Rows.{sign_at}

-- the keys of a transistor
abbrev pub mos_keys : List (List ℕ)
mos_keys =
    codes "SD" ∷ codes "G" ∷ codes "W" ∷ codes "tS" ∷ codes "tD" ∷ codes "tG" ∷ codes "tB" ∷ []

-- those of a resistor and of a diode
abbrev pub resistor_keys : List (List ℕ)
resistor_keys =
    codes "R" ∷ codes "C" ∷ codes "W" ∷ codes "tA" ∷ codes "tB" ∷ codes "tW" ∷ []

abbrev pub diode_keys : List (List ℕ)
diode_keys = codes "P" ∷ codes "N" ∷ codes "tA" ∷ codes "tC" ∷ []

abbrev pub is_key : List (List ℕ) → List ℕ → Bool
is_key keys w = list_any (bytes_eq w) keys

-- the name behind the key in some entries
abbrev pub entry : List ℕ → List Token → Option (List ℕ)
entry key (Text k ∷ Arrow ∷ Word a ∷ ts) = if bytes_eq k key then Some a else entry key ts
entry key (t ∷ ts) = entry key ts
entry key [] = None

-- an entry and a sign, where the key isn't there again
unfoldable pub is_entry_at : List (List ℕ) → List Token → Bool
is_entry_at keys ts = nat_le 4 (length ts) && fits (Quoted ∷ Maps ∷ Name ∷ []) (take 3 ts)
    && is_key keys (word_at 0 ts) && not (is_some (entry (word_at 0 ts) (drop 4 ts)))

unfoldable pub is_comma_at : List Token → Bool
is_comma_at ts = sign_at 3 ts == COMMA

unfoldable pub is_last_at : List Token → Bool
is_last_at ts = fits (Sign END ∷ Sign CLOSE ∷ []) (drop 3 ts)

-- entries behind so many tokens
abbrev pub entries_behind : List (List ℕ) → ℕ → List Token → Bool
entries_behind keys n [] = false
entries_behind keys zero (t ∷ ts) = is_entry_at keys (t ∷ ts)
    && (is_last_at (t ∷ ts) || (is_comma_at (t ∷ ts) && entries_behind keys 3 ts))
entries_behind keys (suc n) (t ∷ ts) = entries_behind keys n ts

abbrev pub are_entries : List (List ℕ) → List Token → Bool
are_entries keys ts = entries_behind keys 0 ts

-- the name behind the key, or another
abbrev pub entry_or : List ℕ → List Token → List ℕ → List ℕ
entry_or key ts other = unwrap_or (entry key ts) other

-- SD, G and W are there
unfoldable pub has_parts : List Token → Bool
has_parts ts =
    is_some (entry (codes "SD") ts) && is_some (entry (codes "G") ts)
    && is_some (entry (codes "W") ts)

-- tS and tD name one layer
unfoldable pub are_one_layer : Mos → List Token → Bool
are_one_layer m ts = bytes_eq (entry_or (codes "tD") ts m.sd) m.ts

-- the conductors of the terminals are SD, G and W unless the entries say otherwise
abbrev pub mos_on : List ℕ → List ℕ → List ℕ → List ℕ → List Token → Mos
mos_on class sd g w ts = record {
  class = class;
  sd = sd;
  g = g;
  w = w;
  ts = entry_or (codes "tS") ts sd;
  tg = entry_or (codes "tG") ts g;
  tb = entry_or (codes "tB") ts w;
}

abbrev pub mos_of : List ℕ → List Token → Mos
mos_of class ts =
    mos_on class (entry_or (codes "SD") ts []) (entry_or (codes "G") ts [])
    (entry_or (codes "W") ts []) ts

unfoldable pub are_mos_entries : List ℕ → List Token → Bool
are_mos_entries class ts = are_entries mos_keys ts && has_parts ts && are_one_layer (mos_of class ts) ts

unfoldable pub is_head : List Token → Bool
is_head ts = nat_le 8 (length ts) && fits devices_row (take 8 ts)

unfoldable pub mos_line : List Token → Option Statement
mos_line ts = if is_head ts && are_mos_entries (word_at 4 ts) (drop 8 ts) then Some
    (Extract (mos_of (word_at 4 ts) (drop 8 ts))) else None

-- R, C and W are there, and tA and tB name one layer
unfoldable pub are_resistor_entries : List Token → Bool
are_resistor_entries ts =
    are_entries resistor_keys ts && is_some (entry (codes "R") ts) && is_some (entry (codes "C") ts)
    && is_some (entry (codes "W") ts)
    && bytes_eq (entry_or (codes "tB") ts (entry_or (codes "C") ts []))
    (entry_or (codes "tA") ts (entry_or (codes "C") ts []))

-- the conductors of the terminals are C and W unless the entries say otherwise
abbrev pub resistor_of : List ℕ → List Token → More
resistor_of class ts =
    Resistor class (entry_or (codes "R") ts []) (entry_or (codes "C") ts [])
    (entry_or (codes "W") ts []) (entry_or (codes "tA") ts (entry_or (codes "C") ts []))
    (entry_or (codes "tW") ts (entry_or (codes "W") ts []))

-- the resistor that entries behind a head give
unfoldable pub resistor_behind : List ℕ → List Token → Option Statement
resistor_behind class ts =
    if are_resistor_entries ts then Some (Further (resistor_of class ts)) else None

unfoldable pub is_resistor_head : List Token → Bool
is_resistor_head ts = nat_le 8 (length ts) && fits resistor_row (take 8 ts)

unfoldable pub is_digits_head : List Token → Bool
is_digits_head ts = nat_le 10 (length ts) && fits resistor_digits_row (take 10 ts)

unfoldable pub is_point_head : List Token → Bool
is_point_head ts = nat_le 12 (length ts) && fits resistor_point_row (take 12 ts)

unfoldable pub resistor_line : List Token → Option Statement
resistor_line ts =
    if is_resistor_head ts then resistor_behind (word_at 4 ts) (drop 8 ts)
    else if is_digits_head ts then resistor_behind (word_at 4 ts) (drop 10 ts)
    else if is_point_head ts then resistor_behind (word_at 4 ts) (drop 12 ts)
    else None

-- P and N are there
unfoldable pub are_diode_entries : List Token → Bool
are_diode_entries ts =
    are_entries diode_keys ts && is_some (entry (codes "P") ts) && is_some (entry (codes "N") ts)

-- the conductors of anode and cathode are P and N unless the entries say otherwise
abbrev pub diode_of : List ℕ → List Token → More
diode_of class ts =
    Diode class (entry_or (codes "P") ts []) (entry_or (codes "N") ts [])
    (entry_or (codes "tA") ts (entry_or (codes "P") ts []))
    (entry_or (codes "tC") ts (entry_or (codes "N") ts []))

unfoldable pub is_diode_head : List Token → Bool
is_diode_head ts = nat_le 8 (length ts) && fits diode_row (take 8 ts)

unfoldable pub diode_line : List Token → Option Statement
diode_line ts = if is_diode_head ts && are_diode_entries (drop 8 ts) then Some
    (Further (diode_of (word_at 4 ts) (drop 8 ts))) else None

abbrev pub or_this : Option Statement → Option Statement → Option Statement
or_this None s = s
or_this (Some s) t = Some s

-- no two heads fit one line
abbrev pub devices_of : List Token → Option Statement
devices_of ts = or_this (mos_line ts) (or_this (resistor_line ts) (diode_line ts))
