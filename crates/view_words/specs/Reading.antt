-- How KLayout reads a word at the front of a text: byte by byte, from state to state.
use Rattle.std.specs.Prelude.{ℕ, ◌+◌, ◌-◌, ◌*◌, ◌%◌, Bool, true, not, ◌==◌, ◌||◌, List, [], ◌∷◌}
use Rattle.std.specs.Prelude.{◌++◌, Option, Some, None, if◌then◌else◌}
use Rattle.std.specs.Char.{is_ascii_digit}
use Rattle.view_words.specs.Words.{is_plain}

-- what was read so far, with the bytes of the name: without quotes; between quotes; behind a
-- backslash; in a number behind a backslash; behind the second quote
pub data State : Type 0 where
  Start : State
  Plain : (name : List ℕ) → State
  Open : (name : List ℕ) → State
  Behind : (name : List ℕ) → State
  Number : (name : List ℕ) (value : ℕ) → State
  Closed : (name : List ℕ) → State
  Broken : State

-- a word that was read, and the text behind it
pub record Found : Type 0 where
  pub name : List ℕ
  pub rest : List ℕ

-- the byte that a letter behind a backslash stands for
abbrev pub control : ℕ → ℕ
control b = if b == 0x6E then 10 else if b == 0x72 then 13 else if b == 0x74 then 9 else b

-- a byte between quotes: a quote ends the word, a line may not end, and two bytes vanish
abbrev pub opened : List ℕ → ℕ → State
opened name b =
    if b == 0x27 then Closed name
    else if b == 0x5C then Behind name
    else if b == 10 then Broken
    else if (b == 13 || b == 0) then Open name
    else Open (name ++ b ∷ [])

abbrev pub begun : ℕ → State
begun b = if b == 0x27 then Open [] else if is_plain b then Plain (b ∷ []) else Broken

-- a digit behind a backslash begins a number
abbrev pub behind : List ℕ → ℕ → State
behind name b =
    if is_ascii_digit b then Number name (b - 0x30) else Open (name ++ control b ∷ [])

-- a number goes on to the last digit; the byte is what eight bits keep of it
abbrev pub counted : List ℕ → ℕ → ℕ → State
counted name value b =
    if is_ascii_digit b then Number name (value * 8 + (b - 0x30))
    else opened (name ++ value % 256 ∷ []) b

-- the word at the front of a text, from a state; none where there is none
abbrev pub read_from : State → List ℕ → Option Found
read_from (Closed name) text = Some (record { name = name; rest = text })
read_from (Plain name) [] = Some (record { name = name; rest = [] })
read_from (Plain name) (b ∷ text) =
    if is_plain b then read_from (Plain (name ++ b ∷ [])) text
    else Some (record { name = name; rest = b ∷ text })
read_from Start [] = None
read_from Start (b ∷ text) = read_from (begun b) text
read_from (Open name) [] = None
read_from (Open name) (b ∷ text) = read_from (opened name b) text
read_from (Behind name) [] = None
read_from (Behind name) (b ∷ text) = read_from (behind name b) text
read_from (Number name value) [] = None
read_from (Number name value) (b ∷ text) = read_from (counted name value b) text
read_from Broken text = None

abbrev pub read_word : List ℕ → Option Found
read_word text = read_from Start text

-- whether a text ends a word without quotes that stands before it
abbrev pub ends : List ℕ → Bool
ends [] = true
ends (b ∷ text) = not (is_plain b)
