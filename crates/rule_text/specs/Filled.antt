-- What fits its slot has a byte or lies in its range.
use Rattle.std.specs.Prelude.{◌≡◌, ℕ, ◌+◌, ◌<◌, ◌≤◌, unsigned_abs, true, List, [], ◌∷◌, length}
use Rattle.std.specs.Prelude.{unwrap_or}
use Rattle.rule_lines.specs.Tokens.{Token}
use Rattle.geo_base.specs.Layers.{IsStreamKey}
use Rattle.rule_text.specs.Rows.{Slot, Fresh, Name, Quoted, Exact, Guesses, Size, Form, Input}
use Rattle.rule_text.specs.Rows.{Sized, Statement, Define, Choose, Draw, Global, Extract, Further}
use Rattle.rule_text.specs.Rows.{More, Resistor, Diode, Same, FlattenLayout, FlattenSchematic}
use Rattle.rule_text.specs.Rows.{MaxGuesses}
use Rattle.rule_text.specs.Rows.{guesses_of, size_of, is_string, word_at}

abbrev pub IsGuessLimit : ℕ → Type 0
IsGuessLimit n = (1 ≤ n) × (n ≤ 1000000)

-- by how many squares a layer may be grown or shrunk
abbrev pub IsSize : ℕ → Type 0
IsSize n = (1 ≤ n) × (n ≤ 10000)

-- some printable bytes
abbrev pub IsString : List ℕ → Type 0
IsString w = (0 < length w) × (is_string w ≡ true)

abbrev pub FillsSlot : Slot → List ℕ → Type 0
FillsSlot Fresh w = 0 < length w
FillsSlot Name w = 0 < length w
FillsSlot Quoted w = IsString w
FillsSlot Exact w = 0 < length w
FillsSlot Guesses w = IsGuessLimit (unwrap_or (guesses_of w) 0)
FillsSlot Size w = IsSize (unwrap_or (size_of w) 0)
FillsSlot _ w = Unit {0}

-- the tokens from a place on fill their slots
abbrev pub AreFilled : ℕ → List Slot → List Token → Type 0
AreFilled n [] ts = Unit {0}
AreFilled n (s ∷ ss) ts = FillsSlot s (word_at n ts) × AreFilled (n + 1) ss ts

abbrev pub class_of : More → List ℕ
class_of (Resistor class r c w ta tw) = class
class_of (Diode class p n ta tc) = class

abbrev pub IsFilledForm : Form → Type 0
IsFilledForm (Input key) = IsStreamKey key
IsFilledForm (Sized a by) = IsSize (unsigned_abs by)
IsFilledForm _ = Unit {0}

-- what becomes a name has a byte, a class is a string; sizes, the limit of guesses and the layers
-- that are read and written lie in their ranges
abbrev pub IsFilled : Statement → Type 0
IsFilled (Define name form) = (0 < length name) × IsFilledForm form
IsFilled (Choose name choice) = 0 < length name
IsFilled (Draw name key) = IsStreamKey key
IsFilled (Global a net) = 0 < length net
IsFilled (Extract m) = IsString m.class
IsFilled (Further m) = IsString (class_of m)
IsFilled (Same a b) = (0 < length a) × (0 < length b)
IsFilled (FlattenLayout a) = 0 < length a
IsFilled (FlattenSchematic b) = 0 < length b
IsFilled (MaxGuesses n) = IsGuessLimit n
IsFilled _ = Unit {0}
