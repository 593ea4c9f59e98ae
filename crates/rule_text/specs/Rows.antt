-- The table of statements: a row is a list of slots, one for each token, and a line means the one
-- row that its tokens fit.
use Rattle.std.specs.Prelude.{ℕ, ◌+◌, ◌-◌, ◌*◌, ℤ, pos, neg_ℤ, Bool, true, false, ◌==◌, ◌&&◌}
use Rattle.std.specs.Prelude.{◌||◌, not, nat_le}
use Rattle.std.specs.Prelude.{List, [], ◌∷◌, length, slice_index, slice_get, codes, Option, Some}
use Rattle.std.specs.Prelude.{None, is_some, unwrap_or, if◌then◌else◌}
use Rattle.std.specs.List.{list_any, list_all}
use Rattle.std.specs.Str.{bytes_eq}
use Rattle.rule_lines.specs.Tokens.{Token, Word, Text, Mark, Arrow, is_small, is_digit}
use Rattle.geo_base.specs.declared.layer.LayerKey.{LayerKey}
use Rattle.geo_base.specs.declared.layer.Op.{Op}
use Rattle.geo_base.specs.declared.layer.Op.TheVariants.{And, Or, Not, Xor}
use Rattle.rule_text.specs.declared.rules.Ask.{Ask}

-- what may stand at a place of a row
pub data Slot : Type 0 where
  Fresh : Slot
  Name : Slot
  Layer : Slot
  Guesses : Slot
  Size : Slot
  Area : Slot
  Bound : Slot
  Digits : Slot
  Quoted : Slot
  Exact : Slot
  Operator : Slot
  Key : (word : List ℕ) → Slot
  Sign : (byte : ℕ) → Slot
  Maps : Slot

-- a small letter or _, then letters, digits and _
abbrev pub is_name : List ℕ → Bool
is_name w = is_small (slice_index w 0) && nat_le (length w) 64

abbrev pub statement_words : List (List ℕ)
statement_words =
    codes "connect" ∷ codes "connect_global" ∷ codes "extract_devices" ∷ codes "same_circuits"
    ∷ codes "max_guesses" ∷ codes "flatten_unmatched" ∷ codes "same_pins"
    ∷ codes "keep_covered" ∷ codes "combine_devices" ∷ codes "deep" ∷ codes "netlist"
    ∷ codes "align" ∷ codes "compare" ∷ codes "schematic" ∷ codes "input" ∷ codes "labels"
    ∷ codes "polygon_layer" ∷ codes "output" ∷ codes "mos4" ∷ codes "resistor_with_bulk"
    ∷ codes "diode" ∷ []

unfoldable pub is_statement_word : List ℕ → Bool
is_statement_word w = list_any (bytes_eq w) statement_words

-- the number that digits spell behind n, where it is at most the limit
abbrev pub number_from : ℕ → ℕ → List ℕ → Option ℕ
number_from limit n [] = Some n
number_from limit n (b ∷ bs) = if is_digit b
    && nat_le (n * 10 + (b - 0x30)) limit then number_from limit (n * 10 + (b - 0x30)) bs else None

-- so many digits at most, and one at least
abbrev pub spelled : ℕ → ℕ → List ℕ → Option ℕ
spelled most limit w =
    if nat_le 1 (length w) && nat_le (length w) most then number_from limit 0 w else None

-- one to seven digits
abbrev pub number_of : ℕ → List ℕ → Option ℕ
number_of limit w = spelled 7 limit w

abbrev pub layer_of : List ℕ → Option ℕ
layer_of w = number_of 65535 w

abbrev pub guesses_of : List ℕ → Option ℕ
guesses_of w = number_of 1000000 w

-- one to five digits
abbrev pub size_of : List ℕ → Option ℕ
size_of w = if nat_le (length w) 5 then number_of 10000 w else None

-- a number of squares: one to eighteen digits
abbrev pub area_of : List ℕ → Option ℕ
area_of w = spelled 18 999999999999999999 w

-- an area or nil, which bounds nothing
abbrev pub is_bound : List ℕ → Bool
is_bound w = is_some (area_of w) || bytes_eq w (codes "nil")

abbrev pub is_digits : List ℕ → Bool
is_digits w = is_some (number_of 9999999 w)

abbrev pub is_printable : ℕ → Bool
is_printable b = nat_le 0x20 b && nat_le b 0x7E

-- some printable bytes
abbrev pub is_string : List ℕ → Bool
is_string w = nat_le 1 (length w) && list_all is_printable w

-- * ? [ {, which KLayout reads as patterns
abbrev pub is_wild : ℕ → Bool
is_wild b = b == 0x2A || b == 0x3F || b == 0x5B || b == 0x7B

-- & | - ^
abbrev pub is_operator : ℕ → Bool
is_operator b = b == 0x26 || b == 0x7C || b == 0x2D || b == 0x5E

abbrev pub fits_slot : Slot → Token → Bool
fits_slot Fresh (Word w) = is_name w && not (is_statement_word w)
fits_slot Name (Word w) = is_name w
fits_slot Layer (Word w) = is_some (layer_of w)
fits_slot Guesses (Word w) = nat_le 1 (unwrap_or (guesses_of w) 0)
fits_slot Size (Word w) = nat_le 1 (unwrap_or (size_of w) 0)
fits_slot Area (Word w) = is_some (area_of w)
fits_slot Bound (Word w) = is_bound w
fits_slot Digits (Word w) = is_digits w
fits_slot Quoted (Text w) = is_string w
fits_slot Exact (Text w) = is_string w && not (list_any is_wild w)
fits_slot Operator (Mark b) = is_operator b
fits_slot (Key k) (Word w) = bytes_eq w k
fits_slot (Sign k) (Mark b) = b == k
fits_slot Maps Arrow = true
fits_slot _ _ = false

-- each token fits its slot
abbrev pub fits : List Slot → List Token → Bool
fits [] [] = true
fits [] (t ∷ ts) = false
fits (s ∷ ss) [] = false
fits (s ∷ ss) (t ∷ ts) = fits_slot s t && fits ss ts

-- The signs by their names.
abbrev pub EQUALS : ℕ
EQUALS = 0x3D

abbrev pub DOT : ℕ
DOT = 0x2E

abbrev pub COMMA : ℕ
COMMA = 0x2C

abbrev pub MINUS : ℕ
MINUS = 0x2D

abbrev pub OPEN : ℕ
OPEN = 0x28

abbrev pub CLOSE : ℕ
CLOSE = 0x29

abbrev pub BRACE : ℕ
BRACE = 0x7B

abbrev pub END : ℕ
END = 0x7D

-- (L, D)
abbrev pub pair_row : List Slot
pair_row = Sign OPEN ∷ Layer ∷ Sign COMMA ∷ Layer ∷ Sign CLOSE ∷ []

-- N = input(L, D)
abbrev pub input_row : List Slot
input_row = Fresh ∷ Sign EQUALS ∷ Key (codes "input") ∷ pair_row

-- N = labels(L, T)
abbrev pub labels_row : List Slot
labels_row = Fresh ∷ Sign EQUALS ∷ Key (codes "labels") ∷ pair_row

-- N = polygon_layer
abbrev pub polygon_layer_row : List Slot
polygon_layer_row = Fresh ∷ Sign EQUALS ∷ Key (codes "polygon_layer") ∷ []

-- N = A & B, and so for |, - and ^
abbrev pub binary_row : List Slot
binary_row = Fresh ∷ Sign EQUALS ∷ Name ∷ Operator ∷ Name ∷ []

-- N = A.sized(D)
abbrev pub grown_row : List Slot
grown_row = Fresh ∷ Sign EQUALS ∷ Name ∷ Sign DOT ∷ Key (codes "sized") ∷ Sign OPEN ∷ Size
    ∷ Sign CLOSE ∷ []

-- N = A.sized(-D)
abbrev pub shrunk_row : List Slot
shrunk_row = Fresh ∷ Sign EQUALS ∷ Name ∷ Sign DOT ∷ Key (codes "sized") ∷ Sign OPEN ∷ Sign MINUS
    ∷ Size ∷ Sign CLOSE ∷ []

-- N.output(L, D)
abbrev pub output_row : List Slot
output_row = Name ∷ Sign DOT ∷ Key (codes "output") ∷ pair_row

-- connect(A, B)
abbrev pub connect_row : List Slot
connect_row = Key (codes "connect") ∷ Sign OPEN ∷ Name ∷ Sign COMMA ∷ Name ∷ Sign CLOSE ∷ []

-- connect_global(A, "G")
abbrev pub global_row : List Slot
global_row = Key (codes "connect_global") ∷ Sign OPEN ∷ Name ∷ Sign COMMA ∷ Quoted ∷ Sign CLOSE ∷ []

-- extract_devices(mos4("CLASS"), {
abbrev pub devices_row : List Slot
devices_row =
    Key (codes "extract_devices") ∷ Sign OPEN ∷ Key (codes "mos4") ∷ Sign OPEN ∷ Quoted
    ∷ Sign CLOSE ∷ Sign COMMA ∷ Sign BRACE ∷ []

-- extract_devices(resistor_with_bulk("CLASS"), {
abbrev pub resistor_row : List Slot
resistor_row =
    Key (codes "extract_devices") ∷ Sign OPEN ∷ Key (codes "resistor_with_bulk") ∷ Sign OPEN
    ∷ Quoted ∷ Sign CLOSE ∷ Sign COMMA ∷ Sign BRACE ∷ []

-- the same with a sheet resistance, which is passed over: digits, or digits, a point and digits
abbrev pub resistor_digits_row : List Slot
resistor_digits_row =
    Key (codes "extract_devices") ∷ Sign OPEN ∷ Key (codes "resistor_with_bulk") ∷ Sign OPEN
    ∷ Quoted ∷ Sign COMMA ∷ Digits ∷ Sign CLOSE ∷ Sign COMMA ∷ Sign BRACE ∷ []

abbrev pub resistor_point_row : List Slot
resistor_point_row =
    Key (codes "extract_devices") ∷ Sign OPEN ∷ Key (codes "resistor_with_bulk") ∷ Sign OPEN
    ∷ Quoted ∷ Sign COMMA ∷ Digits ∷ Sign DOT ∷ Digits ∷ Sign CLOSE ∷ Sign COMMA ∷ Sign BRACE ∷ []

-- extract_devices(diode("CLASS"), {
abbrev pub diode_row : List Slot
diode_row =
    Key (codes "extract_devices") ∷ Sign OPEN ∷ Key (codes "diode") ∷ Sign OPEN ∷ Quoted
    ∷ Sign CLOSE ∷ Sign COMMA ∷ Sign BRACE ∷ []

-- same_circuits("A", "B")
abbrev pub same_row : List Slot
same_row = Key (codes "same_circuits") ∷ Sign OPEN ∷ Quoted ∷ Sign COMMA ∷ Quoted ∷ Sign CLOSE ∷ []

-- A.flatten_circuit("C")
abbrev pub flatten_row : List ℕ → List Slot
flatten_row side = Key side ∷ Sign DOT ∷ Key (codes "flatten_circuit") ∷ Sign OPEN ∷ Exact
    ∷ Sign CLOSE ∷ []

-- flatten_unmatched
abbrev pub unmatched_row : List Slot
unmatched_row = Key (codes "flatten_unmatched") ∷ []

-- same_pins
abbrev pub pins_row : List Slot
pins_row = Key (codes "same_pins") ∷ []

-- keep_covered
abbrev pub covered_row : List Slot
covered_row = Key (codes "keep_covered") ∷ []

-- combine_devices
abbrev pub combine_row : List Slot
combine_row = Key (codes "combine_devices") ∷ []

-- max_guesses(N)
abbrev pub guesses_row : List Slot
guesses_row = Key (codes "max_guesses") ∷ Sign OPEN ∷ Guesses ∷ Sign CLOSE ∷ []

-- schematic("P")
abbrev pub schematic_row : List Slot
schematic_row = Key (codes "schematic") ∷ Sign OPEN ∷ Quoted ∷ Sign CLOSE ∷ []

-- what a name is defined to be, its operands as names; a sized one is grown, or shrunk below 0
pub data Form : Type 0 where
  Input : (key : LayerKey) → Form
  Labels : (key : LayerKey) → Form
  Empty : Form
  Binary : (op : Op) (a b : List ℕ) → Form
  Sized : (a : List ℕ) (by : ℤ) → Form

-- a transistor's class, and its layers as names
pub record Mos : Type 0 where
  pub class : List ℕ
  pub sd : List ℕ
  pub g : List ℕ
  pub w : List ℕ
  pub ts : List ℕ
  pub tg : List ℕ
  pub tb : List ℕ

-- a resistor or a diode: its class, and its layers as names
pub data More : Type 0 where
  Resistor : (class r c w ta tw : List ℕ) → More
  Diode : (class p n ta tc : List ℕ) → More

-- regions of a name chosen by what is asked of them and another, or all others; an area is asked
-- of the regions alone
pub record Choice : Type 0 where
  pub ask : Ask
  pub others : Bool
  pub region : List ℕ
  pub other : List ℕ

pub data Statement : Type 0 where
  Define : (name : List ℕ) (form : Form) → Statement
  Choose : (name : List ℕ) (choice : Choice) → Statement
  Draw : (name : List ℕ) (key : LayerKey) → Statement
  Connect : (a b : List ℕ) → Statement
  Global : (a net : List ℕ) → Statement
  Extract : (mos : Mos) → Statement
  Further : (more : More) → Statement
  Same : (a b : List ℕ) → Statement
  FlattenLayout : (a : List ℕ) → Statement
  FlattenSchematic : (b : List ℕ) → Statement
  FlattenUnmatched : Statement
  SamePins : Statement
  KeepCovered : Statement
  Combine : Statement
  MaxGuesses : (n : ℕ) → Statement
  Accepted : Statement

abbrev pub word_of : Option Token → List ℕ
word_of (Some (Word w)) = w
word_of (Some (Text w)) = w
word_of _ = []

abbrev pub sign_of : Option Token → ℕ
sign_of (Some (Mark b)) = b
sign_of _ = 0

-- the word or text at a place
abbrev pub word_at : ℕ → List Token → List ℕ
word_at n ts = word_of (slice_get ts n)

abbrev pub sign_at : ℕ → List Token → ℕ
sign_at n ts = sign_of (slice_get ts n)

abbrev pub layer_at : ℕ → List Token → ℕ
layer_at n ts = unwrap_or (layer_of (word_at n ts)) 0

abbrev pub size_at : ℕ → List Token → ℕ
size_at n ts = unwrap_or (size_of (word_at n ts)) 0

abbrev pub area_at : ℕ → List Token → Option ℕ
area_at n ts = area_of (word_at n ts)

-- the layer pair whose numbers stand at two places
abbrev pub key_at : ℕ → ℕ → List Token → LayerKey
key_at n m ts = record { layer = layer_at n ts; datatype = layer_at m ts }

abbrev pub op_of : ℕ → Op
op_of b = if b == 0x26 then And else if b == 0x7C then Or else if b == 0x2D then Not else Xor

-- N = ..
unfoldable pub definition_of : List Token → Option Statement
definition_of ts =
    if fits input_row ts then Some (Define (word_at 0 ts) (Input (key_at 4 6 ts)))
    else if fits labels_row ts then Some (Define (word_at 0 ts) (Labels (key_at 4 6 ts)))
    else if fits polygon_layer_row ts then Some (Define (word_at 0 ts) Empty)
    else if fits binary_row ts then Some
    (Define (word_at 0 ts) (Binary (op_of (sign_at 3 ts)) (word_at 2 ts) (word_at 4 ts)))
    else if fits grown_row ts then Some
    (Define (word_at 0 ts) (Sized (word_at 2 ts) (pos (size_at 6 ts))))
    else if fits shrunk_row ts then Some
    (Define (word_at 0 ts) (Sized (word_at 2 ts) (neg_ℤ (pos (size_at 7 ts)))))
    else None

-- what is written and what conducts
unfoldable pub wiring_of : List Token → Option Statement
wiring_of ts =
    if fits output_row ts then Some (Draw (word_at 0 ts) (key_at 4 6 ts))
    else if fits connect_row ts then Some (Connect (word_at 2 ts) (word_at 4 ts))
    else if fits global_row ts then Some (Global (word_at 2 ts) (word_at 4 ts))
    else None

-- which circuits have no partner
unfoldable pub flattening_of : List Token → Option Statement
flattening_of ts =
    if fits (flatten_row (codes "netlist")) ts then Some (FlattenLayout (word_at 4 ts))
    else if fits (flatten_row (codes "schematic")) ts then Some (FlattenSchematic (word_at 4 ts))
    else if fits unmatched_row ts then Some FlattenUnmatched
    else None

-- a blank line, deep, netlist, align, compare and schematic("P") change nothing
unfoldable pub is_accepted : List Token → Bool
is_accepted ts =
    fits [] ts || fits (Key (codes "deep") ∷ []) ts || fits (Key (codes "netlist") ∷ []) ts
    || fits (Key (codes "align") ∷ []) ts || fits (Key (codes "compare") ∷ []) ts
    || fits schematic_row ts

-- what only the comparison reads, which squares cells keep, and what changes nothing
unfoldable pub setting_of : List Token → Option Statement
setting_of ts =
    if fits same_row ts then Some (Same (word_at 2 ts) (word_at 4 ts))
    else if fits guesses_row ts then Some (MaxGuesses (unwrap_or (guesses_of (word_at 2 ts)) 0))
    else if fits pins_row ts then Some SamePins
    else if fits covered_row ts then Some KeepCovered
    else if fits combine_row ts then Some Combine
    else if is_accepted ts then Some Accepted
    else None
