-- The rows of a circuit, by which layout and schematic are told alike.
use Rattle.std.specs.Prelude.{ℕ, ◌+◌, List, [], ◌∷◌, ◌++◌, get_or, codes, decimal}
use Rattle.plain_netlist.specs.Netlist.{DeviceRow}
use Rattle.view_words.specs.Words.{word}
use Rattle.view_netlist.specs.Kinds.{size_letters, terminals}

-- nets, devices and calls are numbered from 1
abbrev pub place_text : ℕ → List ℕ
place_text k = decimal (k + 1)

-- ` I(NAME)`; past the last name it is empty
abbrev pub name_text : List (List ℕ) → ℕ → List ℕ
name_text names n = codes " I(" ++ (word (get_or names n []) ++ codes ")")

-- `P(NET I(NAME))` for each pin
abbrev pub pin_text : List (List ℕ) → ℕ → List ℕ
pin_text names n = codes "\n  P(" ++ (place_text n ++ (name_text names n ++ codes ")"))

abbrev pub pin_texts : List (List ℕ) → List ℕ → List ℕ
pin_texts names [] = []
pin_texts names (n ∷ ns) = pin_text names n ++ pin_texts names ns

-- ` E(L SIZE)`, a letter and a size
abbrev pub size_text : ℕ → List ℕ → List ℕ
size_text letter size = codes " E(" ++ (letter ∷ 0x20 ∷ (size ++ codes ")"))

-- ` T(S NET)`, a terminal's letter and its net
abbrev pub terminal_text : ℕ → ℕ → List ℕ
terminal_text letter n = codes " T(" ++ (letter ∷ 0x20 ∷ (place_text n ++ codes ")"))

-- these letters and nets
abbrev pub terminal_texts : List (ℕ × ℕ) → List ℕ
terminal_texts [] = []
terminal_texts (t ∷ ts) = terminal_text t.0 t.1 ++ terminal_texts ts

-- what stands behind a device's class and place: its two sizes and its terminals
abbrev pub device_end : List ℕ → List ℕ → DeviceRow → List ℕ
device_end first second d = size_text (size_letters d.kind).0 first
    ++ (size_text (size_letters d.kind).1 second
    ++ (terminal_texts (terminals d.kind d.ends d.others) ++ codes ")"))

-- ` P(PIN NET)` for each pin of a call, pins numbered from 0
abbrev pub call_pin_texts : ℕ → List ℕ → List ℕ
call_pin_texts k [] = []
call_pin_texts k (n ∷ ns) = (codes " P(" ++ (decimal k ++ (0x20 ∷ (place_text n ++ codes ")"))))
    ++ call_pin_texts (k + 1) ns
