-- The words of a report: each stands behind a blank.
use Rattle.std.specs.Prelude.{ℕ, ◌+◌, List, [], ◌∷◌, Option, Some, None, slice_get, codes, decimal}
use Rattle.net_names.specs.Escapes.{escaped}
use Rattle.round_laws.specs.Nodes.{Side, Layout, Schematic, Kind, Net, Device, Call}

abbrev pub or_empty : Option (List ℕ) → List ℕ
or_empty None = []
or_empty (Some text) = text

abbrev pub name_word : List ℕ → List ℕ
name_word name = 0x20 ∷ escaped name

-- the name of a number; past the last it is empty
abbrev pub name_at : List (List ℕ) → ℕ → List ℕ
name_at names n = or_empty (slice_get names n)

abbrev pub number_word : ℕ → List ℕ
number_word n = 0x20 ∷ decimal n

-- nets, devices and calls are numbered from 1
abbrev pub place_word : ℕ → List ℕ
place_word n = 0x20 ∷ decimal (n + 1)

abbrev pub side_word : Side → List ℕ
side_word Layout = codes " layout"
side_word Schematic = codes " schematic"

abbrev pub kind_word : Kind → List ℕ
kind_word Net = codes " net"
kind_word Device = codes " device"
kind_word Call = codes " call"
