-- Base names by the numbers of nets.
use Rattle.std.specs.Prelude.{ℕ, List, [], Option, map, get_or}
use Rattle.net_names.specs.Folding.{folded_bytes}
use Rattle.deep_tables.specs.Pins.{name_in}

-- the folded base name of a net
abbrev pub base_in : List (Option (List ℕ)) → ℕ → List ℕ
base_in names net = folded_bytes (get_or (map name_in names) net [])
