-- Names with small letters.
use Rattle.std.specs.Prelude.{ℕ, Bool, List}
use Rattle.std.specs.Char.{is_ascii_lowercase}
use Rattle.std.specs.List.{list_any}

abbrev pub has_small : List ℕ → Bool
has_small name = list_any is_ascii_lowercase name
