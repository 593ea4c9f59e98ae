-- Names without regard to case: as SPICE reads them, in capitals.
use Rattle.std.specs.Prelude.{ℕ, ◌-◌, List, map, if◌then◌else◌}
use Rattle.std.specs.Char.{is_ascii_lowercase}

-- a to z become A to Z, and every other byte stays
abbrev pub folded_byte : ℕ → ℕ
folded_byte b = if is_ascii_lowercase b then b - 32 else b

-- each byte folded
abbrev pub folded_bytes : List ℕ → List ℕ
folded_bytes bytes = map folded_byte bytes
