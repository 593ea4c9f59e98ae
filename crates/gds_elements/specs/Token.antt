-- A list of bytes that is kept for contracts alone.
use Rattle.std.specs.Prelude.{ℕ, List, [], ◌∷◌, ◌++◌}
use Rattle.gds_elements.specs.declared.fed.Bytes.{Bytes, None, Byte'}

-- the bytes, the last of which the token names first
abbrev pub bytes_of : Bytes → List ℕ
bytes_of None = []
bytes_of (Byte' b p s) = bytes_of s ++ b ∷ []
