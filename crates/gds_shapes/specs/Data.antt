-- Records by the form of their data (GDSII Stream Format, Release 6), and which data they have room
-- for.
use Rattle.std.specs.Prelude.{◌≡◌, ℕ, ◌%◌, ◌≤◌, ◌==◌, ℤ, false, List, [], ◌∷◌, ◌++◌, length}
use Rattle.std.specs.Prelude.{if◌then◌else◌}
use Rattle.std.specs.Int.{w16, w32, to_be_bytes, cast_unsigned}
use Rattle.geo_base.specs.declared.shapes.Point.{Point}
use Rattle.gds_records.specs.Records.{Rec, IsBytes}
use Rattle.gds_elements.specs.Data.{is_empty, trimmed}
use Rattle.gds_elements.specs.Reading.{rec}

-- no data
abbrev pub bare : ℕ → Rec
bare kind = rec kind 0 []

-- numbers of two bytes
abbrev pub numbers : ℕ → List ℕ → Rec
numbers kind body = rec kind 2 body

-- one number of two bytes, the higher first
abbrev pub number : ℕ → ℕ → Rec
number kind n = numbers kind (to_be_bytes w16 n)

-- a string, filled up with one NUL where its length is odd
abbrev pub filled : List ℕ → List ℕ
filled text = if (length text % 2) == 0 then text else text ++ 0 ∷ []

abbrev pub string : ℕ → List ℕ → Rec
string kind text = rec kind 6 (filled text)

-- four bytes of two's complement, the highest first
abbrev pub long_bytes : ℤ → List ℕ
long_bytes z = to_be_bytes w32 (cast_unsigned w32 z)

-- eight bytes a point: x, then y
abbrev pub point_bytes : Point → List ℕ
point_bytes p = long_bytes p.x ++ long_bytes p.y

-- ---- what has room

-- one record holds the text
abbrev pub IsShort : List ℕ → Type 0
IsShort text = length text ≤ 65530

-- so many bytes
pub record IsData (size : ℕ) (body : List ℕ) : Type 0 where
  pub whole : length body ≡ size
  pub bytes : IsBytes body

-- bytes that one record holds and that don't end with a NUL
pub record IsText (text : List ℕ) : Type 0 where
  pub bytes : IsBytes text
  pub short : IsShort text
  pub trimmed : trimmed text ≡ text

-- a text that isn't empty, as the name of a cell
pub record IsNamed (name : List ℕ) : Type 0 where
  pub text : IsText name
  pub named : is_empty name ≡ false
