-- How a length is written in micrometres, an area in square micrometres.
use Rattle.std.specs.Prelude.{◌≡◌, ℕ, ◌+◌, ◌*◌, ◌^◌, ◌/◌, ◌%◌, ◌<◌, ◌≤◌, true, List, [], ◌∷◌, ◌++◌}
use Rattle.std.specs.Prelude.{length, decimal}
use Rattle.std.specs.List.{list_all}
use Rattle.std.specs.Char.{is_ascii_digit}
use Rattle.std.specs.Str.Parse.{digits_value}

-- digits behind a point, and nothing where there are none
abbrev pub pointed : List ℕ → List ℕ
pointed [] = []
pointed (d ∷ ds) = 46 ∷ d ∷ ds

-- the digits are v over 10 ^ tens exactly, behind the point, and don't end in 0
pub record IsPartOf (tens v : ℕ) (ds : List ℕ) : Type 0 where
  pub digits : list_all is_ascii_digit ds ≡ true
  pub worth : digits_value 10 ds * 10 ^ tens ≡ v * 10 ^ length ds
  pub last : (front : List ℕ) → ds ≡ front ++ 48 ∷ [] → ⊥

-- the text is v over 10 ^ tens: the whole in decimal, and the rest behind a point
pub record IsOver (tens v : ℕ) (text : List ℕ) : Type 0 where
  pub fraction : List ℕ
  pub spelled : text ≡ decimal (v / 10 ^ tens) ++ pointed fraction
  pub rest : IsPartOf tens (v % 10 ^ tens) fraction

-- v over 10 ^ 9
abbrev pub IsFraction : ℕ → List ℕ → Type 0
IsFraction v ds = IsPartOf 9 v ds

-- v femtometres in micrometres
abbrev pub IsMicrons : ℕ → List ℕ → Type 0
IsMicrons v text = IsOver 9 v text

-- v square picometres in square micrometres
abbrev pub IsSquareMicrons : ℕ → List ℕ → Type 0
IsSquareMicrons v text = IsOver 12 v text

-- the second list is the first with the digits of v over 10 ^ tens behind it
pub record AddsFraction (tens v : ℕ) (before after : List ℕ) : Type 0 where
  pub fraction : List ℕ
  pub added : after ≡ before ++ fraction
  pub rest : IsPartOf tens v fraction

-- so many of these digits stand there that rest is left
pub record AddsDigits (tens v rest : ℕ) (before after : List ℕ) : Type 0 where
  pub ds : List ℕ
  pub added : after ≡ before ++ ds
  pub digits : list_all is_ascii_digit ds ≡ true
  pub worth : digits_value 10 ds * 10 ^ tens + rest ≡ v * 10 ^ length ds
  pub below : rest < 10 ^ tens
  pub few : length ds ≤ tens
  pub last : rest ≡ 0 → (front : List ℕ) → ds ≡ front ++ 48 ∷ [] → ⊥
