-- What holds of all words, numbers and steps.
use Rattle.std.specs.Prelude.{◌≡◌, ℕ, ◌<◌, ℤ, true, List, ◌++◌, Some}
use Rattle.std.specs.List.{All, list_all}
use Rattle.std.specs.Fmt.{signed_decimal}
use Rattle.geo_base.specs.declared.shapes.Point.{Point}
use Rattle.geo_base.specs.declared.shapes.Rect.{Rect}
use Rattle.view_words.specs.Numbers.{IsReadable, IsSmall, IsSmallRect}
use Rattle.view_words.specs.Reading.{ends, read_word}
use Rattle.view_words.specs.declared.rects.Step.{Step}
use Rattle.view_words.specs.Steps.{steps, walked}
use Rattle.view_words.specs.Words.{is_printable, word}

abbrev pub AreBytes : List ℕ → Type 0
AreBytes bytes = All (λ b. b < 256) bytes

-- a word is read as its name, up to its end, before any text that ends it
abbrev pub WordReadLaw : Type 0
WordReadLaw = (name rest : List ℕ) → AreBytes name → ends rest ≡ true
    → read_word (word name ++ rest) ≡ Some (record { name = name; rest = rest })

-- and has printable bytes alone, so that no line ends in it
abbrev pub PrintableLaw : Type 0
PrintableLaw = (name : List ℕ) → AreBytes name → list_all is_printable (word name) ≡ true

-- the steps lead to the rectangles again
abbrev pub StepsLaw : Type 0
StepsLaw = (p : Point) (rects : List Rect) → walked p (steps p rects) ≡ rects

pub record IsReadableStep (s : Step) : Type 0 where
  pub dx : IsReadable s.dx
  pub dy : IsReadable s.dy
  pub width : IsReadable s.width
  pub height : IsReadable s.height

-- where all coordinates are small, each number of each step is one that the reader takes
abbrev pub ReadableStepsLaw : Type 0
ReadableStepsLaw = (p : Point) (rects : List Rect) → IsSmall p.x → IsSmall p.y
    → All IsSmallRect rects → All IsReadableStep (steps p rects)

-- different numbers have different texts
abbrev pub NumberLaw : Type 0
NumberLaw = (y z : ℤ) → IsReadable y → IsReadable z → signed_decimal y ≡ signed_decimal z → y ≡ z
