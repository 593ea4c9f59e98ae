-- The page: for each pair that isn't all alike its lines under its name.
use Rattle.std.specs.Prelude.{◌≡◌, ℕ, List, [], ◌∷◌, ◌++◌, Option, Some, codes, get_or, map}
use Rattle.std.specs.Prelude.{slice_get}
use Rattle.plain_netlist.specs.Netlist.{Circuit}
use Rattle.spice_text.specs.Written.{AreOneByOne, AreTexts}
use Rattle.view_cross.specs.declared.rows.Row.{Row}
use Rattle.view_page.specs.Counts.{compared_text}
use Rattle.view_page.specs.Notes.{IsNote}
use Rattle.view_page.specs.Remarks.{IsRemark, Told}
use Rattle.view_page.specs.declared.places.Places.{Places}
use Rattle.view_words.specs.Words.{word}

-- what is said of a row
abbrev pub IsRowText : Told → Row → List ℕ → Type 0
IsRowText q r text = (line : List ℕ) × IsRemark q r line × (note : List ℕ) × IsNote q r note
    × (text ≡ line ++ note)

-- `cell NAME, circuit NAME of the schematic`
abbrev pub heading : List ℕ → List ℕ → List ℕ
heading left right = codes "cell " ++ (word left
    ++ (codes ", circuit " ++ (word right ++ codes " of the schematic\n")))

-- lines under a heading, or nothing
abbrev pub headed : List ℕ → List ℕ → List ℕ
headed head [] = []
headed head (b ∷ lines) = head ++ (b ∷ lines)

abbrev pub IsPairText : Told → List ℕ → List Row → List ℕ → Type 0
IsPairText q name rows text = (lines : List ℕ) × AreOneByOne (IsRowText q) rows lines
    × (text ≡ headed (heading name q.right.name) lines)

-- what the page is made from: the unit in picometres, the names of the layout's cells, the circuits
-- of both sides by pair, the places of the left ones' nodes
pub record Book : Type 0 where
  pub unit : ℕ
  pub names : List (List ℕ)
  pub lefts : List Circuit
  pub rights : List Circuit
  pub places : List Places

abbrev pub book : ℕ → List (List ℕ) → List Circuit → List Circuit → List Places → Book
book unit names lefts rights places = record {
  unit = unit;
  names = names;
  lefts = lefts;
  rights = rights;
  places = places;
}

abbrev pub right_names : List Circuit → List (List ℕ)
right_names circuits = map (λ c. c.name) circuits

abbrev pub told_of : Book → Circuit → Circuit → Places → Told
told_of b left right places = record {
  unit = b.unit;
  left_names = b.names;
  right_names = right_names b.rights;
  left = left;
  right = right;
  places = places;
}

abbrev pub IsPlaced : Book → ℕ → Option Circuit → Option Circuit → Option Places → List Row → List ℕ
    → Type 0
IsPlaced b k (Some left) (Some right) (Some places) rows text =
    IsPairText (told_of b left right places) (get_or b.names k []) rows text
IsPlaced b k left right places rows text = text ≡ []

-- that of the k-th pair; a pair without circuits or places has none
abbrev pub IsNumbered : Book → ℕ → List Row → List ℕ → Type 0
IsNumbered b k rows text = IsPlaced b k (slice_get b.lefts k) (slice_get b.rights k)
    (slice_get b.places k) rows text

-- all pairs, behind a line that says what the page is worth, and what was compared
abbrev pub IsPage : Book → List (List Row) → List ℕ → Type 0
IsPage b rows text = (pairs : List ℕ) × AreTexts (IsNumbered b) 0 rows pairs
    × (text ≡ codes "Partners are proposed; what is sure stands in the report.\n"
    ++ (compared_text b.lefts b.rights ++ pairs))
