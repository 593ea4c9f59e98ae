-- Nets that are joined or apart: a net of the layout that has several names of the schematic's
-- nets, and one of several that have one name.
use Rattle.std.specs.Prelude.{◌≡◌, ℕ, ◌+◌, ◌==◌, Bool, true, false, not, List, [], ◌∷◌, ◌++◌}
use Rattle.std.specs.Prelude.{Option, Some, None, bytes_eq, codes, get_or, length, nat_lt}
use Rattle.std.specs.Prelude.{if◌then◌else◌}
use Rattle.std.specs.List.{list_any}
use Rattle.view_cross.specs.declared.rows.Kind.TheVariants.{Net, Pin, Device, Call}
use Rattle.view_cross.specs.declared.rows.Mark.TheVariants.{Matched}
use Rattle.view_cross.specs.declared.rows.Row.{Row}
use Rattle.view_cross.specs.Rows.{mark_letter}
use Rattle.view_page.specs.Remarks.{Told, place_of}
use Rattle.view_page.specs.Subjects.{IsPlace, net_name}
use Rattle.view_words.specs.Words.{word}

-- the pieces of a name between commas, the first one beginning with these bytes
abbrev pub pieces : List ℕ → List ℕ → List (List ℕ)
pieces front [] = front ∷ []
pieces front (b ∷ rest) =
    if b == 0x2C then front ∷ pieces [] rest else pieces (front ++ b ∷ []) rest

abbrev pub is_name : List (List ℕ) → List ℕ → Bool
is_name names text = list_any (λ name. bytes_eq name text) names

-- those of the texts that are names here
abbrev pub known : List (List ℕ) → List (List ℕ) → List (List ℕ)
known names [] = []
known names (t ∷ texts) =
    if is_name names t then t ∷ known names texts else known names texts

abbrev pub names_text : List (List ℕ) → List ℕ
names_text [] = []
names_text (t ∷ texts) = 0x20 ∷ (word t ++ names_text texts)

-- one net of the layout for these of the schematic
abbrev pub joined_text : List (List ℕ) → List ℕ
joined_text texts = codes ": joins nets" ++ (names_text texts ++ codes " of the schematic\n")

-- where they are two or more
abbrev pub short_line : List ℕ → List ℕ → List (List ℕ) → List ℕ
short_line name place texts =
    if nat_lt (length texts) 2 then []
    else codes "  " ++ (name ++ (place ++ joined_text texts))

abbrev pub IsShortNote : Told → ℕ → List ℕ → Type 0
IsShortNote q k text = (place : List ℕ) × IsPlace q.unit (place_of q.places Net k) place
    × (text ≡ short_line (net_name q.left.nets k) place
    (known q.right.nets (pieces [] (get_or q.left.nets k []))))

-- what stands before a name's last $
abbrev pub before_last : List ℕ → Option (List ℕ)
before_last [] = None
before_last (b ∷ rest) = elim (before_last rest) [
  | Some front ↦ Some (b ∷ front)
  | None ↦ if b == 0x24 then Some [] else None
]

-- the first net of a name, k being the first one
abbrev pub first_net : ℕ → List (List ℕ) → List ℕ → Option ℕ
first_net k [] text = None
first_net k (name ∷ names) text =
    if bytes_eq name text then Some k else first_net (k + 1) names text

abbrev pub named_net : List (List ℕ) → Option (List ℕ) → Option ℕ
named_net names None = None
named_net names (Some text) = first_net 0 names text

abbrev pub part_head : List ℕ → List ℕ → List ℕ
part_head name place = codes "  " ++ (name ++ (codes ": in the layout two parts," ++ place))

abbrev pub part_end : List ℕ → List ℕ → List ℕ
part_end name place = codes " and " ++ (name ++ (place ++ codes "\n"))

-- two nets of the layout for one name
abbrev pub IsPartsOf : Told → ℕ → Option ℕ → List ℕ → Type 0
IsPartsOf q k None text = text ≡ []
IsPartsOf q k (Some j) text = (at : List ℕ) × IsPlace q.unit (place_of q.places Net j) at
    × (there : List ℕ) × IsPlace q.unit (place_of q.places Net k) there
    × (text ≡ part_head (net_name q.left.nets j) at ++ part_end (net_name q.left.nets k) there)

abbrev pub IsPartsNote : Told → ℕ → List ℕ → Type 0
IsPartsNote q k text =
    IsPartsOf q k (named_net q.left.nets (before_last (get_or q.left.nets k []))) text

abbrev pub IsNetNote : Told → Option ℕ → Bool → List ℕ → Type 0
IsNetNote q None odd text = text ≡ []
IsNetNote q (Some k) odd text = elim odd [
  | true ↦ (short : List ℕ) × IsShortNote q k short × (parts : List ℕ) × IsPartsNote q k parts
      × (text ≡ short ++ parts)
  | false ↦ text ≡ []
]

-- only of nets of the layout that don't match
abbrev pub IsNote : Told → Row → List ℕ → Type 0
IsNote q r text = elim r.kind [
  | Net ↦ IsNetNote q r.left (not (mark_letter r.mark == mark_letter Matched)) text
  | Pin ↦ text ≡ []
  | Device ↦ text ≡ []
  | Call ↦ text ≡ []
]
