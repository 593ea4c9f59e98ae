-- Which nodes stand in the rows of a match.
use Rattle.std.specs.Prelude.{◌≡◌, ℕ, Bool, ◌==◌, List, [], ◌∷◌, Option, Some, None, get_or, length}
use Rattle.std.specs.Prelude.{map, if◌then◌else◌}
use Rattle.std.specs.List.{range_with_len}
use Rattle.view_cross.specs.declared.rows.Kind.{Kind}
use Rattle.view_cross.specs.declared.rows.Kind.TheVariants.{Net, Pin, Device, Call}
use Rattle.view_cross.specs.declared.rows.Row.{Row}
use Rattle.view_cross.specs.Matched.{matched_rows, pin_on}
use Rattle.view_cross.specs.Rows.{kind_letter}

abbrev pub is_kind : Kind → Kind → Bool
is_kind a b = kind_letter a == kind_letter b

abbrev pub with_number : Option ℕ → List ℕ → List ℕ
with_number None ns = ns
with_number (Some n) ns = n ∷ ns

-- the numbers on one side of the rows of a kind, in order
abbrev pub numbers : (Row → Option ℕ) → Kind → List Row → List ℕ
numbers side kind [] = []
numbers side kind (r ∷ rows) =
    if is_kind r.kind kind then with_number (side r) (numbers side kind rows)
    else numbers side kind rows

abbrev pub lefts : Kind → List Row → List ℕ
lefts kind rows = numbers (λ r. r.left) kind rows

abbrev pub rights : Kind → List Row → List ℕ
rights kind rows = numbers (λ r. r.right) kind rows

-- each left node of a match stands in one row
pub record HasEachLeft (nets pins devices calls : List ℕ) (rows : List Row) : Type 0 where
  pub nets_once : lefts Net rows ≡ range_with_len 0 (length nets)
  pub pins_once : lefts Pin rows ≡ range_with_len 0 (length pins)
  pub devices_once : lefts Device rows ≡ range_with_len 0 (length devices)
  pub calls_once : lefts Call rows ≡ range_with_len 0 (length calls)

-- each right one in as many as it is the partner of left ones
pub record HasEachRight (nets pins others devices calls : List ℕ) (rows : List Row) : Type 0 where
  pub nets_as : rights Net rows ≡ nets
  pub pins_as : rights Pin rows ≡ map (λ n. pin_on others (get_or nets n 0)) pins
  pub devices_as : rights Device rows ≡ devices
  pub calls_as : rights Call rows ≡ calls

abbrev pub MatchedLeftLaw : Type 0
MatchedLeftLaw = (nets pins others devices calls : List ℕ)
    → HasEachLeft nets pins devices calls (matched_rows nets pins others devices calls)

abbrev pub MatchedRightLaw : Type 0
MatchedRightLaw = (nets pins others devices calls : List ℕ)
    → HasEachRight nets pins others devices calls (matched_rows nets pins others devices calls)
