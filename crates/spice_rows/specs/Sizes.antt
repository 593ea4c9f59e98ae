-- The sizes of a device, exactly: lengths in femtometres, areas in square picometres.
use Rattle.std.specs.Prelude.{ℕ, ◌*◌, ◌^◌, ◌/◌, ◌%◌, ◌==◌, nat_lt, Bool, false}
use Rattle.std.specs.Prelude.{List, [], ◌∷◌, Option, Some}
use Rattle.std.specs.Prelude.{None, Result, Ok, Err, if◌then◌else◌}
use Rattle.fixed_num.specs.declared.femto.ValueFault.{ValueFault}
use Rattle.fixed_num.specs.declared.femto.ValueFault.TheVariants.{NotNumber, TooLarge, TooFine}
use Rattle.fixed_num.specs.Values.{Number}
use Rattle.fixed_num.specs.Scan.{number_of, some_raised}
use Rattle.spice_cards.specs.Parts.{Param}
use Rattle.plain_netlist.specs.declared.kinds.DeviceKind.{DeviceKind}
use Rattle.spice_rows.specs.Kinds.{first_key, has_area, second_key}
use Rattle.spice_rows.specs.Params.{is_key}

-- the greatest length and area that a text may have
pub record Limits : Type 0 where
  pub length : ℕ
  pub area : ℕ

-- those of a text which is read
abbrev pub read_limit : Option Limits
read_limit = Some (record { length = 10 ^ 18; area = 10 ^ 30 })

abbrev pub length_limit : Option Limits → Option ℕ
length_limit None = None
length_limit (Some l) = Some l.length

abbrev pub area_limit : Option Limits → Option ℕ
area_limit None = None
area_limit (Some l) = Some l.area

-- a over d is above the limit, where there is one
abbrev pub is_above : Option ℕ → ℕ → ℕ → Bool
is_above None a d = false
is_above (Some limit) a d = nat_lt (limit * d) a

-- a over d, where that is whole and not above the limit
abbrev pub settled : Option ℕ → ℕ → ℕ → Result ℕ ValueFault
settled limit a d =
    if is_above limit a d then Err TooLarge
    else if a % d == 0 then Ok (a / d)
    else Err TooFine

abbrev pub value_at : Option ℕ → Option Number → Result ℕ ValueFault
value_at limit None = Err NotNumber
value_at limit (Some n) = settled limit (n.mantissa * 10 ^ n.up) (10 ^ n.down)

-- the length that a text is worth
abbrev pub value_of : Option ℕ → List ℕ → Result ℕ ValueFault
value_of limit text = value_at limit (number_of text)

-- the area
abbrev pub area_of : Option ℕ → List ℕ → Result ℕ ValueFault
area_of limit text = value_at limit (some_raised 9 (number_of text))

-- the second size of a device: a length, or an area
abbrev pub second_of : Option Limits → DeviceKind → List ℕ → Result ℕ ValueFault
second_of limits kind text =
    if has_area kind then area_of (area_limit limits) text
    else value_of (length_limit limits) text

abbrev pub and_then : Result ℕ ValueFault → (ℕ → Result (List ℕ) ValueFault)
    → Result (List ℕ) ValueFault
and_then (Ok v) rest = rest v
and_then (Err e) rest = Err e

-- two sizes that parameters change, or the first fault of a value, from the left
abbrev pub changed : Option Limits → DeviceKind → ℕ → ℕ → List Param → Result (List ℕ) ValueFault
changed limits kind a b [] = Ok (a ∷ b ∷ [])
changed limits kind a b (p ∷ ps) =
    if is_key (first_key kind ∷ []) p
    then and_then (value_of (length_limit limits) p.value) (λ v. changed limits kind v b ps)
    else if is_key (second_key kind ∷ []) p
    then and_then (second_of limits kind p.value) (λ v. changed limits kind a v ps)
    else changed limits kind a b ps

-- the two sizes in the kind's order, zero where there is none
abbrev pub sizes_of : Option Limits → DeviceKind → List Param → Result (List ℕ) ValueFault
sizes_of limits kind ps = changed limits kind 0 0 ps
