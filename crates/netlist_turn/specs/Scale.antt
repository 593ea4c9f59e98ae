-- Sizes by the scale of a text, exactly, and how they are written.
use Rattle.std.specs.Prelude.{ℕ, ◌+◌, ◌*◌, ◌^◌, ◌/◌, ◌%◌, ◌==◌, Bool, false, true, List, ◌∷◌, ◌++◌}
use Rattle.std.specs.Prelude.{codes, drop, Option, Some, None, Result, Ok, Err, if◌then◌else◌}
use Rattle.std.specs.Fmt.{decimal}
use Rattle.fixed_num.specs.declared.femto.ValueFault.{ValueFault}
use Rattle.spice_rows.specs.Sizes.{area_of, settled, value_of}
use Rattle.netlist_turn.specs.declared.scale.Factor.{Factor}

-- a factor above 0
abbrev pub factor_of : Result ℕ ValueFault → Option ℕ
factor_of (Ok n) = if n == 0 then None else Some n
factor_of (Err e) = None

-- the factor that a text writes, in 10^-15: a whole number of these above 0, and at most 1,000
abbrev pub scale_of : List ℕ → Option ℕ
scale_of text = factor_of (value_of (Some (10 ^ 18)) text)

-- so many 10^-24 by a factor of so many 10^-15, in femtometres: where they are whole, and 10 cm at
-- most
abbrev pub by_scale : ℕ → Result ℕ ValueFault → Result ℕ ValueFault
by_scale scale (Ok n) = settled (Some (10 ^ 14)) (n * scale) (10 ^ 24)
by_scale scale (Err e) = Err e

-- the femtometres of a length, by the scale: the text is a number of 10^-24, as an area's is
abbrev pub scaled_length : ℕ → List ℕ → Result ℕ ValueFault
scaled_length scale text = by_scale scale (area_of (Some (10 ^ 30)) text)

-- so many 10^-24 by a factor of so many 10^-15: where they are whole, and 0.1 at most
abbrev pub raised_by : ℕ → Result ℕ ValueFault → Result ℕ ValueFault
raised_by scale (Ok n) = settled (Some (10 ^ 23)) (n * scale) (10 ^ 15)
raised_by scale (Err e) = Err e

-- the square picometres of an area, which is by the scale twice
abbrev pub scaled_area : ℕ → List ℕ → Result ℕ ValueFault
scaled_area scale text = raised_by scale (raised_by scale (area_of (Some (10 ^ 30)) text))

abbrev pub scaled : Factor → List ℕ → Result ℕ ValueFault
scaled f text = if f.is_twice then scaled_area f.scale text else scaled_length f.scale text

abbrev pub is_fault : Result ℕ ValueFault → Bool
is_fault (Ok n) = false
is_fault (Err e) = true

-- the size, where there is a scale, can't be turned by it
abbrev pub is_unscaled : Option Factor → List ℕ → Bool
is_unscaled None text = false
is_unscaled (Some factor) text = is_fault (scaled factor text)

-- so many over 10^places: the whole ones, the digits behind a point, and a suffix
abbrev pub places_text : ℕ → List ℕ → ℕ → List ℕ
places_text places suffix n =
    decimal (n / 10 ^ places)
    ++ (0x2E ∷ (drop 1 (decimal (10 ^ places + n % 10 ^ places)) ++ suffix))

-- femtometres in micrometres
abbrev pub micro_text : ℕ → List ℕ
micro_text n = places_text 9 (codes "U") n

-- square picometres in square micrometres
abbrev pub pico_text : ℕ → List ℕ
pico_text n = places_text 12 (codes "P") n

-- a length's or an area's
abbrev pub size_text : Factor → ℕ → List ℕ
size_text f n = if f.is_twice then pico_text n else micro_text n
