-- The parameters that cards may have.
use Rattle.std.specs.Prelude.{ℕ, Bool, ◌==◌, ◌&&◌, ◌||◌, not, nat_lt, List, [], ◌∷◌}
use Rattle.std.specs.Prelude.{length, if◌then◌else◌, codes}
use Rattle.std.specs.Char.{is_ascii_digit}
use Rattle.std.specs.List.{count_by, list_all}
use Rattle.std.specs.Str.{bytes_eq}
use Rattle.std.specs.Str.Parse.{digits_value}
use Rattle.plain_netlist.specs.declared.kinds.DeviceKind.{DeviceKind}
use Rattle.spice_cards.specs.Parts.{Param}
use Rattle.spice_rows.specs.Kinds.{first_key, second_key, may_say_more}
use Rattle.spice_rows.specs.Names.{is_text}

-- no escape is read in a key
abbrev pub is_key : List ℕ → Param → Bool
is_key key p = is_text key p.key

abbrev pub is_once : List ℕ → List Param → Bool
is_once key ps = count_by (is_key key) ps == 1

-- a call stands for one, and may say so
abbrev pub is_one : Param → Bool
is_one p = is_key (codes "M") p && bytes_eq p.value (codes "1")

-- areas, perimeters, squares and fingers of a transistor say nothing of the netlist
abbrev pub is_passed_key : List ℕ → Bool
is_passed_key key =
    is_text (codes "AS") key || is_text (codes "AD") key || is_text (codes "PS") key
    || is_text (codes "PD") key || is_text (codes "NRD") key || is_text (codes "NRS") key
    || is_text (codes "NF") key

abbrev pub is_device_key : DeviceKind → List ℕ → Bool
is_device_key kind key =
    is_text (first_key kind ∷ []) key || is_text (second_key kind ∷ []) key
    || (may_say_more kind && is_passed_key key)

-- one to four digits of a number from 1 to 1,000
abbrev pub is_count : List ℕ → Bool
is_count text =
    list_all is_ascii_digit text && nat_lt (length text) 5 && nat_lt 0 (digits_value 10 text)
    && nat_lt (digits_value 10 text) 1001

-- one that a device of the kind can't have, or M that is no such number
abbrev pub is_refused : DeviceKind → Param → Bool
is_refused kind p =
    if is_key (codes "M") p then not (is_count p.value) else not (is_device_key kind p.key)

-- so many equal devices a card stands for, as the last M says; by itself, one
abbrev pub copies_after : ℕ → List Param → ℕ
copies_after n [] = n
copies_after n (p ∷ ps) =
    copies_after (if is_key (codes "M") p && is_count p.value then digits_value 10 p.value else n)
    ps

abbrev pub copies_of : List Param → ℕ
copies_of ps = copies_after 1 ps
