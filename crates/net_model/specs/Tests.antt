-- The tests of a check, one after another over the circuits.
use Rattle.std.specs.Prelude.{ℕ, ◌+◌, Bool, false, ◌==◌, ◌||◌, not, nat_lt, List, [], ◌∷◌, ◌++◌}
use Rattle.std.specs.Prelude.{length, slice_get, Option, Some, None, if◌then◌else◌}
use Rattle.std.specs.List.{list_any}
use Rattle.plain_netlist.specs.Devices.{terminal_nets}
use Rattle.plain_netlist.specs.Netlist.{DeviceRow, CallRow, Circuit}
use Rattle.text_table.specs.Texts.{has_text}

-- the place of the first item that passes, if any, counted from k
abbrev pub first_from : {A : Type 0} → ℕ → (A → Bool) → List A → Option ℕ
first_from k p [] = None
first_from k p (x ∷ xs) = if p x then Some k else first_from (k + 1) p xs

abbrev pub first_of : {A : Type 0} → (A → Bool) → List A → Option ℕ
first_of p xs = first_from 0 p xs

-- a name stands among those seen before, or twice
abbrev pub has_twins : List (List ℕ) → List (List ℕ) → Bool
has_twins seen [] = false
has_twins seen (n ∷ ns) = has_text seen n || has_twins (seen ++ n ∷ []) ns

-- the first circuit, from number k, whose name was seen before, or whose nets have twins
abbrev pub first_clash : List (List ℕ) → ℕ → List Circuit → Option ℕ
first_clash seen k [] = None
first_clash seen k (c ∷ cs) =
    if has_text seen c.name || has_twins [] c.nets then Some k
    else first_clash (seen ++ c.name ∷ []) (k + 1) cs

-- a net number that isn't below the number of nets
abbrev pub is_out : ℕ → ℕ → Bool
is_out count n = not (nat_lt n count)

abbrev pub is_bad_device : ℕ → DeviceRow → Bool
is_bad_device count d = list_any (is_out count) (terminal_nets d)

abbrev pub is_bad_call : ℕ → CallRow → Bool
is_bad_call count r = list_any (is_out count) r.nets

abbrev pub has_bad_terminal : Circuit → Bool
has_bad_terminal c =
    list_any (is_out (length c.nets)) c.pins || list_any (is_bad_device (length c.nets)) c.devices
    || list_any (is_bad_call (length c.nets)) c.calls

-- a call of no circuit
abbrev pub calls_none : ℕ → Circuit → Bool
calls_none count c = list_any (λ r. is_out count r.circuit) c.calls

-- a call with another number of nets than the called circuit has pins
abbrev pub is_other_count : Option Circuit → CallRow → Bool
is_other_count None r = false
is_other_count (Some called) r = not (length r.nets == length called.pins)

abbrev pub has_other_count : List Circuit → Circuit → Bool
has_other_count circuits c = list_any (λ r. is_other_count (slice_get circuits r.circuit) r) c.calls
