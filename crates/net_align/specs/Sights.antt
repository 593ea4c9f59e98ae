-- The nets of a flat circuit that are held, in the order in which they are seen.
use Rattle.std.specs.Prelude.{ℕ, suc, ◌==◌, Bool, cond, List, [], ◌∷◌, ◌++◌, length, map, filter}
use Rattle.std.specs.Prelude.{flat_map, slice_get, slice_index_or, Option, Some, None, is_some}
use Rattle.std.specs.Prelude.{unwrap_or, if◌then◌else◌, ◌≡◌}
use Rattle.std.specs.List.{list_any}
use Rattle.plain_netlist.specs.Netlist.{CallRow, Circuit}
use Rattle.plain_netlist.specs.Devices.{terminal_nets}
use Rattle.plain_netlist.specs.Devices.{row_over}

-- a number stands in the list
abbrev pub has_number : List ℕ → ℕ → Bool
has_number xs n = list_any (λ x. n == x) xs

-- the numbers of the kept circuits, as the table has them
abbrev pub is_kept : List (Option ℕ) → ℕ → Bool
is_kept numbers c = is_some (slice_index_or numbers c None)

abbrev pub number_of : List (Option ℕ) → ℕ → ℕ
number_of numbers c = unwrap_or (slice_index_or numbers c None) 0

-- the held pins of a circuit, as the table has them
abbrev pub pins_of : List (List ℕ) → ℕ → List ℕ
pins_of held c = slice_index_or held c []

-- the net of a call at a pin
abbrev pub net_of : List ℕ → ℕ → ℕ
net_of nets p = slice_index_or nets p 0

module _ (numbers : List (Option ℕ)) (held : List (List ℕ)) where
  -- the nets of a call of a kept circuit at its held pins
  abbrev pub call_nets : CallRow → List ℕ
  call_nets r = cond (is_kept numbers r.circuit) (map (net_of r.nets) (pins_of held r.circuit)) []

  -- the nets that a device terminal or a held pin of a kept circuit's call is on
  abbrev pub inner_sights : Circuit → List ℕ
  inner_sights c = flat_map terminal_nets c.devices ++ flat_map call_nets c.calls

  -- the pins on such nets
  abbrev pub own_pins : Circuit → List ℕ
  own_pins c = filter (has_number (inner_sights c)) c.pins

  -- those pins first, then those nets
  abbrev pub sights : List ℕ → Circuit → List ℕ
  sights own c = own ++ inner_sights c

  -- the call of a kept circuit, with its nets at held pins alone
  abbrev pub short_call : (ℕ → ℕ) → CallRow → List CallRow
  short_call to r =
      cond (is_kept numbers r.circuit)
      (record {
        circuit = number_of numbers r.circuit;
        nets = map to (map (net_of r.nets) (pins_of held r.circuit));
      } ∷ []) []

-- each number where it is first seen
abbrev pub with_first : List ℕ → ℕ → List ℕ
with_first seen n = if has_number seen n then seen else seen ++ n ∷ []

abbrev pub firsts_from : List ℕ → List ℕ → List ℕ
firsts_from seen [] = seen
firsts_from seen (n ∷ ns) = firsts_from (with_first seen n) ns

abbrev pub firsts : List ℕ → List ℕ
firsts ns = firsts_from [] ns

-- the place of a number in the list
abbrev pub place_in : List ℕ → ℕ → ℕ
place_in [] n = 0
place_in (x ∷ xs) n = if n == x then 0 else suc (place_in xs n)

-- the table gives each number of the list its place
pub record IsNumbering (old : List ℕ) (count : ℕ) (new : List (Option ℕ)) : Type 0 where
  pub long : length new ≡ count
  pub there : (k n : ℕ) → slice_get old k ≡ Some n → slice_index_or new n None ≡ Some k
  pub back : (n k : ℕ) → slice_index_or new n None ≡ Some k → slice_get old k ≡ Some n

-- the new number of a net
abbrev pub new_of : List (Option ℕ) → ℕ → ℕ
new_of new n = unwrap_or (slice_index_or new n None) 0

-- a flat circuit with these held pins, cut down to what is held, its nets numbered as first seen
abbrev pub cut_down : List (Option ℕ) → List (List ℕ) → List ℕ → Circuit → Circuit
cut_down numbers held own c =
    let old : List ℕ = firsts (sights numbers held own c) in record {
      name = c.name;
      nets = map (λ n. slice_index_or c.nets n []) old;
      pins = map (place_in old) own;
      devices = map (row_over (place_in old)) c.devices;
      calls = flat_map (short_call numbers held (place_in old)) c.calls;
    }
