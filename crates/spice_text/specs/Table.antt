-- A table of needs: for each circuit, the rising numbers of the global names that it needs.
use Rattle.std.specs.Prelude.{◌≡◌, ◌↔◌, ◌==◌, ◌^◌, ℕ, ◌<◌, nat_lt, Bool, true, false, not, ◌&&◌}
use Rattle.std.specs.Prelude.{◌||◌, List, [], ◌∷◌, ◌++◌, length, flat_map, set, slice_get}
use Rattle.std.specs.Prelude.{slice_index_or, Option, Some, None, if◌then◌else◌}
use Rattle.std.specs.List.{list_any}
use Rattle.std.specs.List.Sorted.{IsStrictlyIncreasing}
use Rattle.plain_netlist.specs.Lists.{IsListed, AreApart}
use Rattle.text_table.specs.Texts.{has_text, place_of}
use Rattle.spice_rows.specs.Rows.{CallCard}
use Rattle.spice_text.specs.Gather.{Circuit}
use Rattle.spice_text.specs.Circuits.{called_in, call_lists}
use Rattle.spice_text.specs.Needs.{first_seen, used_nets, is_pin, is_used, Needs}
use Rattle.spice_text.specs.declared.needs.Globals.{Globals}

-- global names, each once, few enough for numbers of 32 bits
pub record AreGlobals (globals : Globals) : Type 0 where
  pub names : globals.names.items ≡ globals.table
  pub apart : AreApart globals.table
  pub few : length globals.table < 2 ^ 32

abbrev pub has_number : List ℕ → ℕ → Bool
has_number row j = list_any (λ i. i == j) row

-- some numbers and then that of a name, where it is global
abbrev pub with_number : List (List ℕ) → List ℕ → List ℕ → List ℕ
with_number globals out n =
    if nat_lt (place_of globals n) (length globals) then out ++ place_of globals n ∷ [] else out

abbrev pub with_numbers : List (List ℕ) → List ℕ → List (List ℕ) → List ℕ
with_numbers globals out [] = out
with_numbers globals out (n ∷ ns) = with_numbers globals (with_number globals out n) ns

-- and then those of the nets of calls
abbrev pub with_calls : List (List ℕ) → List ℕ → List CallCard → List ℕ
with_calls globals out [] = out
with_calls globals out (r ∷ rs) = with_calls globals (with_numbers globals out r.nets) rs

-- the rows of these circuits, one behind another
abbrev pub rows_of : List (List ℕ) → List ℕ → List ℕ
rows_of rows called = flat_map (λ b. slice_index_or rows b []) called

abbrev pub is_not_pin : List (List ℕ) → Option (List ℕ) → Bool
is_not_pin pins None = false
is_not_pin pins (Some g) = not (has_text pins g)

-- the number of a global name that is no pin
abbrev pub is_free : List (List ℕ) → List (List ℕ) → ℕ → Bool
is_free pins globals j = is_not_pin pins (slice_get globals j)

-- whether the table says that circuit k needs global name j
abbrev pub has_need : List (List ℕ) → ℕ → ℕ → Bool
has_need rows k j = has_number (slice_index_or rows k []) j

abbrev pub needed_below : List (List ℕ) → List ℕ → ℕ → Bool
needed_below rows called j = list_any (λ b. has_need rows b j) called

-- rising numbers of global names
pub record IsRow (globals : List (List ℕ)) (row : List ℕ) : Type 0 where
  pub rising : IsStrictlyIncreasing row
  pub within : (j : ℕ) → has_number row j ≡ true → j < length globals

-- the row of a circuit: by its cards and by the rows of those that it calls
pub record IsNeedRow (c : Circuit) (called : List ℕ) (rows globals : List (List ℕ))
    (row : List ℕ) : Type 0 where
  pub numbers : IsRow globals row
  pub says : (j : ℕ) (g : List ℕ) → slice_get globals j ≡ Some g
      → has_number row j ≡ (not (has_text c.pins g) && (has_text (used_nets c) g
      || needed_below rows called j))

-- the row of circuit k, and no other, was made from those before
pub record IsRowSet (cs : List Circuit) (calls globals old new : List (List ℕ)) (k : ℕ)
    : Type 0 where
  pub circuit : Circuit
  pub there : slice_get cs k ≡ Some circuit
  pub row : List ℕ
  pub is_row : IsNeedRow circuit (slice_index_or calls k []) old globals row
  pub is_set : new ≡ set old k row

-- what the row of circuit k says of name j is settled by its cards and the rows of those that it
-- calls
abbrev pub needs_at : List Circuit → List (List ℕ) → List ℕ → ℕ → ℕ → Bool
needs_at cs rows g j k =
    not (is_pin cs g k) && (is_used cs g k
    || needed_below rows (slice_index_or (call_lists cs) k []) j)

-- the rows of these circuits are settled
pub record AreSettled (cs : List Circuit) (globals : List (List ℕ)) (done : List ℕ)
    (rows : List (List ℕ)) : Type 0 where
  pub count : length rows ≡ length cs
  pub numbers : (k : ℕ) → IsListed k done → IsRow globals (slice_index_or rows k [])
  pub each : (k j : ℕ) (g : List ℕ) → IsListed k done → slice_get globals j ≡ Some g
      → has_need rows k j ≡ needs_at cs rows g j k

-- the table says what each circuit needs
pub record IsNeedTable (cs : List Circuit) (globals : List (List ℕ))
    (rows : List (List ℕ)) : Type 0 where
  pub count : length rows ≡ length cs
  pub numbers : (k : ℕ) → k < length cs → IsRow globals (slice_index_or rows k [])
  pub each : (k j : ℕ) (g : List ℕ) → k < length cs → slice_get globals j ≡ Some g
      → (has_need rows k j ≡ true) ↔ Needs cs g k

abbrev pub with_name : Option (List ℕ) → List (List ℕ) → List (List ℕ)
with_name None names = names
with_name (Some g) names = g ∷ names

-- the names that a row says
abbrev pub picked : List ℕ → List (List ℕ) → List (List ℕ)
picked [] globals = []
picked (j ∷ js) globals = with_name (slice_get globals j) (picked js globals)

-- the names that the table says of circuit k
abbrev pub needed_of : List (List ℕ) → List (List ℕ) → ℕ → List (List ℕ)
needed_of rows globals k = picked (slice_index_or rows k []) globals

-- some names and then those of calls with what the called circuits need, each once
abbrev pub seen_with_needs : List (List ℕ) → (ℕ → List (List ℕ)) → List (List ℕ) → List CallCard
    → List (List ℕ)
seen_with_needs names needed seen [] = seen
seen_with_needs names needed seen (r ∷ rs) =
    seen_with_needs names needed (first_seen (first_seen seen r.nets) (needed (called_in names r)))
    rs
