-- Which circuits of a netlist an aligned one has, and which are flattened into their callers.
use Rattle.std.specs.Prelude.{ℕ, ◌+◌, ◌==◌, ◌&&◌, ◌||◌, Bool, false, not, List, [], ◌∷◌, ◌++◌}
use Rattle.std.specs.Prelude.{length, map, Option, Some, None, is_some, replicate, slice_index_or, slice_set}
use Rattle.std.specs.List.{list_any, range_with_len}
use Rattle.plain_netlist.specs.Netlist.{CallRow, Circuit}
use Rattle.text_table.specs.Texts.{place_of, with_text}

-- the names of circuits, each once, behind these
abbrev pub texts_from : List (List ℕ) → List Circuit → List (List ℕ)
texts_from before [] = before
texts_from before (c ∷ cs) = texts_from (with_text before c.name) cs

-- for each circuit the place of its name
abbrev pub places_in : List (List ℕ) → List Circuit → List ℕ
places_in texts cs = map (λ (c : Circuit). place_of texts c.name) cs

-- the table with these values at these places, the first of them value i
abbrev pub set_all : List (Option ℕ) → ℕ → List ℕ → List ℕ → List (Option ℕ)
set_all table i [] values = table
set_all table i (n ∷ ns) values =
    set_all (slice_set table n (Some (slice_index_or values i 0))) (i + 1) ns values

-- the place in a list of each number below count, if it is there
abbrev pub numbered : List ℕ → ℕ → List (Option ℕ)
numbered list count = set_all (replicate count None) 0 list (range_with_len 0 (length list))

-- a circuit has a number
abbrev pub is_kept : List (Option ℕ) → ℕ → Bool
is_kept numbers c = is_some (slice_index_or numbers c None)

-- a device stands in the circuit, or a circuit that it calls is marked
abbrev pub holds : List Bool → Circuit → Bool
holds marks c = not (length c.devices == 0)
    || list_any (λ (r : CallRow). slice_index_or marks r.circuit false) c.calls

-- the marks of these circuits behind those of the ones before them
abbrev pub holding : List Bool → List Circuit → List Bool
holding marks [] = marks
holding marks (c ∷ cs) = holding (marks ++ holds marks c ∷ []) cs

-- those go that hold a device and have no number, the first of them being circuit c
abbrev pub going : List (Option ℕ) → ℕ → List Bool → List Bool
going numbers c [] = []
going numbers c (mark ∷ marks) = (not (is_kept numbers c) && mark) ∷ going numbers (c + 1) marks
