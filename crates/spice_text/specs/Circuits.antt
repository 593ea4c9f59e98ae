-- The circuits of a text's cards, and their calls by number.
use Rattle.std.specs.Prelude.{ℕ, List, map}
use Rattle.text_table.specs.Texts.{place_of}
use Rattle.spice_rows.specs.Rows.{CallCard}
use Rattle.spice_text.specs.Gather.{Circuit, Cards, closed}

-- the circuits of all cards, that of the cards outside last
abbrev pub all_of : Cards → List Circuit
all_of cards = closed cards.circuits cards.outside

abbrev pub names_of : List Circuit → List (List ℕ)
names_of cs = map (λ (c : Circuit). c.name) cs

-- the number of the circuit that a call names, or how many names there are
abbrev pub called_in : List (List ℕ) → CallCard → ℕ
called_in names r = place_of names r.circuit

-- for each circuit, the numbers of those that it calls
abbrev pub call_lists : List Circuit → List (List ℕ)
call_lists cs = map (λ (c : Circuit). map (called_in (names_of cs)) c.calls) cs
