-- The code's circuits without a partner as plain names, and tables of names.
use Rattle.std.specs.Prelude.{◌≡◌, ℕ, List}
use Rattle.net_names.specs.Folding.{folded_bytes}
use Rattle.text_table.specs.Texts.{has_text}
use Rattle.pair_turns.specs.Alone.{Names, has_name}
use Rattle.pair_turns.specs.declared.alone.Alone.{Alone}

abbrev pub names_in : Alone → Names
names_in a = record { lefts = a.lefts.items; rights = a.rights.items }

-- what is found in the table is the names, small letters being large ones
abbrev pub IsTableOf : List (List ℕ) → List (List ℕ) → Type 0
IsTableOf names table =
    (name : List ℕ) → has_text table (folded_bytes name) ≡ has_name names name
