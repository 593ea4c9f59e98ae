-- Circuits and lines by their folded names, and what is found among names.
use Rattle.std.specs.Prelude.{◌≡◌, ◌↔◌, ℕ, List, map, length, nat_lt, Option, Some, None, slice_get}
use Rattle.std.specs.Prelude.{if◌then◌else◌}
use Rattle.net_names.specs.Folding.{folded_bytes}
use Rattle.plain_netlist.specs.Netlist.{Circuit, Netlist}
use Rattle.text_table.specs.Texts.{place_of}
use Rattle.net_align.specs.declared.names.Naming.{Naming}

-- the folded names of the circuits, and those on each side of the lines
abbrev pub names_of : Netlist → List (List ℕ)
names_of nl = map (λ (c : Circuit). folded_bytes c.name) nl.circuits

abbrev pub left_names : List (List ℕ × List ℕ) → List (List ℕ)
left_names same = map (λ (p : List ℕ × List ℕ). folded_bytes p.0) same

abbrev pub right_names : List (List ℕ × List ℕ) → List (List ℕ)
right_names same = map (λ (p : List ℕ × List ℕ). folded_bytes p.1) same

-- no name stands at two places
abbrev pub AreOnce : List (List ℕ) → Type 0
AreOnce names = (i j : ℕ) (name : List ℕ) → slice_get names i ≡ Some name
    → slice_get names j ≡ Some name → i ≡ j

-- the place of a name, if it is there
abbrev pub found_in : List (List ℕ) → List ℕ → Option ℕ
found_in names name =
    if nat_lt (place_of names name) (length names) then Some (place_of names name) else None

-- what is found of each name is its place
abbrev pub FindsNames : List (List ℕ) → (List ℕ → Option ℕ) → Type 0
FindsNames names look =
    (name : List ℕ) (i : ℕ) → (look name ≡ Some i) ↔ (slice_get names i ≡ Some name)

-- what is found of a name, if there is one
abbrev pub look_other : (List ℕ → Option ℕ) → Option (List ℕ) → Option ℕ
look_other look (Some other) = look other
look_other look None = None

-- by the line that has the name on the left; else by the name, where no line has it on the right
abbrev pub by_lines : (List ℕ → Option ℕ) → List (List ℕ) → List ℕ → Option ℕ → Option ℕ
    → Option ℕ
by_lines look names name (Some line) y = look_other look (slice_get names line)
by_lines look names name None (Some line) = None
by_lines look names name None None = look name

-- the partner by name of a layout circuit of this folded name
abbrev pub partner_named : Naming → List ℕ → Option ℕ
partner_named n name =
    by_lines (found_in n.circuits) n.right_names.items name
    (found_in n.lefts name) (found_in n.rights name)

-- the tables are those of the schematic and of the lines
pub record IsNaming (schematic : Netlist) (same : List (List ℕ × List ℕ))
    (n : Naming) : Type 0 where
  pub circuits : n.circuits ≡ names_of schematic
  pub lefts : n.lefts ≡ left_names same
  pub rights : n.rights ≡ right_names same
  pub names : n.right_names.items ≡ right_names same

-- the partner of each circuit of the layout, as names give it
abbrev pub partners_named : Naming → Netlist → List (Option ℕ)
partners_named n layout = map (partner_named n) (names_of layout)
