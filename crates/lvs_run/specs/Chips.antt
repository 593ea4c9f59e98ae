-- The chip of `make`: the paths and the texts of its files.
use Rattle.std.specs.Prelude.{ℕ, List, [], ◌∷◌, ◌++◌, codes, if◌then◌else◌}
use Rattle.std.specs.Str.{bytes_eq}
use Rattle.chip_maker.specs.Rules.{chip_rules}
use Rattle.chip_maker.specs.Schematic.{chip_netlist}
use Rattle.chip_maker.specs.Stream.{chip_stream}
use Rattle.lvs_outside.specs.Files.{File}
use Rattle.lvs_outside.specs.Store.{Told, Holds}

-- its layout, its rules and its schematic, of n inverters drawn from a seed
unfoldable pub layout_text : (n seed : ℕ) → List ℕ
layout_text n seed = chip_stream n seed

unfoldable pub rules_text : List ℕ
rules_text = chip_rules

unfoldable pub schematic_text : (n seed : ℕ) → List ℕ
schematic_text n seed = chip_netlist n seed

-- where they are written
abbrev pub layout_at : List ℕ → List ℕ
layout_at prefix = prefix ++ codes ".gds"

abbrev pub rules_at : List ℕ → List ℕ
rules_at prefix = prefix ++ codes ".lvs"

abbrev pub schematic_at : List ℕ → List ℕ
schematic_at prefix = prefix ++ codes ".cir"

-- the files, in the order in which they are written
abbrev pub chip_files : (n seed : ℕ) (prefix : List ℕ) → List File
chip_files n seed prefix =
    record { path = layout_at prefix; text = layout_text n seed }
    ∷ record { path = rules_at prefix; text = rules_text }
    ∷ record { path = schematic_at prefix; text = schematic_text n seed } ∷ []

-- what is told where the list's files stand among others
abbrev pub with_files : List File → (List ℕ → Told) → List ℕ → Told
with_files [] file path = file path
with_files (f ∷ fs) file path =
    if bytes_eq path f.path then Holds f.text else with_files fs file path
