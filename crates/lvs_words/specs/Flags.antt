-- The options of the programs, by name.
use Rattle.std.specs.Prelude.{ℕ, Bool, true, false, List, Option, Some, None, codes}
use Rattle.std.specs.Prelude.{if◌then◌else◌}
use Rattle.std.specs.Str.{bytes_eq}
use denote.Enum.Bare.{sameb}
use Rattle.lvs_words.specs.contracts.flag.Flag.{the_type}
use Rattle.lvs_words.specs.declared.flag.Flag.{Flag}
use Rattle.lvs_words.specs.declared.flag.Flag.TheVariants.{Layout, Rules, Schematic, Shapes}
use Rattle.lvs_words.specs.declared.flag.Flag.TheVariants.{Netlist, Report, Database, Page}
use Rattle.lvs_words.specs.declared.flag.Flag.TheVariants.{Top, Workers}

-- the option of this name
abbrev pub flag_of : List ℕ → Option Flag
flag_of name =
    if bytes_eq name (codes "--layout") then Some Layout else
    if bytes_eq name (codes "--rules") then Some Rules else
    if bytes_eq name (codes "--schematic") then Some Schematic else
    if bytes_eq name (codes "--shapes") then Some Shapes else
    if bytes_eq name (codes "--netlist") then Some Netlist else
    if bytes_eq name (codes "--report") then Some Report else
    if bytes_eq name (codes "--database") then Some Database else
    if bytes_eq name (codes "--page") then Some Page else
    if bytes_eq name (codes "--top") then Some Top else
    if bytes_eq name (codes "--workers") then Some Workers else None

-- they are one option
abbrev pub is_same : Flag → Flag → Bool
is_same a b = sameb the_type a b

-- the option's value is a path
abbrev pub is_path : Flag → Bool
is_path Top = false
is_path Workers = false
is_path flag = true

-- the option's value is the path of a file that is written
abbrev pub is_written : Flag → Bool
is_written Shapes = true
is_written Netlist = true
is_written Report = true
is_written Database = true
is_written Page = true
is_written flag = false
