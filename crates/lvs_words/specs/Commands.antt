-- What a list of words asks for.
use Rattle.std.specs.Prelude.{ℕ, ◌^◌, ◌-◌, ◌&&◌, List, [], ◌∷◌, Option, Some, None}
use Rattle.std.specs.Prelude.{if◌then◌else◌, string_bytes, codes}
use Rattle.std.specs.Option.{option_and_then, option_map}
use Rattle.std.specs.Str.{bytes_eq}
use Rattle.lvs_words.specs.declared.command.Command.{Command}
use Rattle.lvs_words.specs.declared.command.Command.TheVariants as command
use Rattle.lvs_words.specs.declared.command.Stated.{Stated}
use Rattle.lvs_words.specs.declared.flag.Flag.{Flag}
use Rattle.lvs_words.specs.declared.flag.Flag.TheVariants as flag
use Rattle.lvs_words.specs.Fitting.{fits, workers_of}
use Rattle.lvs_words.specs.Items.{Item, is_value, items, path, shared, value_of}
use Rattle.lvs_words.specs.Numbers.{number_in}

-- a command, its paths and its names as bytes
pub data Asked : Type 0 where
  Shapes : (layout rules shapes : List ℕ) → Asked
  Extract : (layout rules shapes netlist : List ℕ) (top : Option (List ℕ)) (workers : ℕ) → Asked
  Run : (layout rules schematic shapes netlist report : List ℕ) (top : Option (List ℕ))
      (workers : ℕ) → Asked
  Make : (n seed workers : ℕ) (prefix : List ℕ) → Asked

-- and the path of a file that it writes and names twice
pub record Said : Type 0 where
  pub asked : Asked
  pub shared : Option (List ℕ)

abbrev pub asked_of : Command → Asked
asked_of (command.Shapes layout rules shapes) =
    Shapes (string_bytes layout) (string_bytes rules) (string_bytes shapes)
asked_of (command.Extract layout rules shapes netlist top workers) =
    Extract (string_bytes layout) (string_bytes rules) (string_bytes shapes)
    (string_bytes netlist) top workers
asked_of (command.Run layout rules schematic shapes netlist report top workers) =
    Run (string_bytes layout) (string_bytes rules) (string_bytes schematic)
    (string_bytes shapes) (string_bytes netlist) (string_bytes report) top workers
asked_of (command.Make n seed workers prefix) = Make n seed workers (string_bytes prefix)

abbrev pub said_of : Stated → Said
said_of s = record { asked = asked_of s.command; shared = option_map string_bytes s.shared }

-- `shapes LAYOUT RULES SHAPES`
abbrev pub shapes_items : (layout rules shapes : List ℕ) → List Item
shapes_items layout rules shapes = record { flag = flag.Layout; value = layout }
    ∷ record { flag = flag.Rules; value = rules }
    ∷ record { flag = flag.Shapes; value = shapes } ∷ []

abbrev pub said_shapes : List (List ℕ) → Option Said
said_shapes (l ∷ r ∷ s ∷ []) = if is_value l && is_value r && is_value s
    then Some (record { asked = Shapes l r s; shared = shared (shapes_items l r s) }) else None
said_shapes words = None

-- the options that may be left out
abbrev pub free_flags : List Flag
free_flags = flag.Top ∷ flag.Workers ∷ []

-- `extract`
abbrev pub extract_flags : List Flag
extract_flags = flag.Layout ∷ flag.Rules ∷ flag.Shapes ∷ flag.Netlist ∷ []

abbrev pub extract_of : List Item → Option Asked
extract_of is = if fits extract_flags free_flags is then option_and_then (λ k. Some (Extract
    (path flag.Layout is) (path flag.Rules is) (path flag.Shapes is) (path flag.Netlist is)
    (value_of flag.Top is) k)) (workers_of is) else None

-- `run`
abbrev pub run_flags : List Flag
run_flags = flag.Layout ∷ flag.Rules ∷ flag.Schematic ∷ flag.Shapes ∷ flag.Netlist
    ∷ flag.Report ∷ []

abbrev pub run_of : List Item → Option Asked
run_of is = if fits run_flags free_flags is then option_and_then (λ k. Some (Run (path flag.Layout is)
    (path flag.Rules is) (path flag.Schematic is) (path flag.Shapes is) (path flag.Netlist is)
    (path flag.Report is) (value_of flag.Top is) k)) (workers_of is) else None

-- what these options ask for, and their path that is named twice
abbrev pub said_by : Option Asked → List Item → Option Said
said_by asked is = option_and_then (λ a. Some (record { asked = a; shared = shared is })) asked

abbrev pub said_extract : List (List ℕ) → Option Said
said_extract words = option_and_then (λ is. said_by (extract_of is) is) (items words)

abbrev pub said_run : List (List ℕ) → Option Said
said_run words = option_and_then (λ is. said_by (run_of is) is) (items words)

-- `make N SEED WORKERS PREFIX`
abbrev pub make_of : Option ℕ → Option ℕ → Option ℕ → List ℕ → Option Said
make_of (Some n) (Some seed) (Some workers) prefix =
    Some (record { asked = Make n seed workers prefix; shared = None })
make_of n seed workers prefix = None

abbrev pub said_make : List (List ℕ) → Option Said
said_make (n ∷ s ∷ w ∷ p ∷ []) = if is_value p
    then make_of (number_in 1 100000 n) (number_in 0 (2 ^ 64 - 1) s) (number_in 1 64 w) p
    else None
said_make words = None

-- What the words state: their first names the command.
abbrev pub said : List (List ℕ) → Option Said
said [] = None
said (c ∷ words) =
    if bytes_eq c (codes "shapes") then said_shapes words else
    if bytes_eq c (codes "extract") then said_extract words else
    if bytes_eq c (codes "run") then said_run words else
    if bytes_eq c (codes "make") then said_make words else None

abbrev pub asked : List (List ℕ) → Option Asked
asked words = option_map (λ s. s.asked) (said words)
