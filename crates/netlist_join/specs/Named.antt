-- Which paths the lines of files name, and which files the inputs come to by them.
use Rattle.std.specs.Prelude.{◌≡◌, ℕ, Bool, true, ◌&&◌, List, [], ◌∷◌, ◌++◌, Option, None}
use Rattle.std.specs.Prelude.{string_bytes}
use Rattle.std.specs.List.{list_all}
use Rattle.std.specs.Option.{option_to_list}
use Rattle.rule_lines.specs.Lines.{lines_of}
use Rattle.netlist_join.specs.Directives.{Directive, Include, Section, directive}
use Rattle.netlist_join.specs.Loaded.{has_path, paths_of}
use Rattle.netlist_join.specs.Paths.{beside, text_of}
use Rattle.netlist_join.specs.declared.files.File.{File}

-- the path that a line of a file names
abbrev pub named_by : List ℕ → Directive → Option (List ℕ)
named_by file (Include path) = text_of (beside file path)
named_by file (Section path name) = text_of (beside file path)
named_by file d = None

-- those that lines of a file name, in their order
abbrev pub named_in : List ℕ → List (List ℕ) → List (List ℕ)
named_in file [] = []
named_in file (line ∷ lines) =
    option_to_list (named_by file (directive line)) ++ named_in file lines

abbrev pub named : File → List (List ℕ)
named f = named_in (string_bytes f.path) (lines_of f.bytes.items)

abbrev pub all_named : List File → List (List ℕ)
all_named [] = []
all_named (f ∷ files) = named f ++ all_named files

-- the paths that are asked for: the inputs, and those that files name
abbrev pub asked : List (List ℕ) → List File → List (List ℕ)
asked inputs files = inputs ++ all_named files

-- each file behind some is an input, or one before it names it
abbrev pub are_reached : List (List ℕ) → List File → List File → Bool
are_reached inputs before [] = true
are_reached inputs before (f ∷ files) =
    has_path (asked inputs before) (string_bytes f.path)
    && are_reached inputs (before ++ f ∷ []) files

-- just the files to which the inputs come: each is an input, or one before it names it, and each
-- path that is an input or is named by one of them has its file there
pub record AreAsked (inputs : List (List ℕ)) (files : List File) : Type 0 where
  pub reached : are_reached inputs [] files ≡ true
  pub there : list_all (λ p. has_path (paths_of files) p) (asked inputs files) ≡ true
