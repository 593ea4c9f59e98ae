-- The path that a line of a file names.
use Rattle.std.specs.Prelude.{ℕ, ◌+◌, ◌==◌, List, [], ◌∷◌, ◌++◌, take, Option, Some, None}
use Rattle.std.specs.Prelude.{string_bytes, if◌then◌else◌}
use Rattle.std.specs.Str.{bytes_eq, is_utf8}
use Rattle.std.specs.List.{position}
use Rattle.rule_lines.specs.Lines.{begins}
use Rattle.netlist_join.specs.declared.files.File.{File}

-- how many bytes the last `/` ends: n before the k-th, from which on these stand
abbrev pub folder_len : ℕ → ℕ → List ℕ → ℕ
folder_len n k [] = n
folder_len n k (b ∷ bytes) = folder_len (if b == 0x2F then k + 1 else n) (k + 1) bytes

-- a path up to its last `/`
abbrev pub folder : List ℕ → List ℕ
folder path = take (folder_len 0 0 path) path

-- beside the file that names it, where it isn't absolute
abbrev pub beside : List ℕ → List ℕ → List ℕ
beside file path = if begins 0x2F path then path else folder file ++ path

-- a path is text
abbrev pub text_of : List ℕ → Option (List ℕ)
text_of bytes = if is_utf8 bytes then Some bytes else None

-- the number of the file of this path
abbrev pub find : List ℕ → List File → Option ℕ
find path files = position (λ f. bytes_eq (string_bytes f.path) path) files
