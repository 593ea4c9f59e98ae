-- Where a line came from, in words.
use Rattle.std.specs.Prelude.{ℕ, ◌-◌, List, [], ◌++◌, Option, Some, None, slice_get, slice_index_or}
use Rattle.std.specs.Prelude.{codes, string_bytes}
use Rattle.std.specs.Fmt.{decimal}
use Rattle.netlist_join.specs.declared.files.File.{File}
use Rattle.netlist_join.specs.declared.join.Origin.{Origin}

abbrev pub path_of : Option File → List ℕ
path_of None = []
path_of (Some f) = string_bytes f.path

-- `PATH line L `
abbrev pub place_text : List File → Origin → List ℕ
place_text files at =
    path_of (slice_get files at.file) ++ (codes " line " ++ (decimal at.line ++ codes " "))

-- where line n of a text came from, counted from 1
abbrev pub origin_of : List Origin → ℕ → Origin
origin_of origins n = slice_index_or origins (n - 1) (record { file = 0; line = n })
