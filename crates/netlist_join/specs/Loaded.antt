-- Loaded files: their paths, and what they hold.
use Rattle.std.specs.Prelude.{◌≡◌, ℕ, Bool, false, ◌||◌, List, [], ◌∷◌, ◌++◌, map}
use Rattle.std.specs.Prelude.{string_bytes, if◌then◌else◌}
use Rattle.std.specs.List.{All, list_any}
use Rattle.std.specs.Str.{bytes_eq}
use Rattle.lvs_outside.specs.Loops.{IsFile}
use Rattle.lvs_outside.specs.Store.{Told}
use Rattle.netlist_join.specs.declared.files.File.{File}

abbrev pub paths_of : List File → List (List ℕ)
paths_of files = map (λ f. string_bytes f.path) files

-- each is, byte by byte, the file of its path, where that is told
abbrev pub AreFiles : (List ℕ → Told) → List File → Type 0
AreFiles file files = All (λ f. IsFile f.bytes.items (file (string_bytes f.path))) files

abbrev pub has_path : List (List ℕ) → List ℕ → Bool
has_path paths path = list_any (λ p. bytes_eq p path) paths

-- a path behind others, where it isn't among them
abbrev pub with_path : List (List ℕ) → List ℕ → List (List ℕ)
with_path paths path = if has_path paths path then paths else paths ++ path ∷ []

abbrev pub with_paths : List (List ℕ) → List (List ℕ) → List (List ℕ)
with_paths paths [] = paths
with_paths paths (p ∷ ps) = with_paths (with_path paths p) ps

-- these come first
abbrev pub StartsWith : List (List ℕ) → List (List ℕ) → Type 0
StartsWith all first = (rest : List (List ℕ)) × (all ≡ first ++ rest)

-- files behind some, whose paths are all such
pub record IsMore (Is : List ℕ → Type 0) (old new : List File) : Type 0 where
  pub more : List File
  pub whole : new ≡ old ++ more
  pub each : All (λ f. Is (string_bytes f.path)) more

-- a path stands twice
abbrev pub has_twins : List (List ℕ) → Bool
has_twins [] = false
has_twins (p ∷ ps) = list_any (λ q. bytes_eq p q) ps || has_twins ps
