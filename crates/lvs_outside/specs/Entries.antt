-- Files in memory: a list of entries, of which the first with a path is that path's file.
use Rattle.std.specs.Prelude.{◌≡◌, ◌≢◌, ◌⊎◌, ℕ, nat_le, List, [], ◌∷◌, Bool, true, false, length}
use Rattle.std.specs.Prelude.{zero, suc, IsTrue, if◌then◌else◌, string_bytes}
use Rattle.std.specs.Str.{bytes_eq}
use Rattle.lvs_outside.specs.Store.{Told, Untold, NoFile, Holds, Open, Closed as ClosedFile}
use Rattle.lvs_outside.specs.Store.{Reading as ReadingFile, Writing as WritingFile}
use Rattle.lvs_outside.specs.declared.entries.Entry.{Entry}
use Rattle.lvs_outside.specs.declared.entries.Place.{Place}
use Rattle.lvs_outside.specs.declared.entries.Place.TheVariants.{Closed, Reading, Writing}

-- what the entries tell of a path
unfoldable pub told : List Entry → List ℕ → Told
told [] p = NoFile
told (e ∷ es) p = if bytes_eq (string_bytes e.path) p then Holds e.bytes.items else told es p

-- the entry of this number is the first with the path
unfoldable pub is_file_of : List Entry → List ℕ → ℕ → Bool
is_file_of [] p i = false
is_file_of (e ∷ es) p zero = bytes_eq (string_bytes e.path) p
is_file_of (e ∷ es) p (suc i) =
    if bytes_eq (string_bytes e.path) p then false else is_file_of es p i

-- a file has at least n bytes
abbrev pub reaches : Told → ℕ → Bool
reaches Untold n = false
reaches NoFile n = false
reaches (Holds bytes) n = nat_le n (length bytes)

-- what is open is the file of this path, and it wasn't read past its end
abbrev pub is_in_place : List Entry → List ℕ → Place → Bool
is_in_place es p Closed = true
is_in_place es p (Reading i at) = if is_file_of es p i then reaches (told es p) at else false
is_in_place es p (Writing i) = is_file_of es p i

-- the open file, by its path and the bytes written
abbrev pub open_at : Place → List ℕ → ℕ → Open
open_at Closed p n = ClosedFile
open_at (Reading i at) p n = ReadingFile p at
open_at (Writing i) p n = WritingFile p n

-- the file being written is left open too
abbrev pub one_if_open : Place → ℕ
one_if_open Closed = 0
one_if_open (Reading i at) = 0
one_if_open (Writing i) = 1

-- one path's file goes by this step, and each other path's stays
pub record Goes (old new : List Entry) (path : List ℕ) (step : Told → Told → Type 0) : Type 0 where
  pub each : (p : List ℕ) → ((p ≡ path) × step (told old p) (told new p))
      ⊎ ((p ≢ path) × (told new p ≡ told old p))

-- an entry is the path's file now, and that is these bytes
pub record IsSet (old new : List Entry) (path bytes : List ℕ) (i : ℕ) : Type 0 where
  pub first : IsTrue (is_file_of new path i)
  pub files : Goes old new path (λ t u. u ≡ Holds bytes)
