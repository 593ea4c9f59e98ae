-- Files that are lent: a list of entries, of which the first with a path is that path's.
use Rattle.std.specs.Prelude.{◌≡◌, ◌⊎◌, ℕ, nat_le, List, [], ◌∷◌, length, Bool, true, false, zero}
use Rattle.std.specs.Prelude.{suc, Option, Some, None, if◌then◌else◌}
use Rattle.std.specs.Borrow.{Bor}
use Rattle.std.specs.List.{list_any}
use Rattle.std.specs.Str.{bytes_eq}
use Rattle.lvs_outside.specs.Store.{Told, Untold, NoFile, Holds, Open, Closed as ClosedFile}
use Rattle.lvs_outside.specs.Store.{Reading as ReadingFile, Writing as WritingFile}
use Rattle.lvs_outside.specs.declared.lent.Lent.{Lent}
use Rattle.lvs_outside.specs.declared.lent.Access.{Access}
use Rattle.lvs_outside.specs.declared.lent.Access.TheVariants.{Closed, Reading, Writing}

-- a lent file is told until it is written
abbrev pub told_bytes : Option (Bor (List ℕ)) → Told
told_bytes (Some bytes) = Holds bytes.now
told_bytes None = Untold

-- what the entries tell of a path, or this where none has it
unfoldable pub told_or : List Lent → Told → List ℕ → Told
told_or [] other p = other
told_or (e ∷ es) other p = if bytes_eq e.path.now p then told_bytes e.bytes else told_or es other p

-- the entry of this number is the first with the path
unfoldable pub is_first : List Lent → List ℕ → ℕ → Bool
is_first [] p i = false
is_first (e ∷ es) p zero = bytes_eq e.path.now p
is_first (e ∷ es) p (suc i) = if bytes_eq e.path.now p then false else is_first es p i

-- no entry has the path, or its file was written
abbrev pub IsUnheld : List Lent → Told → List ℕ → Type 0
IsUnheld es other p = (told_or es other p ≡ other) ⊎ (told_or es other p ≡ Untold)

-- a path that no entry has: its file was written, and nothing is told of it, or it has none
abbrev pub unlent : List (List ℕ) → List ℕ → Told
unlent written p = if list_any (λ q. bytes_eq q p) written then Untold else NoFile

-- what the files lent and the paths written tell of a path
abbrev pub told_lent : List Lent → List (List ℕ) → List ℕ → Told
told_lent files written p = told_or files (unlent written p) p

-- what is told is these bytes, and they weren't read past their end
abbrev pub is_read : Told → List ℕ → ℕ → Bool
is_read Untold bytes at = false
is_read NoFile bytes at = false
is_read (Holds all) bytes at = if bytes_eq all bytes then nat_le at (length bytes) else false

abbrev pub is_untold : Told → Bool
is_untold Untold = true
is_untold NoFile = false
is_untold (Holds bytes) = false

-- the open file is as told: the bytes that are read are its own, and a file that is written isn't
-- told
abbrev pub is_access : Told → Access → Bool
is_access told Closed = true
is_access told (Reading bytes at) = is_read told bytes.now at
is_access told Writing = is_untold told

-- the open file, by its path and the bytes written
abbrev pub access_at : Access → List ℕ → ℕ → Open
access_at Closed p n = ClosedFile
access_at (Reading bytes at) p n = ReadingFile p at
access_at Writing p n = WritingFile p n

-- the file being written is left open too
abbrev pub one_if_written : Access → ℕ
one_if_written Closed = 0
one_if_written (Reading bytes at) = 0
one_if_written Writing = 1
