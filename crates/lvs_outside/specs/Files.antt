-- What a list of files leaves in a store that they are written into, one after the other.
use Rattle.std.specs.Prelude.{◌≡◌, ◌≢◌, ◌⊎◌, ◌<◌, ℕ, List, [], ◌∷◌, ◌++◌, map, string_bytes}
use Rattle.std.specs.Prelude.{Result, OnOk, OnErr}
use Rattle.lvs_outside.specs.Store.{Store, Closed, counted}
use Rattle.lvs_outside.specs.Loops.{ForPrefix, IsFile}
use Rattle.lvs_outside.specs.declared.files.Written.{Written}

-- a file that is written
pub record File : Type 0 where
  pub path : List ℕ
  pub text : List ℕ

abbrev pub file_of : Written → File
file_of w = record { path = string_bytes w.path; text = w.text.items }

abbrev pub files_of : List Written → List File
files_of ws = map file_of ws

-- no file of the list has the path
abbrev pub IsApart : List ℕ → List File → Type 0
IsApart path [] = Unit {0}
IsApart path (f ∷ fs) = (path ≢ f.path) × IsApart path fs

-- their paths differ
abbrev pub AreApart : List File → Type 0
AreApart [] = Unit {0}
AreApart (f ∷ fs) = IsApart f.path fs × AreApart fs

-- where it is told, the path's file is the text that the list has for it, and as before where the
-- list has none
abbrev pub IsWritten : List File → Store → Store → List ℕ → Type 0
IsWritten [] old new path = new.file path ≡ old.file path
IsWritten (f ∷ fs) old new path = ((path ≡ f.path) × IsFile f.text (new.file path))
    ⊎ ((path ≢ f.path) × IsWritten fs old new path)

-- each file of the list holds its text, and all others are as before
pub record AreWritten (old new : Store) (files : List File) : Type 0 where
  pub each : (path : List ℕ) → IsWritten files old new path

-- files up to one are whole, that one is as it was or holds a prefix of its text, and all others
-- are as before
pub record ArePartWritten (old new : Store) (files : List File) : Type 0 where
  pub whole : List File
  pub broken : File
  pub later : List File
  pub order : whole ++ broken ∷ later ≡ files
  pub written : AreWritten old new whole
      ⊎ ForPrefix broken.text (λ front. AreWritten old new (whole
      ++ record { path = broken.path; text = front } ∷ []))

-- the files are written whole, the last of them is closed, and nothing failed, an empty take being
-- a fault
pub record WroteWhole (old new : Store) (files : List File) : Type 0 where
  pub written : AreWritten old new files
  pub closed : (files ≡ []) ⊎ (new.opened ≡ Closed)
  pub absent : new.absent ≡ old.absent
  pub left_open : new.left_open ≡ old.left_open
  pub faults : (counted new).faults ≡ (counted old).faults

-- one of the files is as it was or holds a prefix of its text, and the store failed
pub record WrotePart (old new : Store) (files : List File) : Type 0 where
  pub written : ArePartWritten old new files
  pub faults : (counted old).faults < (counted new).faults

pub record WritesFiles {E : Type 0} (old new : Store) (files : List File)
    (result : Result (Unit {0}) E) : Type 0 where
  pub ok : OnOk result (WroteWhole old new files)
  pub err : OnErr result (WrotePart old new files)
