-- Why files aren't loaded.
use Rattle.std.specs.Prelude.{◌≡◌, ◌<◌, ℕ, true, false, List, [], length, string_bytes}
use Rattle.std.specs.Prelude.{Result, Err}
use Rattle.lvs_outside.specs.Loops.{IsLonger, NoneWritten, limit}
use Rattle.lvs_outside.specs.Store.{Store, Told, FoundNone, Reading, counted}
use Rattle.netlist_join.specs.Loaded.{AreFiles, has_path, has_twins, paths_of}
use Rattle.netlist_join.specs.Named.{are_reached, asked}
use Rattle.netlist_join.specs.declared.files.File.{File}
use Rattle.netlist_join.specs.declared.files.Failed.{Failed}
use Rattle.netlist_join.specs.declared.files.Failed.TheVariants.{Outside, Absent, TooLong, TooMany, NoMemory}

-- no file was started, and none has changed
pub record OnlyReads (old new : Store) : Type 0 where
  pub none : NoneWritten old new
  pub write_calls : new.write_calls ≡ old.write_calls

-- the answer is Outside exactly where a call on the store failed, an empty take being a fault
abbrev pub ShowsFaults : {A : Type 0} → Store → Store → Result A Failed → Type 0
ShowsFaults old new (Err Outside) = (counted old).faults < (counted new).faults
ShowsFaults old new r = (counted new).faults ≡ (counted old).faults

-- the most files that are loaded
abbrev pub most : ℕ
most = 10000

-- files to which the inputs come, with what the store tells of each, and no path twice
pub record AreSome (file : List ℕ → Told) (inputs : List (List ℕ)) (files : List File) : Type 0
  where
    pub told : AreFiles file files
    pub reached : are_reached inputs [] files ≡ true
    pub apart : has_twins (paths_of files) ≡ false

-- the path is an input, or such a file names it
pub record IsAsked (file : List ℕ → Told) (inputs : List (List ℕ)) (path : List ℕ) : Type 0 where
  pub files : List File
  pub some : AreSome file inputs files
  pub asked : has_path (asked inputs files) path ≡ true

-- more such files than the most
pub record AreTooMany (file : List ℕ → Told) (inputs : List (List ℕ)) : Type 0 where
  pub files : List File
  pub some : AreSome file inputs files
  pub many : most < length files

-- the path's file is told to be longer than is taken, and stands open with more than that read; no
-- path was answered to have no file
pub record FoundLong (old new : Store) (path : List ℕ) : Type 0 where
  pub told : IsLonger limit (old.file path) 0
  pub taken : ℕ
  pub long : limit < taken
  pub opened : new.opened ≡ Reading path taken
  pub absent : new.absent ≡ old.absent

-- why the file of one of these paths wasn't read: the store answered that there is none, which it
-- did of no other path, or it is longer than is taken
abbrev pub NotRead : (List ℕ → Type 0) → Store → Store → Failed → Type 0
NotRead Is old new Outside = Unit {0}
NotRead Is old new (Absent path) = Is (string_bytes path) × FoundNone old new (string_bytes path)
NotRead Is old new (TooLong path) = Is (string_bytes path) × FoundLong old new (string_bytes path)
NotRead Is old new TooMany = ⊥
NotRead Is old new NoMemory = Unit {0}

-- why files weren't loaded: a file that is asked for wasn't read, or they are too many
abbrev pub SaysFailed : List (List ℕ) → Store → Store → Failed → Type 0
SaysFailed inputs old new TooMany = AreTooMany old.file inputs × (new.absent ≡ old.absent)
SaysFailed inputs old new e = NotRead (λ p. IsAsked old.file inputs p) old new e
