-- What a run has to write: what the cards of the joined inputs make, where the reader of `lvs` takes
-- it, and all that is told of it; or why there is nothing.
use Rattle.std.specs.Prelude.{◌≡◌, ◌⊎◌, ℕ, true, false, List, length, Ok, Err}
use Rattle.lvs_outside.specs.Store.{Store, Told}
use Rattle.plain_netlist.specs.Netlist.{Netlist}
use Rattle.spice_rows.specs.Sizes.{read_limit}
use Rattle.spice_rows.specs.declared.fault.SpiceFault.{SpiceFault}
use Rattle.spice_text.specs.Means.{Means, IsFirstFault}
use Rattle.netlist_join.specs.declared.files.File.{File}
use Rattle.netlist_join.specs.declared.files.Failed.{Failed}
use Rattle.netlist_join.specs.declared.join.Joined.{Joined}
use Rattle.netlist_join.specs.declared.join.JoinFault.{JoinFault}
use Rattle.netlist_join.specs.declared.join.Origin.{Origin}
use Rattle.netlist_join.specs.Joining.{joined as joined_files}
use Rattle.netlist_join.specs.Failing.{SaysFailed}
use Rattle.netlist_join.specs.JoinLaw.{IsPresent}
use Rattle.netlist_join.specs.Loaded.{AreFiles, StartsWith, paths_of}
use Rattle.netlist_join.specs.Named.{AreAsked}
use Rattle.netlist_join.specs.Seen.{seen as joined_seen}
use Rattle.netlist_turn.specs.Made.{Made}
use Rattle.netlist_turn.specs.Turning.{turned}
use Rattle.netlist_turn.specs.declared.fault.TurnFault.{TurnFault}
use Rattle.netlist_turn.specs.declared.settings.Settings.{Settings}
use Rattle.netlist_run.specs.Sums.{told_text}
use Rattle.netlist_run.specs.Defined.{defined}
use Rattle.netlist_run.specs.Marks.{IsPlan}
use Rattle.netlist_run.specs.Lines.{Says, SaysJoin, SaysLoad, SaysSpice, SaysTurn, no_top_line}
use Rattle.netlist_run.specs.Words.{Asked}
use Rattle.netlist_run.specs.declared.status.Stop.{Stop}
use Rattle.netlist_run.specs.declared.status.Stop.TheVariants as stop

-- the text, read as `lvs` reads a schematic, means this netlist
pub record IsAccepted (text : List ℕ) : Type 0 where
  pub netlist : Netlist
  pub means : Means read_limit text netlist

-- the text is what the cards of the joined files make, by the names that they define, with the
-- circuits that the one that is asked for reaches; the reader of `lvs` takes it, and the lines tell
-- each change
pub record IsOutput (files : List File) (joined : Joined) (a : Asked) (text lines : List ℕ)
    : Type 0 where
  pub settings : Settings
  pub made : Made
  pub plan : IsPlan joined.text.items a.top a.choices settings true
  pub turned : turned settings joined.text.items ≡ Ok made
  pub text_is : text ≡ made.text
  pub lines_are : lines
      ≡ told_text a.has_title files joined.origins.items joined.comments settings.scale made.told
      (length made.lines)
  pub accepted : IsAccepted text

-- a fault that the reader of `lvs` finds in what was made, and the run stops with its line
abbrev pub NotRead : List File → List Origin → Made → Stop → Type 0
NotRead files origins m s = (s ≡ stop.NoMemory) ⊎ ((f : SpiceFault)
    × IsFirstFault read_limit m.text f × SaysSpice files origins m.lines f s)

-- why the cards of the joined files make nothing that is written, with the line of which the run
-- stops: the first card that defines a name wrongly, no circuit of the name that is asked for, the
-- first card that can't be turned, or the first fault of what was made
pub data NotMade (files : List File) (j : Joined) (a : Asked) (s : Stop) : Type 0 where
  Defines : (e : TurnFault) → defined a.choices.scale j.text.items ≡ Err e
      → SaysTurn files j.origins.items e s → NotMade files j a s
  NoTop : (settings : Settings) → IsPlan j.text.items a.top a.choices settings false
      → Says (no_top_line a.top) s → NotMade files j a s
  Turns : (settings : Settings) (e : TurnFault)
      → IsPlan j.text.items a.top a.choices settings true
      → turned settings j.text.items ≡ Err e → SaysTurn files j.origins.items e s
      → NotMade files j a s
  Reads : (settings : Settings) (m : Made) → IsPlan j.text.items a.top a.choices settings true
      → turned settings j.text.items ≡ Ok m → NotRead files j.origins.items m s
      → NotMade files j a s
  Memory : s ≡ stop.NoMemory → NotMade files j a s

-- the inputs are joined, and the text is what they make
pub record IsJoined (files : List File) (a : Asked) (text lines : List ℕ) : Type 0 where
  pub joined : Joined
  pub joins : joined_files files (length a.inputs) a.has_title ≡ Ok (joined_seen joined)
  pub output : IsOutput files joined a text lines

-- why they make nothing: the first line that can't be joined, but for a file that isn't there, or
-- else why its cards make nothing
pub data NotJoined (files : List File) (a : Asked) (s : Stop) : Type 0 where
  Joins : (e : JoinFault) → joined_files files (length a.inputs) a.has_title ≡ Err e
      → IsPresent e → SaysJoin files e s → NotJoined files a s
  Makes : (j : Joined) → joined_files files (length a.inputs) a.has_title ≡ Ok (joined_seen j)
      → NotMade files j a s → NotJoined files a s
  NoRoom : s ≡ stop.NoMemory → NotJoined files a s

-- just the files to which the inputs come, the inputs first, in their order, and each file's bytes
-- are those that the store tells
pub record AreLoaded (file : List ℕ → Told) (a : Asked) (files : List File) : Type 0 where
  pub told : AreFiles file files
  pub inputs : StartsWith (paths_of files) a.inputs
  pub asked : AreAsked a.inputs files

pub record IsPrepared (file : List ℕ → Told) (a : Asked) (text lines : List ℕ) : Type 0 where
  pub files : List File
  pub loaded : AreLoaded file a files
  pub joined : IsJoined files a text lines

-- why a run has nothing to write: a file that isn't loaded, or what the loaded ones lack, and then
-- no path was answered to have no file
pub data Stops (old new : Store) (a : Asked) (s : Stop) : Type 0 where
  Loads : (e : Failed) → SaysFailed a.inputs old new e → SaysLoad e s → Stops old new a s
  Lacks : (files : List File) → AreLoaded old.file a files → new.absent ≡ old.absent
      → NotJoined files a s → Stops old new a s
