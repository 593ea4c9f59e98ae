-- How a run ends: what it leaves in the store and in the sink, by its answer.
use Rattle.std.specs.Prelude.{◌≡◌, ◌⊎◌, ◌<◌, ℕ, true, false, List, Option, Some, None, Result, Err}
use Rattle.std.specs.Prelude.{codes}
use Rattle.std.specs.Global.{Vec}
use Rattle.lvs_outside.specs.Loops.{ForPrefix, NoneWritten, PartWritten, Sent, WroteFile}
use Rattle.lvs_outside.specs.Store.{Store, Told, counted}
use Rattle.lvs_outside.specs.Summary.{SinkState, counted_sink}
use Rattle.netlist_join.specs.Failing.{OnlyReads}
use Rattle.netlist_run.specs.Accepted.{IsPrepared, Stops}
use Rattle.netlist_run.specs.Words.{Asked, is_same}
use Rattle.netlist_run.specs.declared.status.Status.{Status}
use Rattle.netlist_run.specs.declared.status.Status.TheVariants.{Good, Refused, Outside, NoMemory}
use Rattle.netlist_run.specs.declared.status.Stop.{Stop}
use Rattle.netlist_run.specs.declared.status.Stop.TheVariants as stop

-- the words ask for a text, to this path, which is that of no input, and for lines that tell it
pub record IsReady (o : Option Asked) (file : List ℕ → Told) (path text lines : List ℕ) : Type 0
  where
    pub ask : Asked
    pub asks : o ≡ Some ask
    pub out : ask.out ≡ Some path
    pub apart : is_same ask path ≡ false
    pub prepared : IsPrepared file ask text lines

-- why a run is refused, with this line: the words ask for nothing, or an input stands twice or is
-- the output, and the store wasn't called; or there is nothing to write
pub data IsRefused (o : Option Asked) (old new : Store) (line : List ℕ) : Type 0 where
  Words : o ≡ None → new ≡ old → line ≡ codes "refused words\n" → IsRefused o old new line
  Same : (a : Asked) (path : List ℕ) → o ≡ Some a → a.out ≡ Some path
      → is_same a path ≡ true → new ≡ old → line ≡ codes "refused same\n"
      → IsRefused o old new line
  Stopped : (a : Asked) (text : Vec ℕ) → o ≡ Some a → Stops old new a (stop.Refused text)
      → line ≡ text.items → IsRefused o old new line

-- the sink took this text, or a prefix of it
abbrev pub Took : SinkState → SinkState → List ℕ → Type 0
Took before after text = Sent (counted_sink before) (counted_sink after) text

abbrev pub TookPart : SinkState → SinkState → List ℕ → Type 0
TookPart before after text = ForPrefix text (Took before after)

-- the file at the path is the text now, finished, or it wasn't started, or it was left open
abbrev pub Wrote : Store → Store → List ℕ → List ℕ → Type 0
Wrote old new path text = WroteFile (counted old) (counted new) path text

abbrev pub WrotePart : Store → Store → List ℕ → List ℕ → Type 0
WrotePart old new path text = NoneWritten (counted old) (counted new)
    ⊎ PartWritten (counted old) (counted new) path text

-- what is asked for was written, no other file has changed, no path was answered to have no file,
-- and the lines were sent
pub record Writes (o : Option Asked) (old new : Store) (before after : SinkState) : Type 0 where
  pub path : List ℕ
  pub text : List ℕ
  pub lines : List ℕ
  pub ready : IsReady o old.file path text lines
  pub written : Wrote old new path text
  pub absent : new.absent ≡ old.absent
  pub sent : Took before after lines

-- no file was started, and a line that says why was sent
pub record Refuses (o : Option Asked) (old new : Store) (before after : SinkState) : Type 0 where
  pub line : List ℕ
  pub why : IsRefused o old new line
  pub reads : OnlyReads old new
  pub sent : Took before after line

-- Where a run was when a call failed, and that it went no further: reading files, with nothing sent;
-- sending the line of a refusal; writing the file, with nothing sent; or sending the lines behind
-- it.
pub data FailsAt (o : Option Asked) (old new : Store) (before after : SinkState) : Type 0 where
  AtInput : OnlyReads old new → after ≡ before → FailsAt o old new before after
  AtRefusal : (line : List ℕ) → IsRefused o old new line → OnlyReads old new
      → TookPart before after line → FailsAt o old new before after
  AtFile : (path text lines : List ℕ) → IsReady o old.file path text lines
      → WrotePart old new path text → after ≡ before → FailsAt o old new before after
  AtLines : (path text lines : List ℕ) → IsReady o old.file path text lines
      → Wrote old new path text → TookPart before after lines → FailsAt o old new before after

-- what a run leaves, by what its words ask for and its answer; want of memory comes before the
-- first write
abbrev pub Leaves : Option Asked → Store → Store → SinkState → SinkState → Status → Type 0
Leaves o old new before after Good = Writes o old new before after
Leaves o old new before after Refused = Refuses o old new before after
Leaves o old new before after Outside = FailsAt o old new before after
Leaves o old new before after NoMemory = OnlyReads old new × (after ≡ before)

-- no call failed, an empty take being a fault
pub record HaveStood (old new : Store) (before after : SinkState) : Type 0 where
  pub store : (counted new).faults ≡ (counted old).faults
  pub sink : (counted_sink after).faults ≡ (counted_sink before).faults

-- the answer is Outside exactly where a call failed
abbrev pub ShowsFaults : Store → Store → SinkState → SinkState → Status → Type 0
ShowsFaults old new before after Outside = ((counted old).faults < (counted new).faults)
    ⊎ ((counted_sink before).faults < (counted_sink after).faults)
ShowsFaults old new before after answer = HaveStood old new before after

-- how a run ends
pub record Ends (o : Option Asked) (old new : Store) (before after : SinkState) (answer : Status)
    : Type 0 where
  pub leaves : Leaves o old new before after answer
  pub faults : ShowsFaults old new before after answer

-- a line was sent, and the answer is this one, or the sink failed
abbrev pub Sends : List ℕ → SinkState → SinkState → Status → Status → Type 0
Sends line before after status answer =
    ((answer ≡ status) × Took before after line
    × ((counted_sink after).faults ≡ (counted_sink before).faults))
    ⊎ ((answer ≡ Outside) × TookPart before after line
    × ((counted_sink before).faults < (counted_sink after).faults))

-- the line of a refusal was sent
abbrev pub SendsStop : Stop → SinkState → SinkState → Status → Type 0
SendsStop (stop.Refused text) before after answer = Sends text.items before after Refused answer
SendsStop stop.Outside before after answer = (answer ≡ Outside) × (after ≡ before)
SendsStop stop.NoMemory before after answer = (answer ≡ NoMemory) × (after ≡ before)

-- the text was written and the lines were sent, or a call failed
abbrev pub Delivers : List ℕ → List ℕ → List ℕ → Store → Store → SinkState → SinkState → Status
    → Type 0
Delivers path text lines old new before after answer =
    (Wrote old new path text × ((counted new).faults ≡ (counted old).faults)
    × (new.absent ≡ old.absent) × Sends lines before after Good answer)
    ⊎ ((answer ≡ Outside) × WrotePart old new path text
    × ((counted old).faults < (counted new).faults) × (after ≡ before))

-- the store failed exactly where a run stops outside
abbrev pub ShowsStop : {A : Type 0} → Store → Store → Result A Stop → Type 0
ShowsStop old new (Err stop.Outside) = (counted old).faults < (counted new).faults
ShowsStop old new r = (counted new).faults ≡ (counted old).faults
