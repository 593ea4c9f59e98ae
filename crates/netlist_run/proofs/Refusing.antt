-- Causes of refusals.
use Rattle.std.proofs.Common.{◌≡◌, ◌<◌, ◌++◌, inl, inr, ℕ, true, List, Result, Ok, Err, IfErr, length, subst, sym}
use Rattle.std.specs.Prelude.{codes, string_bytes}
use Rattle.std.specs.Global.{Vec}
use Rattle.lvs_outside.specs.Store.{Store, counted}
use Rattle.spice_rows.specs.Sizes.{read_limit}
use Rattle.spice_rows.specs.declared.fault.SpiceFault.{SpiceFault}
use Rattle.spice_rows.specs.declared.fault.SpiceFault.TheVariants as spice
use Rattle.spice_text.specs.Means.{SaysFirst}
use Rattle.netlist_join.specs.declared.files.File.{File}
use Rattle.netlist_join.specs.declared.files.Failed.{Failed}
use Rattle.netlist_join.specs.declared.files.Failed.TheVariants as load
use Rattle.netlist_join.specs.declared.join.Joined.{Joined}
use Rattle.netlist_join.specs.declared.join.JoinFault.{JoinFault}
use Rattle.netlist_join.specs.declared.join.JoinFault.TheVariants as joining
use Rattle.netlist_join.specs.declared.join.Origin.{Origin}
use Rattle.netlist_join.specs.Joining.{joined as joined_files}
use Rattle.netlist_join.specs.Failing.{ShowsFaults}
use Rattle.netlist_join.specs.JoinLaw.{AllThereLaw}
use Rattle.netlist_join.specs.Loaded.{StartsWith, paths_of}
use Rattle.netlist_join.specs.Named.{AreAsked}
use Rattle.netlist_join.specs.Seen.{SaysFault as SaysJoinFault}
use Rattle.netlist_turn.specs.Made.{Made}
use Rattle.netlist_turn.specs.Turning.{turned}
use Rattle.netlist_turn.specs.Seen.{SaysFault as SaysTurnFault}
use Rattle.netlist_turn.specs.declared.fault.TurnFault.{TurnFault}
use Rattle.netlist_turn.specs.declared.fault.TurnFault.TheVariants as turn
use Rattle.netlist_turn.specs.declared.settings.Settings.{Settings}
use Rattle.netlist_run.specs.Defined.{defined, SaysFault as SaysPlanFault}
use Rattle.netlist_run.specs.Marks.{IsPlan}
use Rattle.netlist_run.specs.Accepted.{NotRead, NotMade, Defines, NoTop, Turns, Reads, Memory, NotJoined, Joins, Makes, NoRoom}
use Rattle.netlist_run.specs.Ends.{ShowsStop}
use Rattle.netlist_run.specs.declared.run.Output.{Output}
use Rattle.netlist_run.specs.Lines.{Says, SaysJoin, SaysLoad, SaysSpice, SaysTurn}
use Rattle.netlist_run.specs.Words.{Asked}
use Rattle.netlist_run.specs.declared.status.Stop.{Stop}
use Rattle.netlist_run.specs.declared.status.Stop.TheVariants as stop

pub not_read : (files : List File) (origins : List Origin) (m : Made) (f : SpiceFault) (s : Stop) → SaysFirst read_limit m.text f → SaysSpice files origins m.lines f s → NotRead files origins m s
not_read files origins m spice.NoMemory s h says = inl says
not_read files origins m (spice.NoSuchCircuit line) s h says = inr (spice.NoSuchCircuit line, h, says)
not_read files origins m (spice.CircuitCycle name) s h says = inr (spice.CircuitCycle name, h, says)
not_read files origins m (spice.PinCount line) s h says = inr (spice.PinCount line, h, says)
not_read files origins m (spice.NameClash line) s h says = inr (spice.NameClash line, h, says)
not_read files origins m (spice.UnknownCard line) s h says = inr (spice.UnknownCard line, h, says)
not_read files origins m (spice.BadLine line) s h says = inr (spice.BadLine line, h, says)
not_read files origins m (spice.ParameterRefused line) s h says = inr (spice.ParameterRefused line, h, says)
not_read files origins m (spice.Value line fault) s h says = inr (spice.Value line fault, h, says)
not_read files origins m (spice.NotClosed line) s h says = inr (spice.NotClosed line, h, says)

pub not_defined : (files : List File) (j : Joined) (a : Asked) (e : TurnFault) (s : Stop) → SaysPlanFault e (defined a.choices.scale j.text.items) → SaysTurn files j.origins.items e s → NotMade files j a s
not_defined files j a turn.NoMemory s h says = Memory says
not_defined files j a (turn.UnknownCard line) s h says = Defines (turn.UnknownCard line) h says
not_defined files j a (turn.BadForm line) s h says = Defines (turn.BadForm line) h says
not_defined files j a (turn.Shadowed line) s h says = Defines (turn.Shadowed line) h says
not_defined files j a (turn.EarlyMore line) s h says = Defines (turn.EarlyMore line) h says
not_defined files j a (turn.Twice line) s h says = Defines (turn.Twice line) h says
not_defined files j a (turn.Resized line) s h says = Defines (turn.Resized line) h says
not_defined files j a (turn.BadScale line) s h says = Defines (turn.BadScale line) h says
not_defined files j a (turn.SecondScale line) s h says = Defines (turn.SecondScale line) h says
not_defined files j a (turn.Unscaled line) s h says = Defines (turn.Unscaled line) h says
not_defined files j a (turn.DeviceNets line) s h says = Defines (turn.DeviceNets line) h says
not_defined files j a (turn.OddCount line) s h says = Defines (turn.OddCount line) h says
not_defined files j a (turn.ListedTwice line) s h says = Defines (turn.ListedTwice line) h says
not_defined files j a (turn.OtherPins line) s h says = Defines (turn.OtherPins line) h says

pub not_turned : (files : List File) (j : Joined) (a : Asked) (settings : Settings) (e : TurnFault) (s : Stop) → IsPlan j.text.items a.top a.choices settings true
    → SaysTurnFault e (turned settings j.text.items) → SaysTurn files j.origins.items e s → NotMade files j a s
not_turned files j a settings turn.NoMemory s plan h says = Memory says
not_turned files j a settings (turn.UnknownCard line) s plan h says = Turns settings (turn.UnknownCard line) plan h says
not_turned files j a settings (turn.BadForm line) s plan h says = Turns settings (turn.BadForm line) plan h says
not_turned files j a settings (turn.Shadowed line) s plan h says = Turns settings (turn.Shadowed line) plan h says
not_turned files j a settings (turn.EarlyMore line) s plan h says = Turns settings (turn.EarlyMore line) plan h says
not_turned files j a settings (turn.Twice line) s plan h says = Turns settings (turn.Twice line) plan h says
not_turned files j a settings (turn.Resized line) s plan h says = Turns settings (turn.Resized line) plan h says
not_turned files j a settings (turn.BadScale line) s plan h says = Turns settings (turn.BadScale line) plan h says
not_turned files j a settings (turn.SecondScale line) s plan h says = Turns settings (turn.SecondScale line) plan h says
not_turned files j a settings (turn.Unscaled line) s plan h says = Turns settings (turn.Unscaled line) plan h says
not_turned files j a settings (turn.DeviceNets line) s plan h says = Turns settings (turn.DeviceNets line) plan h says
not_turned files j a settings (turn.OddCount line) s plan h says = Turns settings (turn.OddCount line) plan h says
not_turned files j a settings (turn.ListedTwice line) s plan h says = Turns settings (turn.ListedTwice line) plan h says
not_turned files j a settings (turn.OtherPins line) s plan h says = Turns settings (turn.OtherPins line) plan h says

pub not_joined : (files : List File) (a : Asked) (e : JoinFault) (s : Stop) → AllThereLaw → AreAsked a.inputs files → StartsWith (paths_of files) a.inputs
    → SaysJoinFault e (joined_files files (length a.inputs) a.has_title) → SaysJoin files e s → NotJoined files a s
not_joined files a (joining.At why at) s law all starts h says = Joins (joining.At why at) h (law a.inputs files a.has_title (joining.At why at) all starts h) says
not_joined files a joining.NoMemory s law all starts h says = NoRoom says

-- only a call that failed stops a run so

turn_inside : (files : List File) (origins : List Origin) (e : TurnFault) → SaysTurn files origins e stop.Outside → ⊥
turn_inside files origins turn.NoMemory h = absurd cc
turn_inside files origins (turn.UnknownCard line) h = h
turn_inside files origins (turn.BadForm line) h = h
turn_inside files origins (turn.Shadowed line) h = h
turn_inside files origins (turn.EarlyMore line) h = h
turn_inside files origins (turn.Twice line) h = h
turn_inside files origins (turn.Resized line) h = h
turn_inside files origins (turn.BadScale line) h = h
turn_inside files origins (turn.SecondScale line) h = h
turn_inside files origins (turn.Unscaled line) h = h
turn_inside files origins (turn.DeviceNets line) h = h
turn_inside files origins (turn.OddCount line) h = h
turn_inside files origins (turn.ListedTwice line) h = h
turn_inside files origins (turn.OtherPins line) h = h

spice_inside : (files : List File) (origins : List Origin) (lines : List ℕ) (f : SpiceFault) → SaysSpice files origins lines f stop.Outside → ⊥
spice_inside files origins lines spice.NoMemory h = absurd cc
spice_inside files origins lines (spice.NoSuchCircuit line) h = h
spice_inside files origins lines (spice.CircuitCycle name) h = h
spice_inside files origins lines (spice.PinCount line) h = h
spice_inside files origins lines (spice.NameClash line) h = h
spice_inside files origins lines (spice.UnknownCard line) h = h
spice_inside files origins lines (spice.BadLine line) h = h
spice_inside files origins lines (spice.ParameterRefused line) h = h
spice_inside files origins lines (spice.Value line fault) h = h
spice_inside files origins lines (spice.NotClosed line) h = h

read_inside : (files : List File) (origins : List Origin) (m : Made) → NotRead files origins m stop.Outside → ⊥
read_inside files origins m (inl e) = absurd cc
read_inside files origins m (inr h) = spice_inside files origins m.lines h.0 h.2

made_inside : (files : List File) (j : Joined) (a : Asked) → NotMade files j a stop.Outside → ⊥
made_inside files j a (Defines e h says) = turn_inside files j.origins.items e says
made_inside files j a (NoTop settings h says) = says
made_inside files j a (Turns settings e h g says) = turn_inside files j.origins.items e says
made_inside files j a (Reads settings m h g r) = read_inside files j.origins.items m r
made_inside files j a (Memory e) = absurd cc

pub joined_inside : (files : List File) (a : Asked) → NotJoined files a stop.Outside → ⊥
joined_inside files a (Joins (joining.At why at) h there says) = says
joined_inside files a (Joins joining.NoMemory h there says) = absurd cc
joined_inside files a (Makes j h g) = made_inside files j a g
joined_inside files a (NoRoom e) = absurd cc

-- the store failed exactly where files weren't loaded for that

said_quiet : (old new : Store) (line : List ℕ) (s : Stop) → (counted new).faults ≡ (counted old).faults → Says line s → ShowsStop {A = Output} old new (Err s)
said_quiet old new line (stop.Refused text) quiet says = quiet
said_quiet old new line stop.Outside quiet says = absurd says
said_quiet old new line stop.NoMemory quiet says = quiet

pub load_quiet : (old new : Store) (e : Failed) (s : Stop) → ShowsFaults {A = Vec File} old new (Err e) → SaysLoad e s → ShowsStop {A = Output} old new (Err s)
load_quiet old new load.Outside s h says = subst (λ (x : Stop). ShowsStop {A = Output} old new (Err x)) (sym says) h
load_quiet old new (load.Absent path) s h says = said_quiet old new (codes "refused absent " ++ (string_bytes path ++ codes "\n")) s h says
load_quiet old new (load.TooLong path) s h says = said_quiet old new (codes "refused long " ++ (string_bytes path ++ codes "\n")) s h says
load_quiet old new load.TooMany s h says = said_quiet old new (codes "refused more than 10000 files\n") s h says
load_quiet old new load.NoMemory s h says = subst (λ (x : Stop). ShowsStop {A = Output} old new (Err x)) (sym says) h

pub joined_quiet : (old new : Store) (files : List File) (a : Asked) (r : Result Output Stop) → (counted new).faults ≡ (counted old).faults → IfErr r (NotJoined files a) → ShowsStop old new r
joined_quiet old new files a (Ok o) quiet h = quiet
joined_quiet old new files a (Err (stop.Refused text)) quiet h = quiet
joined_quiet old new files a (Err stop.Outside) quiet h = absurd (joined_inside files a h)
joined_quiet old new files a (Err stop.NoMemory) quiet h = quiet
