-- The lines of refusals.
use Rattle.std.specs.Prelude.{◌≡◌, ℕ, ◌-◌, List, [], ◌++◌, codes, slice_index_or, string_bytes}
use Rattle.std.specs.Prelude.{Option, Some, None, Result, Ok, Err}
use Rattle.std.specs.Global.{Vec}
use Rattle.std.specs.Fmt.{decimal}
use Rattle.spice_rows.specs.declared.fault.SpiceFault.{SpiceFault}
use Rattle.spice_rows.specs.declared.fault.SpiceFault.TheVariants as spice
use Rattle.netlist_join.specs.declared.files.File.{File}
use Rattle.netlist_join.specs.declared.files.Failed.{Failed}
use Rattle.netlist_join.specs.declared.files.Failed.TheVariants as load
use Rattle.netlist_join.specs.declared.join.JoinFault.{JoinFault}
use Rattle.netlist_join.specs.declared.join.JoinFault.TheVariants as joining
use Rattle.netlist_join.specs.declared.join.Origin.{Origin}
use Rattle.netlist_join.specs.declared.join.Why.{Why}
use Rattle.netlist_join.specs.declared.join.Why.TheVariants as why
use Rattle.netlist_run.specs.Places.{place_text, origin_of}
use Rattle.netlist_turn.specs.declared.fault.TurnFault.{TurnFault}
use Rattle.netlist_turn.specs.declared.fault.TurnFault.TheVariants as turn
use Rattle.netlist_run.specs.declared.status.Stop.{Stop}
use Rattle.netlist_run.specs.declared.status.Stop.TheVariants.{Refused, Outside, NoMemory}

-- `refused PATH line L WHY`
abbrev pub refusal : List File → Origin → List ℕ → List ℕ
refusal files at text = codes "refused " ++ (place_text files at ++ (text ++ codes "\n"))

abbrev pub why_text : Why → List ℕ
why_text why.Absent = codes "names a file that isn't there"
why_text why.Deep = codes "files take in each other in a cycle, or too deep"
why_text why.NoSection = codes "the file hasn't the section"
why_text why.BadForm = codes "names no file"
why_text why.OpenQuotes = codes "quotes that don't end"
why_text why.SplitText = codes "a blank inside a value"
why_text why.EarlyMore = codes "a + with no card before it in its file"

abbrev pub turn_line : TurnFault → ℕ
turn_line (turn.UnknownCard line) = line
turn_line (turn.BadForm line) = line
turn_line (turn.Shadowed line) = line
turn_line (turn.EarlyMore line) = line
turn_line (turn.Twice line) = line
turn_line (turn.Resized line) = line
turn_line (turn.BadScale line) = line
turn_line (turn.SecondScale line) = line
turn_line (turn.Unscaled line) = line
turn_line (turn.DeviceNets line) = line
turn_line (turn.OddCount line) = line
turn_line (turn.ListedTwice line) = line
turn_line (turn.OtherPins line) = line
turn_line turn.NoMemory = 0

abbrev pub turn_text : TurnFault → List ℕ
turn_text (turn.UnknownCard line) = codes "a card that can't be taken"
turn_text (turn.BadForm line) = codes "the card has another form"
turn_text (turn.Shadowed line) = codes "a circuit's parameter that .PARAM defines, too"
turn_text (turn.EarlyMore line) = codes "a + with no card before it"
turn_text (turn.Twice line) = codes "a second .PARAM of one name"
turn_text (turn.Resized line) = codes "an option that changes sizes"
turn_text (turn.BadScale line) = codes "a SCALE that is no number"
turn_text (turn.SecondScale line) = codes "a second SCALE"
turn_text (turn.Unscaled line) = codes "a size that the scale doesn't turn into one"
turn_text (turn.DeviceNets line) = codes "a call of a device with another number of nets"
turn_text (turn.OddCount line) =
    codes "a number of devices that is said twice, or not twice the same"
turn_text (turn.ListedTwice line) = codes "a second .DEVICE of one name"
turn_text (turn.OtherPins line) = codes "$PINS that aren't the circuit's pins"
turn_text turn.NoMemory = []

-- the refusal of a card that can't be turned
abbrev pub turn_refusal : List File → List Origin → TurnFault → List ℕ
turn_refusal files origins fault =
    refusal files (origin_of origins (turn_line fault)) (turn_text fault)

-- no circuit of the name that is asked for begins
abbrev pub no_top_line : Option (List ℕ) → List ℕ
no_top_line None = []
no_top_line (Some top) = codes "refused no circuit " ++ (top ++ codes "\n")

-- the line of a fault of the written text; a cycle has none
abbrev pub fault_line : SpiceFault → ℕ
fault_line (spice.NoSuchCircuit line) = line
fault_line (spice.CircuitCycle name) = 0
fault_line (spice.PinCount line) = line
fault_line (spice.NameClash line) = line
fault_line (spice.UnknownCard line) = line
fault_line (spice.BadLine line) = line
fault_line (spice.ParameterRefused line) = line
fault_line (spice.Value line fault) = line
fault_line (spice.NotClosed line) = line
fault_line spice.NoMemory = 0

-- its number in the list of `lvs`
abbrev pub fault_number : SpiceFault → ℕ
fault_number (spice.NoSuchCircuit line) = 41
fault_number (spice.CircuitCycle name) = 42
fault_number (spice.PinCount line) = 43
fault_number (spice.NameClash line) = 44
fault_number (spice.UnknownCard line) = 50
fault_number (spice.BadLine line) = 51
fault_number (spice.ParameterRefused line) = 52
fault_number (spice.Value line fault) = 53
fault_number (spice.NotClosed line) = 54
fault_number spice.NoMemory = 0

-- the refusal of a fault of the written text, at the card that its line was
abbrev pub spice_refusal : List File → List Origin → List ℕ → SpiceFault → List ℕ
spice_refusal files origins lines fault =
    refusal files (origin_of origins (slice_index_or lines (fault_line fault - 1) 0))
    (codes "schematic " ++ decimal (fault_number fault))

-- a run stops with this line, or for want of memory
abbrev pub Says : List ℕ → Stop → Type 0
Says line (Refused text) = text.items ≡ line
Says line Outside = ⊥
Says line NoMemory = Unit {0}

-- a refusal with this line, where there was memory for it
abbrev pub StopsWith : {E : Type 0} → Result (Vec ℕ) E → Stop → Type 0
StopsWith (Ok line) stop = stop ≡ Refused line
StopsWith (Err e) stop = stop ≡ NoMemory

abbrev pub SaysJoin : List File → JoinFault → Stop → Type 0
SaysJoin files (joining.At cause at) stop = Says (refusal files at (why_text cause)) stop
SaysJoin files joining.NoMemory stop = stop ≡ NoMemory

abbrev pub SaysTurn : List File → List Origin → TurnFault → Stop → Type 0
SaysTurn files origins turn.NoMemory stop = stop ≡ NoMemory
SaysTurn files origins fault stop = Says (turn_refusal files origins fault) stop

abbrev pub SaysSpice : List File → List Origin → List ℕ → SpiceFault → Stop → Type 0
SaysSpice files origins lines spice.NoMemory stop = stop ≡ NoMemory
SaysSpice files origins lines fault stop = Says (spice_refusal files origins lines fault) stop

-- why files weren't loaded
abbrev pub SaysLoad : Failed → Stop → Type 0
SaysLoad load.Outside stop = stop ≡ Outside
SaysLoad (load.Absent path) stop =
    Says (codes "refused absent " ++ (string_bytes path ++ codes "\n")) stop
SaysLoad (load.TooLong path) stop =
    Says (codes "refused long " ++ (string_bytes path ++ codes "\n")) stop
SaysLoad load.TooMany stop = Says (codes "refused more than 10000 files\n") stop
SaysLoad load.NoMemory stop = stop ≡ NoMemory
