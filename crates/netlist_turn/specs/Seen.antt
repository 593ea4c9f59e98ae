-- What the code's records are.
use Rattle.std.specs.Prelude.{◌≡◌, map, Result, Err}
use Rattle.netlist_turn.specs.Made as made
use Rattle.netlist_turn.specs.declared.made.Told.{Told}
use Rattle.netlist_turn.specs.declared.made.Turned.{Turned}
use Rattle.netlist_turn.specs.declared.fault.TurnFault.{TurnFault}
use Rattle.netlist_turn.specs.declared.fault.TurnFault.TheVariants.{NoMemory}

abbrev pub told_seen : Told → made.Told
told_seen t = record { line = t.line; kind = t.kind; word = t.word.now }

abbrev pub seen : Turned → made.Made
seen t = record {
  text = t.text.items;
  lines = t.lines.items;
  told = map told_seen t.told.items;
  at = t.at;
}

-- the answer is this fault, or that there is no memory
abbrev pub SaysFault : TurnFault → Result made.Made TurnFault → Type 0
SaysFault NoMemory read = Unit {0}
SaysFault e read = read ≡ Err e
