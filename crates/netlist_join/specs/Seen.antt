-- What the code's records are.
use Rattle.std.specs.Prelude.{◌≡◌, ℕ, List, Option, Some, None, Result, Err}
use Rattle.std.specs.Option.{option_copied}
use Rattle.std.specs.Borrow.{Bor}
use Rattle.netlist_join.specs.Directives as spec
use Rattle.netlist_join.specs.Parts.{Taking}
use Rattle.netlist_join.specs.Joining as join
use Rattle.netlist_join.specs.declared.directive.Directive.{Directive}
use Rattle.netlist_join.specs.declared.directive.Directive.TheVariants as code
use Rattle.netlist_join.specs.declared.part.Part.{Part}
use Rattle.netlist_join.specs.declared.join.Call.{Call}
use Rattle.netlist_join.specs.declared.join.Joined.{Joined}
use Rattle.netlist_join.specs.declared.join.JoinFault.{JoinFault}
use Rattle.netlist_join.specs.declared.join.JoinFault.TheVariants.{NoMemory}

abbrev pub split_seen : Option (Bor (List ℕ) × Bor (List ℕ)) → Option spec.Split
split_seen None = None
split_seen (Some p) = Some (record { word = p.0.now; behind = p.1.now })

abbrev pub says : Directive → spec.Directive
says code.None = spec.Nothing
says (code.Include path) = spec.Include path.now
says (code.Section path name) = spec.Section path.now name.now
says (code.Begins name) = spec.Begins name.now
says code.Ends = spec.Ends
says code.EndsFile = spec.EndsFile
says code.Bad = spec.Bad

abbrev pub taking_seen : Part → Taking
taking_seen p = record { section = option_copied p.section; is_taken = p.is_taken; is_met = p.is_met }

abbrev pub call_seen : Call → join.Call
call_seen c = record { file = c.file; section = option_copied c.section }

abbrev pub call_some : Option Call → Option join.Call
call_some None = None
call_some (Some c) = Some (call_seen c)

abbrev pub seen : Joined → join.Made
seen j = record {
  text = j.text.items;
  origins = j.origins.items;
  has_title = j.has_title;
  is_fresh = j.is_fresh;
  comments = j.comments;
}

-- the answer is this fault, or that there is no memory
abbrev pub SaysFault : {A : Type 0} → JoinFault → Result A JoinFault → Type 0
SaysFault NoMemory read = Unit {0}
SaysFault e read = read ≡ Err e
